-- Each conversation is the beginning of a session.
use Rattle.std.proofs.Common.{◌≡◌, ◌≢◌, refl, ap, sym, subst, inl, inr, ℕ, zero, suc, Bool, true, false, List, [], ◌∷◌, ◌++◌, Result, Ok, Err}
use Rattle.std.proofs.lemmas.Slice.Eq.{bytes_eq-Decides}
use Rattle.lg_base.specs.declared.errors.Code.{Code}
use Rattle.lg_base.specs.Errors.{number_of}
use Rattle.factor_chain.specs.Checking.{known_fits_of}
use Rattle.factor_chain.specs.declared.credentials.Look.{Look}
use Rattle.factor_chain.specs.declared.credentials.Method.{Method}
use Rattle.factor_chain.specs.declared.credentials.Method.TheVariants.{Native, CachingSha2}
use Rattle.factor_chain.specs.declared.evidence_list.Evidence.{Evidence}
use Rattle.account_history.specs.declared.entries.Reply.{Reply}
use Rattle.wire_form.specs.Payloads.{start}
use Rattle.auth_packets.specs.Handshake.{response}
use Rattle.auth_packets.specs.declared.handshake.Response.{Response}
use Rattle.auth_packets.proofs.HandshakeLaws.{response-lawful}
use Rattle.interaction.specs.Talk.{Over}
use Rattle.session_talk.specs.declared.attempts.Attempting.{Attempting}
use Rattle.session_talk.specs.declared.attempts.Claim.{Claim}
use Rattle.session_talk.specs.declared.ends.SessionEnd.TheVariants as end
use Rattle.session_talk.specs.declared.open_session.OpenSession.{OpenSession}
use Rattle.session_talk.specs.Conversation.{Conversation, Goes, Move, Sent, Exchange, Named, Switched, IsExchange, exchange_moves, nonce_in, answer_in, Proof, Blank, Answered, Known, Clear, IsBlank, IsProof, proof_moves, evidence_in, Settling, AtOnce, Once, Twice, settling_moves, last_payload}
use Rattle.session_talk.specs.Logins.{answer, answered, answering, attempt_of, caching, claim_of, claimed, commands, decided, heard_by, is_blank, is_named, method_of, proved, proving, responded, session}
use Rattle.session_talk.specs.Talk.{SessionTalk, on_checked, on_drawn, on_locked, on_look, on_settled, on_start}
use Rattle.session_talk.specs.Texts.{method_name}

-- where a session stands after the reply
after_of : Result OpenSession Code → SessionTalk
after_of (Ok opened) = commands opened
after_of (Err error) = Over (end.Refused (number_of error))

-- what is told of a reply
told : (found : Result OpenSession Code) → Goes (answered found) (Sent (last_payload found) ∷ []) (after_of found)
unfolding after_of
told (Ok opened) = (refl, refl)
told (Err error) = (refl, refl)

-- the moves from the settling on
abbrev pub last_moves : Attempting → Look → Evidence → Settling → Reply → List Move
last_moves a look given settling reply =
    settling_moves a.user look (given ∷ []) a.flags settling reply ++ Sent (last_payload (decided a reply)) ∷ []

settles : (a : Attempting) (look : Look) (given : Evidence) (settling : Settling) (reply : Reply) →
    Goes (proved a look given) (last_moves a look given settling reply) (after_of (decided a reply))
unfolding on_look on_checked on_settled on_locked
settles a look given AtOnce reply = (refl, refl, refl, told (decided a reply))
settles a look given (Once again) reply = (refl, (refl, refl, refl, told (decided a reply)))
settles a look given (Twice again) reply = (refl, (refl, refl, refl, told (decided a reply)))

is_blank-true : (bytes : List ℕ) → IsBlank bytes → is_blank bytes ≡ true
is_blank-true bytes (inl e) = ap is_blank e
is_blank-true bytes (inr e) = ap is_blank e

is_blank-false : (bytes : List ℕ) → ¬ IsBlank bytes → is_blank bytes ≡ false
is_blank-false [] is_not = absurd (is_not (inl refl))
is_blank-false (zero ∷ []) is_not = absurd (is_not (inr refl))
is_blank-false (suc b ∷ []) is_not = refl
is_blank-false (b ∷ c ∷ bytes) is_not = refl

-- a talk by tests, and what they say
answers : (a : Attempting) (look : Look) (nonce bytes : List ℕ) (moves : List Move) (after : SessionTalk) (blank : Bool) → is_blank bytes ≡ blank →
    Goes (answering a look nonce bytes blank) moves after → Goes (answer a look nonce bytes) moves after
answers a look nonce bytes moves after blank e goes = subst (λ (b : Bool). Goes (answering a look nonce bytes b) moves after) (sym e) goes

proves : (a : Attempting) (look : Look) (nonce bytes : List ℕ) (moves : List Move) (after : SessionTalk) (method : Method) → method_of look ≡ method →
    Goes (proving a look nonce bytes method) moves after → Goes (answering a look nonce bytes false) moves after
proves a look nonce bytes moves after method e goes = subst (λ (m : Method). Goes (proving a look nonce bytes m) moves after) (sym e) goes

knows : (a : Attempting) (look : Look) (nonce bytes : List ℕ) (moves : List Move) (after : SessionTalk) (known : Bool) → known_fits_of look.in_force nonce bytes ≡ known →
    Goes (caching a look nonce bytes known) moves after → Goes (proving a look nonce bytes CachingSha2) moves after
knows a look nonce bytes moves after known e goes = subst (λ (b : Bool). Goes (caching a look nonce bytes b) moves after) (sym e) goes

-- the answer to a nonce, and all that follows it
answers_on : (a : Attempting) (look : Look) (nonce bytes : List ℕ) (proof : Proof) (settling : Settling) (reply : Reply) → IsProof look nonce bytes proof →
    Goes (answer a look nonce bytes) (proof_moves proof ++ last_moves a look (evidence_in nonce bytes proof) settling reply) (after_of (decided a reply))
unfolding heard_by
answers_on a look nonce bytes Blank settling reply is =
    answers a look nonce bytes _ _ true (is_blank-true bytes is) (settles a look _ settling reply)
answers_on a look nonce bytes Answered settling reply is =
    answers a look nonce bytes _ _ false (is_blank-false bytes is.0) (proves a look nonce bytes _ _ Native is.1 (settles a look _ settling reply))
answers_on a look nonce bytes Known settling reply is =
    answers a look nonce bytes _ _ false (is_blank-false bytes is.0)
    (proves a look nonce bytes _ _ CachingSha2 is.1 (knows a look nonce bytes _ _ true is.2 (refl, settles a look _ settling reply)))
answers_on a look nonce bytes (Clear text) settling reply is =
    answers a look nonce bytes _ _ false (is_blank-false bytes is.0)
    (proves a look nonce bytes _ _ CachingSha2 is.1 (knows a look nonce bytes _ _ false is.2 (refl, settles a look _ settling reply)))

-- the method, and all that follows
names : (a : Attempting) (claim : Claim) (look : Look) (moves : List Move) (after : SessionTalk) (named : Bool) → is_named claim look ≡ named →
    Goes (claimed a claim look named) moves after → Goes (claimed a claim look (is_named claim look)) moves after
names a claim look moves after named e goes = subst (λ (b : Bool). Goes (claimed a claim look b) moves after) (sym e) goes

is_named-true : (claim : Claim) (look : Look) → claim.plugin ≡ method_name (method_of look) → is_named claim look ≡ true
is_named-true claim look e = (bytes_eq-Decides claim.plugin (method_name (method_of look))).1 e

is_named-false : (claim : Claim) (look : Look) (test : Bool) → is_named claim look ≡ test → claim.plugin ≢ method_name (method_of look) → test ≡ false
is_named-false claim look true e other = absurd (other ((bytes_eq-Decides claim.plugin (method_name (method_of look))).0 e))
is_named-false claim look false e other = refl

claims : (nonce : List ℕ) (said : Response) (look : Look) (exchange : Exchange) (proof : Proof) (settling : Settling) (reply : Reply) →
    IsExchange said look exchange → IsProof look (nonce_in nonce exchange) (answer_in said exchange) proof →
    Goes (claimed (attempt_of said) (claim_of nonce said) look (is_named (claim_of nonce said) look))
    (exchange_moves look exchange ++ (proof_moves proof
    ++ last_moves (attempt_of said) look (evidence_in (nonce_in nonce exchange) (answer_in said exchange) proof) settling reply))
    (after_of (decided (attempt_of said) reply))
unfolding heard_by on_drawn
claims nonce said look Named proof settling reply is_exchange is_proof =
    names (attempt_of said) (claim_of nonce said) look _ _ true (is_named-true (claim_of nonce said) look is_exchange)
    (answers_on (attempt_of said) look nonce said.auth proof settling reply is_proof)
claims nonce said look (Switched fresh bytes) proof settling reply is_exchange is_proof =
    names (attempt_of said) (claim_of nonce said) look _ _ false (is_named-false (claim_of nonce said) look _ refl is_exchange)
    (refl, answers_on (attempt_of said) look fresh bytes proof settling reply is_proof)

-- the response, and all that follows
responds : (nonce payload : List ℕ) (said : Response) (moves : List Move) (after : SessionTalk) → response.Spells said payload →
    Goes (responded nonce (Ok said)) moves after → Goes (responded nonce (response.read (start payload))) moves after
responds nonce payload said moves after spelled goes =
    subst (λ (r : Result Response ℕ). Goes (responded nonce r) moves after) (sym (response-lawful.only (start payload) said spelled)) goes

pub each_goes : (id : ℕ) (moves : List Move) (reply : Reply) → Conversation id moves reply → (after : SessionTalk) × Goes (session id) moves after
unfolding heard_by on_start on_look
each_goes id moves reply c = (
  after_of (decided (attempt_of c.said) reply),
  subst (λ (ms : List Move). Goes (session id) ms (after_of (decided (attempt_of c.said) reply))) (sym c.laid_out) (
    refl,
    responds c.nonce c.payload c.said _ _ c.spelled
        (refl, claims c.nonce c.said c.look c.exchange c.proof c.settling reply c.exchanged c.proved),
  ),
)
