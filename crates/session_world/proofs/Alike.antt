-- A session and a client of its machine count alike: what the session says is short, and each hears where the other says
-- something, until a reply is told.
use Rattle.std.proofs.Common.{◌≡◌, refl, sym, ◌∙◌, subst, inl, inr, ℕ, ◌+◌, ◌<◌, ◌^◌, Bool, true, false, List, [], ◌∷◌, ◌++◌, length, drop, take, replicate, Result, Ok, Err, length-append, length-drop, arith}
use Rattle.std.proofs.lemmas.List.{length-take-le}
use Rattle.lg_base.specs.Fields.{little_text}
use Rattle.lg_base.specs.declared.errors.Code.TheVariants as code
use Rattle.factor_chain.specs.Checking.{known_fits_of}
use Rattle.factor_chain.specs.declared.credentials.Look.{Look}
use Rattle.factor_chain.specs.declared.credentials.Method.{Method}
use Rattle.factor_chain.specs.declared.credentials.Method.TheVariants.{Native, CachingSha2}
use Rattle.factor_chain.specs.declared.evidence_list.Evidence.{Evidence}
use Rattle.factor_chain.specs.declared.evidence_list.Evidence.TheVariants as evidence
use Rattle.account_history.specs.declared.entries.Reply.{Reply}
use Rattle.account_history.specs.declared.entries.Reply.TheVariants.{Opened, Sandbox, Blocked, Denied, Locked, MustChange}
use Rattle.wire_form.specs.Payloads.{start}
use Rattle.auth_packets.specs.Exchange.{more_text, switch_text}
use Rattle.auth_packets.specs.Handshake.{greeting_text, nonce_text, opening_text, response, session_text}
use Rattle.auth_packets.specs.Replies.{ok_text}
use Rattle.auth_packets.specs.declared.handshake.Greeting.{Greeting}
use Rattle.auth_packets.specs.declared.handshake.Response.{Response}
use Rattle.session_talk.specs.Logins.{answering, attempt_of, caching, claim_of, claimed, clear_evidence, clearing, greeted, heard_by, is_blank, is_named, method_of, outcome, proved, proving, responded, session, switched, without_zero}
use Rattle.session_talk.specs.Talk.{on_checked, on_drawn, on_locked, on_look, on_settled, on_start}
use Rattle.session_talk.specs.Texts.{caching_name, days_of, fast_payload, full_payload, greeting_of, greeting_payload, method_name, native_name, ok_payload, switch_payload, version}
use Rattle.session_talk.specs.declared.attempts.Attempting.{Attempting}
use Rattle.session_talk.specs.declared.attempts.Claim as said
use Rattle.login_client.specs.Conversation as client-talk
use Rattle.login_client.specs.Conversation.{factors, full, further}
use Rattle.login_client.specs.Talk as client
use Rattle.login_client.specs.declared.claims.Claim.{Claim}
use Rattle.login_client.specs.declared.ends.LoginEnd.TheVariants as end
use Rattle.login_client.specs.declared.hearing.Heard.{Heard}
use Rattle.login_client.specs.declared.hearing.Heard.TheVariants.{Greets, Switches, Fast, Full, Accepts, Refuses}
use Rattle.login_client.specs.declared.methods.Method.TheVariants as client-method
use Rattle.both_ends.proofs.Heard.{error-heard, fast-heard, full-heard, greeting-heard, ok-heard, switch-heard}
use Rattle.both_ends.proofs.Hearings.{IsCaching, IsReady, answered-caching, client_of, factors-ready, full-said, greeting-answered, native-ready, responded-caching, switch-answered, switch-of}
use Rattle.session_world.specs.BothEnds.{HasWords}
use Rattle.session_world.proofs.Counting.{Fits, IsShort, TellsEnd}
use Rattle.session_world.proofs.Worded.{blocked_short, denied_short, locked_short, must_change_short}

-- ## What is said is short

ok_short : IsShort ok_payload
unfolding ok_payload ok_text
ok_short = omega arith

fast_short : IsShort fast_payload
unfolding fast_payload more_text
fast_short = omega arith

full_short : IsShort full_payload
unfolding full_payload more_text
full_short = omega arith

name_length : (method : Method) → length (method_name method) ≡ 21
unfolding native_name caching_name
name_length Native = refl
name_length CachingSha2 = refl

switch_short : (method : Method) (nonce : List ℕ) → length nonce ≡ 20 → IsShort (switch_payload method nonce)
unfolding switch_payload switch_text
switch_short method nonce size =
    let head = length-append (0xfe ∷ [] ++ (method_name method ++ 0 ∷ [])) (nonce ++ 0 ∷ []) in
    let front = length-append (0xfe ∷ []) (method_name method ++ 0 ∷ []) in
    let named = length-append (method_name method) (0 ∷ []) in
    let body = length-append nonce (0 ∷ []) in
    omega (arith, head, front, named, body, name_length method, size)

version_length : length version ≡ 11
unfolding version
version_length = refl

-- the parts of a greeting
opening_length : (g : Greeting) → length (opening_text g) ≡ length g.version + length (take 8 g.nonce) + 7
unfolding opening_text
opening_length g =
    let named : List ℕ = 0x0a ∷ [] ++ (g.version ++ 0 ∷ []) in
    omega (
      arith,
      length-append (named ++ little_text 4 g.id ++ take 8 g.nonce) (0 ∷ []),
      length-append (named ++ little_text 4 g.id) (take 8 g.nonce),
      length-append named (little_text 4 g.id),
      length-append (0x0a ∷ []) (g.version ++ 0 ∷ []),
      length-append g.version (0 ∷ []),
    )

session_length : (g : Greeting) → length (session_text g) ≡ 7
unfolding session_text
session_length g = refl

nonce_length : (g : Greeting) → length (nonce_text g) ≡ length (drop 8 g.nonce) + 12
unfolding nonce_text
nonce_length g =
    let filled : List ℕ = 21 ∷ [] ++ replicate 10 0 in
    omega (arith, length-append (filled ++ drop 8 g.nonce) (0 ∷ []), length-append filled (drop 8 g.nonce))

greeting_length : (g : Greeting) → length g.version ≡ 11 → length g.plugin ≡ 21 → length g.nonce ≡ 20 → IsShort (greeting_text g)
unfolding greeting_text
greeting_length g version_is plugin_is nonce_is =
    omega (
      arith,
      length-append (opening_text g ++ session_text g ++ nonce_text g) (g.plugin ++ 0 ∷ []),
      length-append (opening_text g ++ session_text g) (nonce_text g),
      length-append (opening_text g) (session_text g),
      length-append g.plugin (0 ∷ []),
      opening_length g,
      session_length g,
      nonce_length g,
      length-take-le 8 g.nonce (omega (arith, nonce_is)),
      length-drop 8 g.nonce,
      version_is,
      plugin_is,
      nonce_is,
    )

greeting_short : (id : ℕ) (nonce : List ℕ) → length nonce ≡ 20 → IsShort (greeting_payload id nonce)
unfolding greeting_payload greeting_of
greeting_short id nonce size = greeting_length (greeting_of id nonce) version_length (name_length CachingSha2) size

-- ## A session

module _ (claim : Claim) (local : claim.local ≡ true) where
  outcome_told : (k : Heard → client.Talk) → IsReady k → (a : Attempting) (reply : Reply) → HasWords reply → TellsEnd (client.Hears k) (outcome a reply)
  outcome_told k ready a (Opened account host) words = (ok_short, Accepts, ok-heard, end.Opened, ready.ok)
  outcome_told k ready a (Sandbox account host) words = (ok_short, Accepts, ok-heard, end.Opened, ready.ok)
  outcome_told k ready a (Blocked rule left) words = (
    blocked_short a.user rule.time left rule.attempts words.0 words.1 words.2,
    Refuses 3955,
    error-heard (code.Blocked a.user (days_of rule.time) left rule.attempts),
    end.Refused 3955,
    ready.err 3955,
  )
  outcome_told k ready a (Denied using_password) words =
      (denied_short a.user using_password, Refuses 1045, error-heard (code.Denied a.user using_password), end.Refused 1045, ready.err 1045)
  outcome_told k ready a Locked words = (locked_short a.user, Refuses 3118, error-heard (code.Locked a.user), end.Refused 3118, ready.err 3118)
  outcome_told k ready a MustChange words = (must_change_short, Refuses 1862, error-heard code.MustChange, end.Refused 1862, ready.err 1862)

  proved_fits : (k : Heard → client.Talk) → IsReady k → (a : Attempting) (look : Look) (given : Evidence) → Fits (proved a look given) (client.Hears k)
  unfolding on_checked on_settled on_look on_locked
  proved_fits k ready a look given = λ checked. (
    (λ evidences again checked-again. ((λ evidences-again. outcome_told k ready a), outcome_told k ready a)),
    outcome_told k ready a,
  )

  caching_fits : (k : Heard → client.Talk) → IsCaching claim k → (a : Attempting) (look : Look) (nonce bytes : List ℕ) (known : Bool) →
      Fits (caching a look nonce bytes known) (client.Hears k)
  unfolding heard_by
  caching_fits k ready a look nonce bytes true = inr (
    fast_short,
    Fast,
    fast-heard,
    subst (λ (c : client.Talk). Fits (proved a look (evidence.Fast nonce bytes)) c) (sym ready.fast)
        (proved_fits (factors claim (further claim)) (factors-ready claim) a look (evidence.Fast nonce bytes)),
  )
  caching_fits k ready a look nonce bytes false = inr (
    full_short,
    Full,
    full-heard,
    subst (λ (c : client.Talk). Fits (clearing a look) c) (sym (ready.full ∙ full-said claim local))
        (λ text. proved_fits (factors claim (further claim)) (factors-ready claim) a look (clear_evidence (without_zero text))),
  )

  -- a client that goes on by the account's method
  Knows : Method → (Heard → client.Talk) → Type 0
  Knows Native k = IsReady k
  Knows CachingSha2 k = IsCaching claim k

  knows_ready : (method : Method) (k : Heard → client.Talk) → Knows method k → IsReady k
  unfolding Knows
  knows_ready Native k knows = knows
  knows_ready CachingSha2 k knows = knows.ready

  caching_knows : (method : Method) (k : Heard → client.Talk) → IsCaching claim k → Knows method k
  unfolding Knows
  caching_knows Native k is = is.ready
  caching_knows CachingSha2 k is = is

  answered_knows : (method : Method) → Knows method (client-talk.answered claim (client_of method))
  unfolding Knows
  answered_knows Native = native-ready claim
  answered_knows CachingSha2 = answered-caching claim

  proving_fits : (k : Heard → client.Talk) (a : Attempting) (look : Look) (nonce bytes : List ℕ) (method : Method) → Knows method k →
      Fits (proving a look nonce bytes method) (client.Hears k)
  unfolding Knows
  proving_fits k a look nonce bytes Native knows = proved_fits k knows a look (evidence.Native nonce bytes)
  proving_fits k a look nonce bytes CachingSha2 knows = caching_fits k knows a look nonce bytes (known_fits_of look.in_force nonce bytes)

  answering_fits : (k : Heard → client.Talk) (a : Attempting) (look : Look) (nonce bytes : List ℕ) (blank : Bool) → Knows (method_of look) k →
      Fits (answering a look nonce bytes blank) (client.Hears k)
  answering_fits k a look nonce bytes true knows = proved_fits k (knows_ready (method_of look) k knows) a look evidence.Empty
  answering_fits k a look nonce bytes false knows = proving_fits k a look nonce bytes (method_of look) knows

  -- what the client hears after its response
  abbrev answers : Heard → client.Talk
  answers = client-talk.responded claim client-method.CachingSha2

  claimed_fits : (a : Attempting) (claimed-by : said.Claim) (look : Look) (named : Bool) → Fits (claimed a claimed-by look named) (client.Hears answers)
  unfolding on_drawn heard_by
  claimed_fits a claimed-by look true =
      answering_fits answers a look claimed-by.nonce claimed-by.auth (is_blank claimed-by.auth) (caching_knows (method_of look) answers (responded-caching claim))
  claimed_fits a claimed-by look false = λ nonce size. inr (
    switch_short (method_of look) nonce size,
    Switches (switch-of (method_of look) nonce) 23,
    switch-heard (method_of look) nonce,
    subst (λ (c : client.Talk). Fits (switched a look nonce) c) (sym (switch-answered claim (method_of look) nonce 23 size))
        (λ bytes. answering_fits (client-talk.answered claim (client_of (method_of look))) a look nonce bytes (is_blank bytes) (answered_knows (method_of look))),
  )

  responded_fits : (nonce : List ℕ) (found : Result Response ℕ) → Fits (responded nonce found) (client.Hears answers)
  unfolding on_look
  responded_fits nonce (Ok answer) = λ look. claimed_fits (attempt_of answer) (claim_of nonce answer) look (is_named (claim_of nonce answer) look)
  responded_fits nonce (Err at) = inl (tt {0})

  pub session_fits : (id : ℕ) → id < 2 ^ 32 → Fits (session id) (client-talk.conversation claim)
  unfolding on_start heard_by
  session_fits id small nonce size = inr (
    greeting_short id nonce size,
    Greets (greeting_of id nonce),
    greeting-heard id nonce small size,
    subst (λ (c : client.Talk). Fits (greeted nonce) c) (sym (greeting-answered claim id nonce)) (λ payload. responded_fits nonce (response.read (start payload))),
  )
