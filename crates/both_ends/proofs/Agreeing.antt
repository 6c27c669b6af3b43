-- A client that got all that a session sends up to the reply to its first attempt ends as the reply tells.
use Rattle.std.proofs.Common.{◌≡◌, refl, sym, ap, ◌∙◌, subst, ◌⊎◌, inl, inr, IsTrue, ℕ, ◌<◌, ◌^◌, Bool, true, false, List, [], ◌∷◌, ◌++◌, length, Some, Result, Ok, Err}
use Rattle.lg_base.specs.declared.errors.Code.TheVariants as code
use Rattle.packet_frame.specs.Packets.{id_after}
use Rattle.packet_frame.specs.declared.packets.Packet.{Packet}
use Rattle.factor_chain.specs.Checking.{known_fits_of}
use Rattle.factor_chain.specs.declared.credentials.Look.{Look}
use Rattle.factor_chain.specs.declared.credentials.Method.{Method}
use Rattle.factor_chain.specs.declared.credentials.Method.TheVariants.{Native, CachingSha2}
use Rattle.factor_chain.specs.declared.evidence_list.Evidence.{Evidence}
use Rattle.factor_chain.specs.declared.evidence_list.Evidence.TheVariants as evidence
use Rattle.account_history.specs.declared.entries.Reply.{Reply}
use Rattle.account_history.specs.declared.entries.Reply.TheVariants.{Opened, Sandbox, Blocked, Denied, Locked, MustChange}
use Rattle.account_history.specs.declared.entries.Who.TheVariants.{Login}
use Rattle.wire_form.specs.Payloads.{start}
use Rattle.auth_packets.specs.Handshake.{response, response_text}
use Rattle.auth_packets.specs.declared.handshake.Response.{Response}
use Rattle.packet_stream.specs.Sent.{id_behind}
use Rattle.interaction.specs.Talk.{Got, Says, Hears, Asks, Over}
use Rattle.session_talk.specs.Logins.{answering, attempt_of, caching, checking_or, claim_of, claimed, clear_evidence, clearing, greeting, heard_by, is_blank, is_named, locking, method_of, outcome, proved, proving, renewing, responded, session, settling_or, without_zero}
use Rattle.session_talk.specs.Owed.{Owed, owed}
use Rattle.session_talk.specs.Talk.{SessionTalk}
use Rattle.session_talk.specs.Texts.{days_of, greeting_of}
use Rattle.session_talk.specs.Turns.{takes}
use Rattle.session_talk.specs.declared.attempts.Attempting.{Attempting}
use Rattle.session_talk.specs.declared.attempts.Claim as said
use Rattle.session_talk.specs.declared.inputs.Input.{Input}
use Rattle.session_talk.specs.declared.inputs.Input.TheVariants as input
use Rattle.session_talk.proofs.Taking.{owed_by_kind}
use Rattle.session_talk.proofs.Words.{checked_taken, drawn_taken, locked_taken, look_taken, renewed_taken, settled_taken, start_taken, switched_to}
use Rattle.login_client.specs.Conversation as client-talk
use Rattle.login_client.specs.Conversation.{factors, full, further}
use Rattle.login_client.specs.Hearing.{IsHeard}
use Rattle.login_client.specs.Methods.{answer_of, clear_text}
use Rattle.login_client.specs.Talk as client
use Rattle.login_client.specs.Talk.{Leads, hearing}
use Rattle.login_client.specs.declared.claims.Claim.{Claim}
use Rattle.login_client.specs.declared.ends.LoginEnd.{LoginEnd}
use Rattle.login_client.specs.declared.ends.LoginEnd.TheVariants as end
use Rattle.login_client.specs.declared.ends.Reason.TheVariants.{NotLocal}
use Rattle.login_client.specs.declared.hearing.Heard.{Heard}
use Rattle.login_client.specs.declared.hearing.Heard.TheVariants.{Greets, Switches, Fast, Full, Accepts, Refuses}
use Rattle.login_client.specs.declared.methods.Method.TheVariants as client-method
use Rattle.both_ends.specs.Meeting.{AreNonces, EndsBy, HasWholeNonce, end_told, first_reply, payloads_of}
use Rattle.both_ends.proofs.Heard.{error-heard, fast-heard, full-heard, greeting-heard, ok-heard, switch-heard}
use Rattle.both_ends.proofs.Hearings.{IsCaching, IsReady, answered-caching, client_of, factors-ready, full-said, full-unsaid, greeting-answered, native-ready, responded-caching, switch-answered, switch-of}
use Rattle.both_ends.proofs.Saying.{ByReply}

-- ## A client beside a session

-- the client doesn't answer, since the server isn't on its machine
abbrev pub GaveUp : Claim → client.Talk → Type 0
GaveUp claim c = (claim.local ≡ false) × (c ≡ client.Over (end.WontSend NotLocal))

-- what is said of a reply is heard, and ends the client as the reply tells
abbrev pub Tells : client.Talk → Reply → SessionTalk → Type 0
Tells c reply (Says payload t) = (heard : Heard) × IsHeard payload heard × (hearing c heard ≡ client.Over (end_told reply))
Tells c reply _ = ⊥

-- The client goes along with a session: whatever the session is answered, what it says is heard, until the reply ends
-- the client, or the client gives up.
abbrev pub GoesAlong : Claim → client.Talk → SessionTalk → Type 0
GoesAlong claim c (Says payload t) = (heard : Heard) × IsHeard payload heard × (GoesAlong claim (hearing c heard) t ⊎ GaveUp claim (hearing c heard))
GoesAlong claim c (Hears anew k) = (payload : List ℕ) → GoesAlong claim c (k (Got payload))
GoesAlong claim c (Asks q k) = (given : Input) → IsTrue (takes q given) → HasWholeNonce given →
    ByReply (GoesAlong claim c (k given)) (λ reply. Tells c reply (k given)) given
GoesAlong claim c (Over how) = Unit {0}

-- ## What comes of it

-- over these payloads the client ends by a reply
abbrev pub Ends : Claim → client.Talk → Reply → List (List ℕ) → Type 0
Ends claim c reply got = (written : List (List ℕ)) × (how : LoginEnd) × Leads c got written (client.Over how) × EndsBy claim reply how

hears-first : (claim : Claim) (c : client.Talk) (reply : Reply) (payload : List ℕ) (got : List (List ℕ)) (heard : Heard) → IsHeard payload heard →
    Ends claim (hearing c heard) reply got → Ends claim c reply (payload ∷ got)
hears-first claim (client.Hears k) reply payload got heard is (written, how, leads, by) = (written, how, (heard, is, leads), by)
hears-first claim (client.Says text k) reply payload got heard is (written, how, leads, by) = (text ∷ written, how, (written, refl, heard, is, leads), by)
hears-first claim (client.Over how') reply payload got heard is (written, how, leads, by) = (written, how, leads, by)

is-over : (claim : Claim) (reply : Reply) (c : client.Talk) (how : LoginEnd) (got : List (List ℕ)) → c ≡ client.Over how → EndsBy claim reply how → Ends claim c reply got
is-over claim reply c how got over by = subst (λ (t : client.Talk). Ends claim t reply got) (sym over) ([], how, (refl, refl), by)

told-ends : (claim : Claim) (c : client.Talk) (reply : Reply) (t : SessionTalk) (next : ℕ) (packets : List Packet) (owns : List Input) (more : List (List ℕ)) → Tells c reply t →
    Ends claim c reply (payloads_of (owed next t packets owns).sent ++ more)
unfolding owed
told-ends claim c reply (Says payload t) next packets owns more (heard, is, over) =
    hears-first claim c reply payload _ heard is (is-over claim reply (hearing c heard) (end_told reply) _ over (inl refl))
told-ends claim c reply _ next packets owns more told = absurd told

some-reply : (found reply : Reply) → Some found ≡ Some reply → found ≡ reply
some-reply found reply e = cc

no-reply : (owns : List Input) (reply : Reply) → owns ≡ [] → first_reply owns ≡ Some reply → ⊥
no-reply owns reply none found = absurd (let e = ap first_reply none in cc)

none-left : (own : Input) (owns : List Input) → own ∷ owns ≡ [] → ⊥
none-left own owns e = cc

-- where all answers were come to, and one is a reply, the client has ended by it
pub goes-along : (claim : Claim) (reply : Reply) (more : List (List ℕ)) (t : SessionTalk) (c : client.Talk) (next : ℕ) (packets : List Packet) (owns : List Input) →
    GoesAlong claim c t → AreNonces owns → (owed next t packets owns).unused ≡ [] → first_reply owns ≡ Some reply →
    Ends claim c reply (payloads_of (owed next t packets owns).sent ++ more)
unfolding owed
goes-along claim reply more (Says payload t) c next packets owns (heard, is, inl goes) nonces used found =
    hears-first claim c reply payload _ heard is (goes-along claim reply more t (hearing c heard) (id_behind next payload) packets owns goes nonces used found)
goes-along claim reply more (Says payload t) c next packets owns (heard, is, inr gave) nonces used found =
    hears-first claim c reply payload _ heard is (is-over claim reply (hearing c heard) (end.WontSend NotLocal) _ gave.1 (inr (gave.0, refl)))
goes-along claim reply more (Hears anew k) c next (packet ∷ packets) owns goes nonces used found =
    goes-along claim reply more (k (Got packet.payload)) c (id_after packet.last) packets owns (goes packet.payload) nonces used found
goes-along claim reply more (Asks q k) c next packets (input.Settled replied ∷ owns) goes nonces used found =
    owed_by_kind next q k packets (input.Settled replied) owns (λ (o : Owed). o.unused ≡ [] → Ends claim c reply (payloads_of o.sent ++ more))
    (λ is all-used. subst (λ (r : Reply). Ends claim c r (payloads_of (owed next (k (input.Settled replied)) packets owns).sent ++ more)) (some-reply replied reply found)
    (told-ends claim c replied (k (input.Settled replied)) next packets owns more (goes (input.Settled replied) is tt)))
    (λ none. absurd (none-left (input.Settled replied) owns none)) used
goes-along claim reply more (Asks q k) c next packets (given ∷ owns) goes nonces used found =
    owed_by_kind next q k packets given owns (λ (o : Owed). o.unused ≡ [] → Ends claim c reply (payloads_of o.sent ++ more))
    (λ is all-used. goes-along claim reply more (k given) c next packets owns (goes given is nonces.0) nonces.1 all-used found)
    (λ none. absurd (none-left given owns none)) used
goes-along claim reply more _ c next _ owns goes nonces used found = absurd (no-reply owns reply used found)

-- ## A session

module _ (claim : Claim) where
  outcome-told : (c : client.Talk) → IsReady (hearing c) → (a : Attempting) (reply : Reply) → Tells c reply (outcome a reply)
  outcome-told c ready a (Opened account host) = (Accepts, ok-heard, ready.ok)
  outcome-told c ready a (Sandbox account host) = (Accepts, ok-heard, ready.ok)
  outcome-told c ready a (Blocked rule left) =
      (Refuses 3955, error-heard (code.Blocked a.user (days_of rule.time) left rule.attempts), ready.err 3955)
  outcome-told c ready a (Denied using_password) = (Refuses 1045, error-heard (code.Denied a.user using_password), ready.err 1045)
  outcome-told c ready a Locked = (Refuses 3118, error-heard (code.Locked a.user), ready.err 3118)
  outcome-told c ready a MustChange = (Refuses 1862, error-heard code.MustChange, ready.err 1862)

  -- of an answer, and of the talk after it
  abbrev Along : client.Talk → Input → SessionTalk → Type 0
  Along c given t = HasWholeNonce given → ByReply (GoesAlong claim c t) (λ reply. Tells c reply t) given

  locking-along : (c : client.Talk) → IsReady (hearing c) → (a : Attempting) (evidences : List Evidence) → GoesAlong claim c (locking a evidences)
  locking-along c ready a evidences = locked_taken (Along c) a.user evidences a.flags (outcome a) (λ reply whole. outcome-told c ready a reply)

  checking-along : (c : client.Talk) → IsReady (hearing c) → (stale : SessionTalk) → GoesAlong claim c stale → (a : Attempting) (look : Look) (evidences : List Evidence) →
      GoesAlong claim c (checking_or stale a look evidences)
  checking-along c ready stale goes a look evidences =
      checked_taken (Along c) look evidences (settling_or stale a (record { look = look; evidences = evidences }))
      (λ checked whole. settled_taken (Along c) (record { look = look; evidences = evidences }) a.flags stale (outcome a)
      (λ back whole'. goes) (λ reply whole'. outcome-told c ready a reply))

  renewing-along : (c : client.Talk) → IsReady (hearing c) → (a : Attempting) (evidences : List Evidence) → GoesAlong claim c (renewing a evidences)
  renewing-along c ready a evidences =
      renewed_taken (Along c) (Login a.user) (λ look. checking_or (locking a evidences) a look evidences)
      (λ look whole. checking-along c ready (locking a evidences) (locking-along c ready a evidences) a look evidences)

  proved-along : (c : client.Talk) → IsReady (hearing c) → (a : Attempting) (look : Look) (given : Evidence) → GoesAlong claim c (proved a look given)
  proved-along c ready a look given =
      checking-along c ready (renewing a (given ∷ [])) (renewing-along c ready a (given ∷ [])) a look (given ∷ [])

  full-along : (c : client.Talk) (a : Attempting) (look : Look) (local : Bool) → claim.local ≡ local → c ≡ full claim →
      GoesAlong claim c (clearing a look) ⊎ GaveUp claim c
  unfolding heard_by
  full-along c a look true local is =
      inl (subst (λ (d : client.Talk). GoesAlong claim d (clearing a look)) (sym (is ∙ full-said claim local))
      (λ text. proved-along (client.Says (clear_text claim.secrets.first) (factors claim (further claim))) (factors-ready claim) a look (clear_evidence (without_zero text))))
  full-along c a look false local is = inr (local, is ∙ full-unsaid claim local)

  caching-along : (c : client.Talk) → IsCaching claim (hearing c) → (a : Attempting) (look : Look) (nonce bytes : List ℕ) (known : Bool) → GoesAlong claim c (caching a look nonce bytes known)
  caching-along c ready a look nonce bytes true = (
    Fast,
    fast-heard,
    inl (subst (λ (d : client.Talk). GoesAlong claim d (proved a look (evidence.Fast nonce bytes))) (sym ready.fast)
        (proved-along (client.Hears (factors claim (further claim))) (factors-ready claim) a look (evidence.Fast nonce bytes))),
  )
  caching-along c ready a look nonce bytes false = (Full, full-heard, full-along (hearing c Full) a look claim.local refl ready.full)

  -- a client that goes on by the account's method
  Knows : Method → (Heard → client.Talk) → Type 0
  Knows Native k = IsReady k
  Knows CachingSha2 k = IsCaching claim k

  knows-ready : (method : Method) (k : Heard → client.Talk) → Knows method k → IsReady k
  unfolding Knows
  knows-ready Native k knows = knows
  knows-ready CachingSha2 k knows = knows.ready

  caching-knows : (method : Method) (k : Heard → client.Talk) → IsCaching claim k → Knows method k
  unfolding Knows
  caching-knows Native k is = is.ready
  caching-knows CachingSha2 k is = is

  answered-knows : (method : Method) → Knows method (client-talk.answered claim (client_of method))
  unfolding Knows
  answered-knows Native = native-ready claim
  answered-knows CachingSha2 = answered-caching claim

  proving-along : (c : client.Talk) (a : Attempting) (look : Look) (nonce bytes : List ℕ) (method : Method) → Knows method (hearing c) → GoesAlong claim c (proving a look nonce bytes method)
  unfolding Knows
  proving-along c a look nonce bytes Native knows = proved-along c knows a look (evidence.Native nonce bytes)
  proving-along c a look nonce bytes CachingSha2 knows = caching-along c knows a look nonce bytes (known_fits_of look.in_force nonce bytes)

  answering-along : (c : client.Talk) (a : Attempting) (look : Look) (nonce bytes : List ℕ) (blank : Bool) → Knows (method_of look) (hearing c) → GoesAlong claim c (answering a look nonce bytes blank)
  answering-along c a look nonce bytes true knows = proved-along c (knows-ready (method_of look) (hearing c) knows) a look evidence.Empty
  answering-along c a look nonce bytes false knows = proving-along c a look nonce bytes (method_of look) knows

  -- the client after its response
  responding : List ℕ → client.Talk
  responding nonce = client.Says (response_text (client-talk.response_to claim client-method.CachingSha2 nonce)) (client-talk.responded claim client-method.CachingSha2)

  switched-along : (first : List ℕ) (a : Attempting) (look : Look) (nonce : List ℕ) → length nonce ≡ 20 → GoesAlong claim (responding first) (switched_to a look nonce)
  unfolding responding heard_by
  switched-along first a look nonce size = (
    Switches (switch-of (method_of look) nonce) 23,
    switch-heard (method_of look) nonce,
    inl (subst (λ (d : client.Talk). (bytes : List ℕ) → GoesAlong claim d (answering a look nonce bytes (is_blank bytes))) (sym (switch-answered claim (method_of look) nonce 23 size))
        (λ bytes. answering-along (client.Says (answer_of (client_of (method_of look)) claim.secrets.first nonce) (client-talk.answered claim (client_of (method_of look)))) a look nonce bytes (is_blank bytes) (answered-knows (method_of look)))),
  )

  claimed-along : (first : List ℕ) (a : Attempting) (claimed-by : said.Claim) (look : Look) (named : Bool) → GoesAlong claim (responding first) (claimed a claimed-by look named)
  unfolding responding
  claimed-along first a claimed-by look true =
      answering-along (responding first) a look claimed-by.nonce claimed-by.auth (is_blank claimed-by.auth)
      (caching-knows (method_of look) (client-talk.responded claim client-method.CachingSha2) (responded-caching claim))
  claimed-along first a claimed-by look false = drawn_taken (Along (responding first)) (switched_to a look) (switched-along first a look)

  bad-heard : (first : List ℕ) (at : ℕ) (nonce : List ℕ) → GoesAlong claim (responding first) (responded nonce (Err at))
  bad-heard first at nonce = (Refuses 1043, error-heard code.BadHandshake, inl (tt {0}))

  responded-along : (first nonce : List ℕ) (found : Result Response ℕ) → GoesAlong claim (responding first) (responded nonce found)
  responded-along first nonce (Ok answer) =
      let a = attempt_of answer in
      let by = claim_of nonce answer in
      look_taken (Along (responding first)) (Login a.user) (λ look. claimed a by look (is_named by look))
      (λ look whole. claimed-along first a by look (is_named by look))
  responded-along first nonce (Err at) = bad-heard first at nonce

  greeting-along : (id : ℕ) → id < 2 ^ 32 → (nonce : List ℕ) → length nonce ≡ 20 → GoesAlong claim (client-talk.conversation claim) (greeting id nonce)
  unfolding responding heard_by
  greeting-along id small nonce size = (
    Greets (greeting_of id nonce),
    greeting-heard id nonce small size,
    inl (subst (λ (d : client.Talk). (payload : List ℕ) → GoesAlong claim d (responded nonce (response.read (start payload)))) (sym (greeting-answered claim id nonce))
        (λ payload. responded-along nonce nonce (response.read (start payload)))),
  )

  pub session-along : (id : ℕ) → id < 2 ^ 32 → GoesAlong claim (client-talk.conversation claim) (session id)
  session-along id small = start_taken (Along (client-talk.conversation claim)) (greeting id) (greeting-along id small)
