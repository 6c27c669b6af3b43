-- What holds of all payloads that a session sends: of those before its first attempt is settled, and of those after.
use Rattle.std.proofs.Common.{◌≡◌, refl, subst, ◌⊎◌, inl, inr, IsTrue, ℕ, zero, suc, ◌<◌, Bool, true, false, List, [], ◌∷◌, ◌++◌, length, get_or, Contains, Option, Some, Result, Ok, Err, arith}
use Rattle.lg_base.specs.declared.errors.Code.{Code}
use Rattle.lg_base.specs.declared.errors.Code.TheVariants as code
use Rattle.packet_frame.specs.Packets.{id_after}
use Rattle.packet_frame.specs.declared.packets.Packet.{Packet}
use Rattle.factor_chain.specs.Checking.{known_fits_of}
use Rattle.factor_chain.specs.declared.credentials.Look.{Look}
use Rattle.factor_chain.specs.declared.credentials.Method.{Method}
use Rattle.factor_chain.specs.declared.credentials.Method.TheVariants.{Native, CachingSha2}
use Rattle.factor_chain.specs.declared.evidence_list.Evidence.{Evidence}
use Rattle.factor_chain.specs.declared.evidence_list.Evidence.TheVariants as evidence
use Rattle.account_history.specs.Preparing.{PreparedOf, is_preparable, who_of}
use Rattle.account_history.specs.Refusals.{auth_of}
use Rattle.account_history.specs.declared.entries.Reply.{Reply}
use Rattle.account_history.specs.declared.entries.StmtReply.{StmtReply}
use Rattle.account_history.specs.declared.entries.StmtReply.TheVariants.{Done, Refused}
use Rattle.account_history.specs.declared.entries.Reply.TheVariants.{Opened, Sandbox, Blocked, Denied, Locked, MustChange}
use Rattle.account_history.specs.declared.entries.Who.TheVariants.{Login}
use Rattle.wire_form.specs.Payloads.{start}
use Rattle.auth_packets.specs.Commands.{command}
use Rattle.auth_packets.specs.Handshake.{response}
use Rattle.auth_packets.specs.declared.commands.Command.{Command}
use Rattle.auth_packets.specs.declared.commands.Command.TheVariants.{Quit, Query, Ping, Reset, ChangeUser as Change, Other, Nothing}
use Rattle.auth_packets.specs.declared.handshake.Response.{Response}
use Rattle.packet_stream.specs.Sent.{id_behind}
use Rattle.interaction.specs.Talk.{Got, Says, Hears, Asks, Over}
use Rattle.session_talk.specs.Logins.{all_commands, answering, attempt_of, caching, checking_or, claim_of, claimed, clear_evidence, commanded, commands_left, greeting, heard_by, is_blank, is_named, locking, method_of, next_command, opened_on, outcome, proved, proving, renewing, responded, session, settling_or, with_left, without_zero}
use Rattle.session_talk.specs.Owed.{Owed, owed}
use Rattle.session_talk.specs.Statements.{committing_locked, committing_or, executing, has_password, is_let_through, looking_again, no_salt, out_of_sandbox, preparing, preparing_or, queried_for, ran, salted, stated, statement_in}
use Rattle.session_talk.specs.Talk.{SessionTalk}
use Rattle.session_talk.specs.Texts.{error_payload, fast_payload, full_payload, greeting_payload, ok_payload, switch_payload}
use Rattle.session_talk.specs.Turns.{takes}
use Rattle.session_talk.specs.declared.attempts.Attempting.{Attempting}
use Rattle.session_talk.specs.declared.attempts.Claim.{Claim}
use Rattle.session_talk.specs.declared.inputs.Input.{Input}
use Rattle.session_talk.specs.declared.inputs.Input.TheVariants as input
use Rattle.session_talk.specs.declared.open_session.OpenSession.{OpenSession}
use Rattle.stmt_rules.specs.declared.statement.Statement.{Statement}
use Rattle.session_talk.proofs.Taking.{owed_by_kind}
use Rattle.session_talk.proofs.Words.{checked_taken, drawn_taken, locked_taken, look_taken, prepared_taken, ran_locked_taken, ran_plain_taken, ran_taken, renewed_taken, settled_taken, start_taken, switched_to}
use Rattle.both_ends.specs.Meeting.{Opens, first_reply, payloads_of}

-- ## Talks

-- all that a talk says
abbrev pub SaysAll : (List ℕ → Type 0) → SessionTalk → Type 0
SaysAll P (Says payload t) = P payload × SaysAll P t
SaysAll P (Hears anew k) = (payload : List ℕ) → SaysAll P (k (Got payload))
SaysAll P (Asks q k) = (given : Input) → IsTrue (takes q given) → SaysAll P (k given)
SaysAll P (Over how) = Unit {0}

-- what is shown where the answer is no reply, and what is shown where it is one
abbrev pub ByReply : Type 0 → (Reply → Type 0) → Input → Type 0
ByReply before after (input.Settled reply) = after reply
ByReply before after _ = before

-- all that it says before a settling, and all that it says after the reply
abbrev pub SaysBoth : (List ℕ → Type 0) → (Reply → List ℕ → Type 0) → SessionTalk → Type 0
SaysBoth P Q (Says payload t) = P payload × SaysBoth P Q t
SaysBoth P Q (Hears anew k) = (payload : List ℕ) → SaysBoth P Q (k (Got payload))
SaysBoth P Q (Asks q k) = (given : Input) → IsTrue (takes q given) → ByReply (SaysBoth P Q (k given)) (λ reply. SaysAll (Q reply) (k given)) given
SaysBoth P Q (Over how) = Unit {0}

-- ## Lists of payloads

abbrev pub Each : (List ℕ → Type 0) → List (List ℕ) → Type 0
Each P [] = Unit {0}
Each P (payload ∷ payloads) = P payload × Each P payloads

pub each-of : (P : List ℕ → Type 0) (payloads : List (List ℕ)) (payload : List ℕ) → Each P payloads → Contains payloads payload → P payload
each-of P payloads payload each (k, within, is) = subst P is (at payloads each k within) where
  at : (xs : List (List ℕ)) → Each P xs → (n : ℕ) → n < length xs → P (get_or xs n payload)
  at [] e n h = absurd (omega arith)
  at (x ∷ xs) e zero h = e.0
  at (x ∷ xs) e (suc n) h = at xs e.1 n (omega arith)

pub each-append : (P : List ℕ → Type 0) (xs ys : List (List ℕ)) → Each P xs → Each P ys → Each P (xs ++ ys)
each-append P [] ys first second = second
each-append P (x ∷ xs) ys first second = (first.0, each-append P xs ys first.1 second)

-- of what is owed for answers, a payload is one before a settling or one after it
abbrev pub IsEither : (List ℕ → Type 0) → (Reply → List ℕ → Type 0) → Option Reply → List ℕ → Type 0
IsEither P Q found payload = P payload ⊎ ((reply : Reply) × (found ≡ Some reply) × Q reply payload)

pub all-owed : (P R : List ℕ → Type 0) → ((payload : List ℕ) → P payload → R payload) →
    (t : SessionTalk) (next : ℕ) (packets : List Packet) (owns : List Input) → SaysAll P t → Each R (payloads_of (owed next t packets owns).sent)
unfolding owed
all-owed P R into (Says payload t) next packets owns says = (into payload says.0, all-owed P R into t (id_behind next payload) packets owns says.1)
all-owed P R into (Hears anew k) next (packet ∷ packets) owns says = all-owed P R into (k (Got packet.payload)) (id_after packet.last) packets owns (says packet.payload)
all-owed P R into (Asks q k) next packets (given ∷ owns) says =
    owed_by_kind next q k packets given owns (λ (o : Owed). Each R (payloads_of o.sent))
    (λ is. all-owed P R into (k given) next packets owns (says given is)) tt
all-owed P R into _ next _ _ says = tt

pub both-owed : (P : List ℕ → Type 0) (Q : Reply → List ℕ → Type 0) (t : SessionTalk) (next : ℕ) (packets : List Packet) (owns : List Input) → SaysBoth P Q t
    → Each (IsEither P Q (first_reply owns)) (payloads_of (owed next t packets owns).sent)
unfolding owed
both-owed P Q (Says payload t) next packets owns says = (inl says.0, both-owed P Q t (id_behind next payload) packets owns says.1)
both-owed P Q (Hears anew k) next (packet ∷ packets) owns says = both-owed P Q (k (Got packet.payload)) (id_after packet.last) packets owns (says packet.payload)
both-owed P Q (Asks q k) next packets (input.Settled reply ∷ owns) says =
    owed_by_kind next q k packets (input.Settled reply) owns (λ (o : Owed). Each (IsEither P Q (Some reply)) (payloads_of o.sent))
    (λ is. all-owed (Q reply) (IsEither P Q (Some reply)) (λ payload shown. inr (reply, refl, shown)) (k (input.Settled reply)) next packets owns (says (input.Settled reply) is)) tt
both-owed P Q (Asks q k) next packets (given ∷ owns) says =
    owed_by_kind next q k packets given owns (λ (o : Owed). Each (IsEither P Q (first_reply owns)) (payloads_of o.sent))
    (λ is. both-owed P Q (k given) next packets owns (says given is)) tt
both-owed P Q _ next _ _ says = tt

-- ## A session

-- what is to be shown of each payload that a session sends
pub record Kinds (P : List ℕ → Type 0) (Q : Reply → List ℕ → Type 0) : Type 0 where
  pub greeting : (id : ℕ) (nonce : List ℕ) → P (greeting_payload id nonce)
  pub switch : (method : Method) (nonce : List ℕ) → P (switch_payload method nonce)
  pub fast : P fast_payload
  pub full : P full_payload
  pub bad : P (error_payload code.BadHandshake)
  pub ok : (reply : Reply) → Opens (Some reply) → Q reply ok_payload
  pub error : (reply : Reply) (error : Code) → Q reply (error_payload error)

module _ (P : List ℕ → Type 0) (Q : Reply → List ℕ → Type 0) (kinds : Kinds P Q) where
  -- after the reply: each command is answered OK or an error, and a statement too
  module _ (reply : Reply) (opens : Opens (Some reply)) (goes_on : OpenSession → SessionTalk) (all : (later : OpenSession) → SaysAll (Q reply) (goes_on later)) where
    -- of an answer, and of the talk after it
    abbrev SaysSo : Input → SessionTalk → Type 0
    SaysSo given t = SaysAll (Q reply) t

    ran-says : (opened : OpenSession) (told : StmtReply) → SaysAll (Q reply) (ran goes_on opened told)
    ran-says opened Done = (kinds.ok reply opens, all (out_of_sandbox opened))
    ran-says opened (Refused error) = (kinds.error reply error, all opened)

    locked-says : (opened : OpenSession) (statement : Statement) (salt : List ℕ) → SaysAll (Q reply) (committing_locked goes_on opened statement salt)
    locked-says opened statement salt = ran_locked_taken SaysSo statement salt opened.account (ran goes_on opened) (ran-says opened)

    preparing-says : (stale : SessionTalk) → SaysAll (Q reply) stale → (opened : OpenSession) (look : Look) (statement : Statement) (salt : List ℕ) →
        SaysAll (Q reply) (preparing_or goes_on stale opened look statement salt)
    preparing-says stale says opened look statement salt =
        let made : PreparedOf = record { look = look; statement = statement; salt = salt; actor = opened.account } in
        prepared_taken SaysSo look statement salt opened.account (committing_or goes_on stale opened made)
        (λ prepared. ran_taken SaysSo made opened.account stale (ran goes_on opened) (λ back. says) (ran-says opened))

    again-says : (opened : OpenSession) (statement : Statement) (salt : List ℕ) → SaysAll (Q reply) (looking_again goes_on opened statement salt)
    again-says opened statement salt =
        let locked : SessionTalk = committing_locked goes_on opened statement salt in
        renewed_taken SaysSo (who_of opened.account statement) (λ look. preparing_or goes_on locked opened look statement salt)
        (λ look. preparing-says locked (locked-says opened statement salt) opened look statement salt)

    first-says : (opened : OpenSession) (look : Look) (statement : Statement) (salt : List ℕ) → SaysAll (Q reply) (preparing goes_on false opened look statement salt)
    first-says opened look statement salt =
        preparing-says (looking_again goes_on opened statement salt) (again-says opened statement salt) opened look statement salt

    salted-says : (by : Bool) (opened : OpenSession) (look : Look) (statement : Statement) → SaysAll (Q reply) (salted goes_on by opened look statement)
    salted-says true opened look statement =
        drawn_taken SaysSo (λ salt. preparing goes_on false opened look statement salt) (λ salt. first-says opened look statement salt)
    salted-says false opened look statement = first-says opened look statement no_salt

    executing-says : (preparable : Bool) (opened : OpenSession) (statement : Statement) → SaysAll (Q reply) (executing goes_on preparable opened statement)
    executing-says true opened statement =
        look_taken SaysSo (who_of opened.account statement) (λ look. salted goes_on (has_password (auth_of statement)) opened look statement)
        (λ look. salted-says (has_password (auth_of statement)) opened look statement)
    executing-says false opened statement = ran_plain_taken SaysSo statement opened.account (ran goes_on opened) (ran-says opened)

    stated-says : (through : Bool) (opened : OpenSession) (statement : Statement) → SaysAll (Q reply) (stated goes_on through opened statement)
    stated-says true opened statement = executing-says (is_preparable statement) opened statement
    stated-says false opened statement = (kinds.error reply code.Sandboxed, all opened)

    queried-says : (opened : OpenSession) (found : Result Statement ℕ) → SaysAll (Q reply) (queried_for goes_on opened found)
    queried-says opened (Ok statement) = stated-says (is_let_through opened statement) opened statement
    queried-says opened (Err place) = (kinds.error reply (code.Syntax place), all opened)

    commanded-says : (found : Result Command ℕ) (opened : OpenSession) → SaysAll (Q reply) (commanded found goes_on opened)
    commanded-says (Ok Quit) opened = tt
    commanded-says (Ok Ping) opened = (kinds.ok reply opens, all opened)
    commanded-says (Ok Reset) opened = (kinds.ok reply opens, all opened)
    commanded-says (Ok (Query text)) opened = queried-says opened (statement_in text)
    commanded-says (Ok (Change v)) opened = (kinds.error reply code.UnknownCommand, all opened)
    commanded-says (Ok (Other first)) opened = (kinds.error reply code.UnknownCommand, all opened)
    commanded-says (Ok Nothing) opened = (kinds.error reply code.UnknownCommand, all opened)
    commanded-says (Err at) opened = (kinds.error reply code.UnknownCommand, all opened)

  command-says : (reply : Reply) → Opens (Some reply) → (left : ℕ) (opened : OpenSession) (payload : List ℕ) → SaysAll (Q reply) (next_command left opened payload)
  unfolding next_command heard_by
  command-says reply opens zero opened payload = tt
  command-says reply opens (suc left) opened payload =
      commanded-says reply opens (commands_left left) (λ later. command-says reply opens left later) (command.read (start payload)) (with_left left opened)

  outcome-says : (a : Attempting) (reply : Reply) → SaysAll (Q reply) (outcome a reply)
  unfolding heard_by
  outcome-says a (Opened account host) =
      (kinds.ok (Opened account host) refl, command-says (Opened account host) refl all_commands (opened_on a account host false))
  outcome-says a (Sandbox account host) =
      (kinds.ok (Sandbox account host) refl, command-says (Sandbox account host) refl all_commands (opened_on a account host true))
  outcome-says a (Blocked rule left) = (kinds.error (Blocked rule left) _, tt)
  outcome-says a (Denied using_password) = (kinds.error (Denied using_password) _, tt)
  outcome-says a Locked = (kinds.error Locked _, tt)
  outcome-says a MustChange = (kinds.error MustChange _, tt)

  -- of an answer, and of the talk after it
  abbrev SaysOn : Input → SessionTalk → Type 0
  SaysOn given t = ByReply (SaysBoth P Q t) (λ reply. SaysAll (Q reply) t) given

  locking-says : (a : Attempting) (evidences : List Evidence) → SaysBoth P Q (locking a evidences)
  locking-says a evidences = locked_taken SaysOn a.user evidences a.flags (outcome a) (outcome-says a)

  checking-says : (stale : SessionTalk) → SaysBoth P Q stale → (a : Attempting) (look : Look) (evidences : List Evidence) →
      SaysBoth P Q (checking_or stale a look evidences)
  checking-says stale says a look evidences =
      checked_taken SaysOn look evidences (settling_or stale a (record { look = look; evidences = evidences }))
      (λ checked. settled_taken SaysOn (record { look = look; evidences = evidences }) a.flags stale (outcome a) (λ back. says) (outcome-says a))

  renewing-says : (a : Attempting) (evidences : List Evidence) → SaysBoth P Q (renewing a evidences)
  renewing-says a evidences =
      renewed_taken SaysOn (Login a.user) (λ look. checking_or (locking a evidences) a look evidences)
      (λ look. checking-says (locking a evidences) (locking-says a evidences) a look evidences)

  proved-says : (a : Attempting) (look : Look) (given : Evidence) → SaysBoth P Q (proved a look given)
  proved-says a look given = checking-says (renewing a (given ∷ [])) (renewing-says a (given ∷ [])) a look (given ∷ [])

  caching-says : (a : Attempting) (look : Look) (nonce bytes : List ℕ) (known : Bool) → SaysBoth P Q (caching a look nonce bytes known)
  unfolding heard_by
  caching-says a look nonce bytes true = (kinds.fast, proved-says a look (evidence.Fast nonce bytes))
  caching-says a look nonce bytes false = (kinds.full, λ text. proved-says a look (clear_evidence (without_zero text)))

  proving-says : (a : Attempting) (look : Look) (nonce bytes : List ℕ) (method : Method) → SaysBoth P Q (proving a look nonce bytes method)
  proving-says a look nonce bytes Native = proved-says a look (evidence.Native nonce bytes)
  proving-says a look nonce bytes CachingSha2 = caching-says a look nonce bytes (known_fits_of look.in_force nonce bytes)

  answering-says : (a : Attempting) (look : Look) (nonce bytes : List ℕ) (blank : Bool) → SaysBoth P Q (answering a look nonce bytes blank)
  answering-says a look nonce bytes true = proved-says a look evidence.Empty
  answering-says a look nonce bytes false = proving-says a look nonce bytes (method_of look)

  switched-says : (a : Attempting) (look : Look) (nonce : List ℕ) → SaysBoth P Q (switched_to a look nonce)
  unfolding heard_by
  switched-says a look nonce = (kinds.switch (method_of look) nonce, λ bytes. answering-says a look nonce bytes (is_blank bytes))

  claimed-says : (a : Attempting) (claim : Claim) (look : Look) (named : Bool) → SaysBoth P Q (claimed a claim look named)
  claimed-says a claim look true = answering-says a look claim.nonce claim.auth (is_blank claim.auth)
  claimed-says a claim look false = drawn_taken SaysOn (switched_to a look) (switched-says a look)

  responded-says : (nonce : List ℕ) (found : Result Response ℕ) → SaysBoth P Q (responded nonce found)
  responded-says nonce (Ok said) =
      let a = attempt_of said in
      let claim = claim_of nonce said in
      look_taken SaysOn (Login a.user) (λ look. claimed a claim look (is_named claim look)) (λ look. claimed-says a claim look (is_named claim look))
  responded-says nonce (Err at) = (kinds.bad, tt)

  greeting-says : (id : ℕ) (nonce : List ℕ) → SaysBoth P Q (greeting id nonce)
  unfolding heard_by
  greeting-says id nonce = (kinds.greeting id nonce, λ payload. responded-says nonce (response.read (start payload)))

  pub session-says : (id : ℕ) → SaysBoth P Q (session id)
  session-says id = start_taken SaysOn (greeting id) (greeting-says id)
