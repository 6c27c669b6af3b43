-- A session's talk goes on with the reply that it is given: it says OK or the error, and after the refusal of an attempt it is
-- over.
use Rattle.std.proofs.Common.{◌≡◌, refl, sym, subst, ℕ, zero, suc, Bool, true, false, List, [], ◌∷◌, Result, Ok, Err}
use Rattle.lg_base.specs.Errors.{number_of}
use Rattle.lg_base.specs.declared.errors.Code.{Code}
use Rattle.factor_chain.specs.Checking.{known_fits_of}
use Rattle.factor_chain.specs.CheckedOf.{CheckedOf}
use Rattle.factor_chain.specs.declared.credentials.Look.{Look}
use Rattle.factor_chain.specs.declared.credentials.Method.{Method}
use Rattle.factor_chain.specs.declared.credentials.Method.TheVariants.{Native, CachingSha2}
use Rattle.factor_chain.specs.declared.evidence_list.Evidence.{Evidence}
use Rattle.factor_chain.specs.declared.evidence_list.Evidence.TheVariants as evidence
use Rattle.account_history.specs.Preparing.{PreparedOf, is_preparable, who_of}
use Rattle.account_history.specs.Refusals.{auth_of}
use Rattle.account_history.specs.declared.entries.Reply.{Reply}
use Rattle.account_history.specs.declared.entries.StmtReply.{StmtReply}
use Rattle.account_history.specs.declared.entries.StmtReply.TheVariants.{Done, Refused}
use Rattle.account_history.specs.declared.entries.Who.{Who}
use Rattle.account_history.specs.declared.entries.Who.TheVariants.{Login}
use Rattle.wire_form.specs.Payloads.{start}
use Rattle.auth_packets.specs.Commands.{command}
use Rattle.auth_packets.specs.Handshake.{response}
use Rattle.auth_packets.specs.declared.commands.Command.{Command}
use Rattle.auth_packets.specs.declared.commands.Command.TheVariants.{Quit, Query, Ping, Reset, ChangeUser as Change, Other, Nothing}
use Rattle.auth_packets.specs.declared.handshake.Response.{Response}
use Rattle.interaction.specs.Talk.{Got, Says, Hears, Asks, Over}
use Rattle.session_talk.specs.Logins.{answered, answering, attempt_of, caching, checking_or, claim_of, claimed, clear_evidence, commanded, commands, commands_left, decided, greeting, heard_by, is_blank, is_named, locking, method_of, next_command, outcome, proved, proving, renewing, responded, session, settling_or, switched, with_left, without_zero}
use Rattle.session_talk.specs.Statements.{after_stale, committing_locked, committing_or, executing, has_password, is_let_through, looking_again, looking_at, no_salt, out_of_sandbox, preparing, preparing_or, queried_for, ran, salted, salting, stated, statement_in}
use Rattle.session_talk.specs.Talk.{Begins, Own, Question, SessionTalk, on_checked, on_drawn, on_locked, on_look, on_prepared, on_ran, on_ran_locked, on_settled, on_start}
use Rattle.session_talk.specs.Texts.{error_payload, ok_payload, switch_payload}
use Rattle.session_talk.specs.declared.actions.Ask.TheVariants as ask
use Rattle.session_talk.specs.declared.attempts.Attempting.{Attempting}
use Rattle.session_talk.specs.declared.attempts.Claim.{Claim}
use Rattle.session_talk.specs.declared.ends.SessionEnd.TheVariants as end
use Rattle.session_talk.specs.declared.inputs.Input.{Input}
use Rattle.session_talk.specs.declared.inputs.Input.TheVariants as input
use Rattle.session_talk.specs.declared.open_session.OpenSession.{OpenSession}
use Rattle.session_world.specs.Replies.{reply_payload}
use Rattle.stmt_rules.specs.declared.statement.Statement.{Statement}

-- ## What a talk says of a reply

-- the look of a user is at that user
abbrev pub IsAbout : Question → Input → Type 0
IsAbout (Own (ask.Observe (Login user))) (input.Looked look) = look.user ≡ user
IsAbout (Own (ask.Renew (Login user))) (input.Looked look) = look.user ≡ user
IsAbout _ _ = Unit {0}

abbrev pub Tells : Result OpenSession Code → SessionTalk → Type 0
Tells (Ok opened) t = (next : SessionTalk) × (t ≡ Says ok_payload next)
Tells (Err error) t = t ≡ Says (error_payload error) (Over (end.Refused (number_of error)))

abbrev pub TellsStatement : StmtReply → SessionTalk → Type 0
TellsStatement reply t = (next : SessionTalk) × (t ≡ Says (reply_payload reply) next)

-- how a talk goes on with the answer to a question
abbrev pub GoesOnTelling : Question → Input → SessionTalk → Type 0
GoesOnTelling (Own (ask.Settle checked flags)) (input.Settled reply) t = Tells (decided (record { user = checked.look.user; flags = flags }) reply) t
GoesOnTelling (Own (ask.SettleLocked user evidences flags)) (input.Settled reply) t = Tells (decided (record { user = user; flags = flags }) reply) t
GoesOnTelling (Own (ask.Commit prepared actor)) (input.Ran reply) t = TellsStatement reply t
GoesOnTelling (Own (ask.CommitLocked statement salt actor)) (input.Ran reply) t = TellsStatement reply t
GoesOnTelling (Own (ask.CommitPlain statement actor)) (input.Ran reply) t = TellsStatement reply t
GoesOnTelling _ _ t = Unit {0}

-- it does so at each question to come
abbrev pub TellsAll : SessionTalk → Type 0
TellsAll (Says payload t) = TellsAll t
TellsAll (Hears anew k) = (payload : List ℕ) → TellsAll (k (Got payload))
TellsAll (Asks q k) = (given : Input) → IsAbout q given → GoesOnTelling q given (k given) × TellsAll (k given)
TellsAll (Over how) = Unit {0}

-- ## Each question

start_tells : (k : List ℕ → SessionTalk) → ((nonce : List ℕ) → TellsAll (k nonce)) →
    (given : Input) → IsAbout Begins given → GoesOnTelling Begins given (on_start k given) × TellsAll (on_start k given)
unfolding on_start
start_tells k all (input.Start nonce) about = (tt, all nonce)
start_tells k all _ about = (tt, tt)

drawn_tells : (k : List ℕ → SessionTalk) → ((nonce : List ℕ) → TellsAll (k nonce)) →
    (given : Input) → IsAbout (Own ask.Draw) given → GoesOnTelling (Own ask.Draw) given (on_drawn k given) × TellsAll (on_drawn k given)
unfolding on_drawn
drawn_tells k all (input.Drawn nonce) about = (tt, all nonce)
drawn_tells k all _ about = (tt, tt)

look_tells : (who : Who) (k : Look → SessionTalk) → ((look : Look) → IsAbout (Own (ask.Observe who)) (input.Looked look) → TellsAll (k look)) →
    (given : Input) → IsAbout (Own (ask.Observe who)) given → GoesOnTelling (Own (ask.Observe who)) given (on_look k given) × TellsAll (on_look k given)
unfolding on_look
look_tells who k all (input.Looked look) about = (tt, all look about)
look_tells who k all _ about = (tt, tt)

renewed_tells : (who : Who) (k : Look → SessionTalk) → ((look : Look) → IsAbout (Own (ask.Renew who)) (input.Looked look) → TellsAll (k look)) →
    (given : Input) → IsAbout (Own (ask.Renew who)) given → GoesOnTelling (Own (ask.Renew who)) given (on_look k given) × TellsAll (on_look k given)
unfolding on_look
renewed_tells who k all (input.Looked look) about = (tt, all look about)
renewed_tells who k all _ about = (tt, tt)

checked_tells : (look : Look) (evidences : List Evidence) (t : SessionTalk) → TellsAll t →
    (given : Input) → IsAbout (Own (ask.Check look evidences)) given →
    GoesOnTelling (Own (ask.Check look evidences)) given (on_checked t given) × TellsAll (on_checked t given)
unfolding on_checked
checked_tells look evidences t all (input.Checked checked) about = (tt, all)
checked_tells look evidences t all _ about = (tt, tt)

settled_tells : (checked : CheckedOf) (flags : ℕ) (stale : SessionTalk) (k : Reply → SessionTalk) → TellsAll stale →
    ((reply : Reply) → Tells (decided (record { user = checked.look.user; flags = flags }) reply) (k reply)) → ((reply : Reply) → TellsAll (k reply)) →
    (given : Input) → IsAbout (Own (ask.Settle checked flags)) given →
    GoesOnTelling (Own (ask.Settle checked flags)) given (on_settled stale k given) × TellsAll (on_settled stale k given)
unfolding on_settled
settled_tells checked flags stale k late tells all (input.Stale evidences) about = (tt, late)
settled_tells checked flags stale k late tells all (input.Settled reply) about = (tells reply, all reply)
settled_tells checked flags stale k late tells all _ about = (tt, tt)

locked_tells : (user : List ℕ) (evidences : List Evidence) (flags : ℕ) (k : Reply → SessionTalk) →
    ((reply : Reply) → Tells (decided (record { user = user; flags = flags }) reply) (k reply)) → ((reply : Reply) → TellsAll (k reply)) →
    (given : Input) → IsAbout (Own (ask.SettleLocked user evidences flags)) given →
    GoesOnTelling (Own (ask.SettleLocked user evidences flags)) given (on_locked k given) × TellsAll (on_locked k given)
unfolding on_locked
locked_tells user evidences flags k tells all (input.Settled reply) about = (tells reply, all reply)
locked_tells user evidences flags k tells all _ about = (tt, tt)

prepared_tells : (look : Look) (statement : Statement) (salt : List ℕ) (actor : ℕ) (t : SessionTalk) → TellsAll t →
    (given : Input) → IsAbout (Own (ask.Prepare look statement salt actor)) given →
    GoesOnTelling (Own (ask.Prepare look statement salt actor)) given (on_prepared t given) × TellsAll (on_prepared t given)
unfolding on_prepared
prepared_tells look statement salt actor t all (input.Prepared prepared) about = (tt, all)
prepared_tells look statement salt actor t all _ about = (tt, tt)

ran_tells : (prepared : PreparedOf) (actor : ℕ) (stale : SessionTalk) (k : StmtReply → SessionTalk) → TellsAll stale →
    ((reply : StmtReply) → TellsStatement reply (k reply)) → ((reply : StmtReply) → TellsAll (k reply)) →
    (given : Input) → IsAbout (Own (ask.Commit prepared actor)) given →
    GoesOnTelling (Own (ask.Commit prepared actor)) given (on_ran stale k given) × TellsAll (on_ran stale k given)
unfolding on_ran
ran_tells prepared actor stale k late tells all (input.StaleStatement statement) about = (tt, late)
ran_tells prepared actor stale k late tells all (input.Ran reply) about = (tells reply, all reply)
ran_tells prepared actor stale k late tells all _ about = (tt, tt)

ran_locked_tells : (statement : Statement) (salt : List ℕ) (actor : ℕ) (k : StmtReply → SessionTalk) →
    ((reply : StmtReply) → TellsStatement reply (k reply)) → ((reply : StmtReply) → TellsAll (k reply)) →
    (given : Input) → IsAbout (Own (ask.CommitLocked statement salt actor)) given →
    GoesOnTelling (Own (ask.CommitLocked statement salt actor)) given (on_ran_locked k given) × TellsAll (on_ran_locked k given)
unfolding on_ran_locked
ran_locked_tells statement salt actor k tells all (input.Ran reply) about = (tells reply, all reply)
ran_locked_tells statement salt actor k tells all _ about = (tt, tt)

ran_plain_tells : (statement : Statement) (actor : ℕ) (k : StmtReply → SessionTalk) →
    ((reply : StmtReply) → TellsStatement reply (k reply)) → ((reply : StmtReply) → TellsAll (k reply)) →
    (given : Input) → IsAbout (Own (ask.CommitPlain statement actor)) given →
    GoesOnTelling (Own (ask.CommitPlain statement actor)) given (on_ran_locked k given) × TellsAll (on_ran_locked k given)
unfolding on_ran_locked
ran_plain_tells statement actor k tells all (input.Ran reply) about = (tells reply, all reply)
ran_plain_tells statement actor k tells all _ about = (tt, tt)

-- ## Statements

module _ (goes_on : OpenSession → SessionTalk) (all : (later : OpenSession) → TellsAll (goes_on later)) where
  ran_says : (opened : OpenSession) (reply : StmtReply) → TellsStatement reply (ran goes_on opened reply)
  ran_says opened Done = (goes_on (out_of_sandbox opened), refl)
  ran_says opened (Refused error) = (goes_on opened, refl)

  ran_all : (opened : OpenSession) (reply : StmtReply) → TellsAll (ran goes_on opened reply)
  ran_all opened Done = all (out_of_sandbox opened)
  ran_all opened (Refused error) = all opened

  committing_locked_all : (opened : OpenSession) (statement : Statement) (salt : List ℕ) → TellsAll (committing_locked goes_on opened statement salt)
  committing_locked_all opened statement salt =
      ran_locked_tells statement salt opened.account (ran goes_on opened) (ran_says opened) (ran_all opened)

  preparing_all : (stale : SessionTalk) → TellsAll stale → (opened : OpenSession) (look : Look) (statement : Statement) (salt : List ℕ) →
      TellsAll (preparing_or goes_on stale opened look statement salt)
  preparing_all stale late opened look statement salt =
      let prepared : PreparedOf = record { look = look; statement = statement; salt = salt; actor = opened.account } in
      prepared_tells look statement salt opened.account (committing_or goes_on stale opened prepared)
      (ran_tells prepared opened.account stale (ran goes_on opened) late (ran_says opened) (ran_all opened))

  looking_again_all : (opened : OpenSession) (statement : Statement) (salt : List ℕ) → TellsAll (looking_again goes_on opened statement salt)
  looking_again_all opened statement salt =
      let locked : SessionTalk = committing_locked goes_on opened statement salt in
      renewed_tells (who_of opened.account statement) (λ look. preparing_or goes_on locked opened look statement salt)
      (λ look about. preparing_all locked (committing_locked_all opened statement salt) opened look statement salt)

  first_all : (opened : OpenSession) (look : Look) (statement : Statement) (salt : List ℕ) → TellsAll (preparing goes_on false opened look statement salt)
  first_all opened look statement salt =
      preparing_all (looking_again goes_on opened statement salt) (looking_again_all opened statement salt) opened look statement salt

  salted_all : (by : Bool) (opened : OpenSession) (look : Look) (statement : Statement) → TellsAll (salted goes_on by opened look statement)
  salted_all true opened look statement =
      drawn_tells (λ salt. preparing goes_on false opened look statement salt) (λ salt. first_all opened look statement salt)
  salted_all false opened look statement = first_all opened look statement no_salt

  executing_all : (preparable : Bool) (opened : OpenSession) (statement : Statement) → TellsAll (executing goes_on preparable opened statement)
  executing_all true opened statement =
      look_tells (who_of opened.account statement) (λ look. salted goes_on (has_password (auth_of statement)) opened look statement)
      (λ look about. salted_all (has_password (auth_of statement)) opened look statement)
  executing_all false opened statement = ran_plain_tells statement opened.account (ran goes_on opened) (ran_says opened) (ran_all opened)

  stated_all : (through : Bool) (opened : OpenSession) (statement : Statement) → TellsAll (stated goes_on through opened statement)
  stated_all true opened statement = executing_all (is_preparable statement) opened statement
  stated_all false opened statement = all opened

  queried_all : (opened : OpenSession) (found : Result Statement ℕ) → TellsAll (queried_for goes_on opened found)
  queried_all opened (Ok statement) = stated_all (is_let_through opened statement) opened statement
  queried_all opened (Err place) = all opened

  pub commanded_all : (found : Result Command ℕ) (opened : OpenSession) → TellsAll (commanded found goes_on opened)
  commanded_all (Ok Quit) opened = tt
  commanded_all (Ok Ping) opened = all opened
  commanded_all (Ok Reset) opened = all opened
  commanded_all (Ok (Query text)) opened = queried_all opened (statement_in text)
  commanded_all (Ok (Change v)) opened = all opened
  commanded_all (Ok (Other first)) opened = all opened
  commanded_all (Ok Nothing) opened = all opened
  commanded_all (Err at) opened = all opened

-- ## Commands

command_all : (left : ℕ) (opened : OpenSession) (payload : List ℕ) → TellsAll (next_command left opened payload)
unfolding next_command heard_by
command_all zero opened payload = tt
command_all (suc left) opened payload =
    commanded_all (commands_left left) (λ later. command_all left later) (command.read (start payload)) (with_left left opened)

answered_all : (found : Result OpenSession Code) → TellsAll (answered found)
unfolding heard_by
answered_all (Ok opened) = command_all opened.left opened
answered_all (Err error) = tt

answered_says : (found : Result OpenSession Code) → Tells found (answered found)
answered_says (Ok opened) = (commands opened, refl)
answered_says (Err error) = refl

-- ## Logins

locking_all : (a : Attempting) (evidences : List Evidence) → TellsAll (locking a evidences)
locking_all a evidences =
    locked_tells a.user evidences a.flags (outcome a) (λ reply. answered_says (decided a reply)) (λ reply. answered_all (decided a reply))

checking_all : (stale : SessionTalk) → TellsAll stale → (a : Attempting) (look : Look) → look.user ≡ a.user → (evidences : List Evidence) →
    TellsAll (checking_or stale a look evidences)
checking_all stale late a look same evidences =
    let checked : CheckedOf = record { look = look; evidences = evidences } in
    checked_tells look evidences (settling_or stale a checked)
    (settled_tells checked a.flags stale (outcome a) late
    (λ reply. subst (λ (user : List ℕ). Tells (decided (record { user = user; flags = a.flags }) reply) (outcome a reply)) (sym same) (answered_says (decided a reply)))
    (λ reply. answered_all (decided a reply)))

renewing_all : (a : Attempting) (evidences : List Evidence) → TellsAll (renewing a evidences)
renewing_all a evidences =
    renewed_tells (Login a.user) (λ look. checking_or (locking a evidences) a look evidences)
    (λ look about. checking_all (locking a evidences) (locking_all a evidences) a look about evidences)

proved_all : (a : Attempting) (look : Look) → look.user ≡ a.user → (given : Evidence) → TellsAll (proved a look given)
proved_all a look same given = checking_all (renewing a (given ∷ [])) (renewing_all a (given ∷ [])) a look same (given ∷ [])

caching_all : (a : Attempting) (look : Look) → look.user ≡ a.user → (nonce bytes : List ℕ) (known : Bool) → TellsAll (caching a look nonce bytes known)
unfolding heard_by
caching_all a look same nonce bytes true = proved_all a look same (evidence.Fast nonce bytes)
caching_all a look same nonce bytes false = λ text. proved_all a look same (clear_evidence (without_zero text))

proving_all : (a : Attempting) (look : Look) → look.user ≡ a.user → (nonce bytes : List ℕ) (method : Method) → TellsAll (proving a look nonce bytes method)
proving_all a look same nonce bytes Native = proved_all a look same (evidence.Native nonce bytes)
proving_all a look same nonce bytes CachingSha2 = caching_all a look same nonce bytes (known_fits_of look.in_force nonce bytes)

answering_all : (a : Attempting) (look : Look) → look.user ≡ a.user → (nonce bytes : List ℕ) (blank : Bool) → TellsAll (answering a look nonce bytes blank)
answering_all a look same nonce bytes true = proved_all a look same evidence.Empty
answering_all a look same nonce bytes false = proving_all a look same nonce bytes (method_of look)

switched_all : (a : Attempting) (look : Look) → look.user ≡ a.user → (nonce : List ℕ) → TellsAll (switched a look nonce)
unfolding heard_by
switched_all a look same nonce = λ bytes. answering_all a look same nonce bytes (is_blank bytes)

claimed_all : (a : Attempting) (claim : Claim) (look : Look) → look.user ≡ a.user → (named : Bool) → TellsAll (claimed a claim look named)
claimed_all a claim look same true = answering_all a look same claim.nonce claim.auth (is_blank claim.auth)
claimed_all a claim look same false =
    drawn_tells (λ nonce. Says (switch_payload (method_of look) nonce) (switched a look nonce)) (λ nonce. switched_all a look same nonce)

responded_all : (nonce : List ℕ) (found : Result Response ℕ) → TellsAll (responded nonce found)
responded_all nonce (Ok said) =
    let a = attempt_of said in
    let claim = claim_of nonce said in
    look_tells (Login a.user) (λ look. claimed a claim look (is_named claim look)) (λ look about. claimed_all a claim look about (is_named claim look))
responded_all nonce (Err at) = tt

greeting_all : (id : ℕ) (nonce : List ℕ) → TellsAll (greeting id nonce)
unfolding heard_by
greeting_all id nonce = λ payload. responded_all nonce (response.read (start payload))

pub session_tells : (id : ℕ) → TellsAll (session id)
session_tells id = start_tells (greeting id) (greeting_all id)
