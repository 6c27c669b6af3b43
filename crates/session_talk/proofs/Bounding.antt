-- A session asks at most eight questions between two packets.
use Rattle.std.proofs.Common.{ℕ, zero, suc, Bool, true, false, List, [], ◌∷◌, Result, Ok, Err}
use Rattle.lg_base.specs.declared.errors.Code.{Code}
use Rattle.factor_chain.specs.Checking.{known_fits_of}
use Rattle.factor_chain.specs.declared.credentials.Look.{Look}
use Rattle.factor_chain.specs.declared.credentials.Method.{Method}
use Rattle.factor_chain.specs.declared.credentials.Method.TheVariants.{Native, CachingSha2}
use Rattle.factor_chain.specs.declared.evidence_list.Evidence.{Evidence}
use Rattle.factor_chain.specs.declared.evidence_list.Evidence.TheVariants as evidence
use Rattle.account_history.specs.Preparing.{PreparedOf, is_preparable}
use Rattle.account_history.specs.Refusals.{auth_of}
use Rattle.account_history.specs.declared.entries.StmtReply.{StmtReply}
use Rattle.account_history.specs.declared.entries.StmtReply.TheVariants.{Done, Refused}
use Rattle.wire_form.specs.Payloads.{start}
use Rattle.auth_packets.specs.Commands.{command}
use Rattle.auth_packets.specs.Handshake.{response}
use Rattle.auth_packets.specs.declared.commands.Command.{Command}
use Rattle.auth_packets.specs.declared.commands.Command.TheVariants.{Quit, Query, Ping, Reset, ChangeUser as Change, Other, Nothing}
use Rattle.auth_packets.specs.declared.handshake.Response.{Response}
use Rattle.session_talk.specs.Bounds.{Within}
use Rattle.session_talk.specs.Laws.{SessionsAreBounded}
use Rattle.session_talk.specs.Logins.{all_commands, answered, answering, attempt_of, caching, checking_or, claim_of, claimed, clear_evidence, commanded, commands_left, decided, greeting, heard_by, is_blank, is_named, locking, method_of, next_command, outcome, proved, proving, renewing, responded, settling_or, with_left, without_zero}
use Rattle.session_talk.specs.Statements.{after_stale, committing_locked, committing_or, executing, has_password, is_let_through, looking_again, looking_at, no_salt, out_of_sandbox, preparing, preparing_or, queried_for, ran, salted, salting, stated, statement_in}
use Rattle.session_talk.specs.Talk.{SessionTalk}
use Rattle.session_talk.specs.declared.attempts.Attempting.{Attempting}
use Rattle.session_talk.specs.declared.attempts.Claim.{Claim}
use Rattle.session_talk.specs.declared.open_session.OpenSession.{OpenSession}
use Rattle.stmt_rules.specs.declared.statement.Statement.{Statement}
use Rattle.session_talk.proofs.Words.{checked_all, drawn_all, locked_all, look_all, prepared_all, ran_all, ran_locked_all, settled_all, start_all, switched_to}

abbrev pub six_more : ℕ → ℕ
six_more n = suc (suc (suc (suc (suc (suc n)))))

-- ## Statements

module _ (goes_on : OpenSession → SessionTalk) (all : (n : ℕ) (later : OpenSession) → Within n (goes_on later)) where
  pub ran_within : (n : ℕ) (opened : OpenSession) (reply : StmtReply) → Within n (ran goes_on opened reply)
  ran_within n opened Done = all n (out_of_sandbox opened)
  ran_within n opened (Refused error) = all n opened

  pub committing_locked_within : (n : ℕ) (opened : OpenSession) (statement : Statement) (salt : List ℕ) →
      Within (suc n) (committing_locked goes_on opened statement salt)
  committing_locked_within n opened statement salt = ran_locked_all (Within n) tt (ran goes_on opened) (ran_within n opened)

  pub committing_within : (n : ℕ) (stale : SessionTalk) → Within n stale → (opened : OpenSession) (prepared : PreparedOf) →
      Within (suc n) (committing_or goes_on stale opened prepared)
  committing_within n stale within opened prepared = ran_all (Within n) tt stale (ran goes_on opened) within (ran_within n opened)

  pub preparing_within : (n : ℕ) (stale : SessionTalk) → Within n stale → (opened : OpenSession) (look : Look) (statement : Statement) (salt : List ℕ) →
      Within (suc (suc n)) (preparing_or goes_on stale opened look statement salt)
  preparing_within n stale within opened look statement salt =
      let prepared : PreparedOf = record { look = look; statement = statement; salt = salt; actor = opened.account } in
      prepared_all (Within (suc n)) tt (committing_or goes_on stale opened prepared) (committing_within n stale within opened prepared)

  pub looking_again_within : (n : ℕ) (opened : OpenSession) (statement : Statement) (salt : List ℕ) →
      Within (suc (suc (suc (suc n)))) (looking_again goes_on opened statement salt)
  looking_again_within n opened statement salt =
      let locked : SessionTalk = committing_locked goes_on opened statement salt in
      look_all (Within (suc (suc (suc n)))) tt (λ look. preparing_or goes_on locked opened look statement salt)
      (λ look. preparing_within (suc n) locked (committing_locked_within n opened statement salt) opened look statement salt)

  pub late_within : (n : ℕ) (again : Bool) (opened : OpenSession) (statement : Statement) (salt : List ℕ) →
      Within (suc (suc (suc (suc n)))) (after_stale goes_on again opened statement salt)
  late_within n false opened statement salt = looking_again_within n opened statement salt
  late_within n true opened statement salt = committing_locked_within (suc (suc (suc n))) opened statement salt

  pub first_within : (n : ℕ) (opened : OpenSession) (look : Look) (statement : Statement) (salt : List ℕ) →
      Within (six_more n) (preparing goes_on false opened look statement salt)
  first_within n opened look statement salt =
      preparing_within (suc (suc (suc (suc n)))) (looking_again goes_on opened statement salt) (looking_again_within n opened statement salt)
      opened look statement salt

  pub salting_within : (n : ℕ) (opened : OpenSession) (look : Look) (statement : Statement) → Within (suc (six_more n)) (salting goes_on opened look statement)
  salting_within n opened look statement =
      drawn_all (Within (six_more n)) tt (λ salt. preparing goes_on false opened look statement salt)
      (λ salt. first_within n opened look statement salt)

  pub salted_within : (n : ℕ) (by : Bool) (opened : OpenSession) (look : Look) (statement : Statement) →
      Within (suc (six_more n)) (salted goes_on by opened look statement)
  salted_within n true opened look statement = salting_within n opened look statement
  salted_within n false opened look statement = first_within (suc n) opened look statement no_salt

  pub looking_at_within : (n : ℕ) (opened : OpenSession) (statement : Statement) → Within (suc (suc (six_more n))) (looking_at goes_on opened statement)
  looking_at_within n opened statement =
      look_all (Within (suc (six_more n))) tt (λ look. salted goes_on (has_password (auth_of statement)) opened look statement)
      (λ look. salted_within n (has_password (auth_of statement)) opened look statement)

  executing_within : (preparable : Bool) (opened : OpenSession) (statement : Statement) → Within 8 (executing goes_on preparable opened statement)
  executing_within true opened statement = looking_at_within 0 opened statement
  executing_within false opened statement = ran_locked_all (Within 7) tt (ran goes_on opened) (ran_within 7 opened)

  stated_within : (through : Bool) (opened : OpenSession) (statement : Statement) → Within 8 (stated goes_on through opened statement)
  stated_within true opened statement = executing_within (is_preparable statement) opened statement
  stated_within false opened statement = all 8 opened

  queried_within : (opened : OpenSession) (found : Result Statement ℕ) → Within 8 (queried_for goes_on opened found)
  queried_within opened (Ok statement) = stated_within (is_let_through opened statement) opened statement
  queried_within opened (Err place) = all 8 opened

  pub commanded_within : (found : Result Command ℕ) (opened : OpenSession) → Within 8 (commanded found goes_on opened)
  commanded_within (Ok Quit) opened = tt
  commanded_within (Ok Ping) opened = all 8 opened
  commanded_within (Ok Reset) opened = all 8 opened
  commanded_within (Ok (Query text)) opened = queried_within opened (statement_in text)
  commanded_within (Ok (Change v)) opened = all 8 opened
  commanded_within (Ok (Other first)) opened = all 8 opened
  commanded_within (Ok Nothing) opened = all 8 opened
  commanded_within (Err at) opened = all 8 opened

-- ## Commands

pub command_within : (left : ℕ) (opened : OpenSession) (payload : List ℕ) → Within 8 (next_command left opened payload)
unfolding next_command heard_by
command_within zero opened payload = tt
command_within (suc left) opened payload =
    commanded_within (commands_left left) (λ n later. command_within left later) (command.read (start payload)) (with_left left opened)

pub commands_within : (left : ℕ) (n : ℕ) (opened : OpenSession) → Within n (commands_left left opened)
unfolding heard_by
commands_within left n opened = command_within left opened

pub answered_within : (n : ℕ) (found : Result OpenSession Code) → Within n (answered found)
unfolding heard_by
answered_within n (Ok opened) = command_within opened.left opened
answered_within n (Err error) = tt

-- ## Logins

pub locking_within : (n : ℕ) (a : Attempting) (evidences : List Evidence) → Within (suc n) (locking a evidences)
locking_within n a evidences = locked_all (Within n) tt (outcome a) (λ reply. answered_within n (decided a reply))

pub checking_within : (n : ℕ) (stale : SessionTalk) → Within n stale → (a : Attempting) (look : Look) (evidences : List Evidence) →
    Within (suc (suc n)) (checking_or stale a look evidences)
checking_within n stale within a look evidences =
    checked_all (Within (suc n)) tt (settling_or stale a (record { look = look; evidences = evidences }))
    (settled_all (Within n) tt stale (outcome a) within (λ reply. answered_within n (decided a reply)))

pub renewing_within : (n : ℕ) (a : Attempting) (evidences : List Evidence) → Within (suc (suc (suc (suc n)))) (renewing a evidences)
renewing_within n a evidences =
    look_all (Within (suc (suc (suc n)))) tt (λ look. checking_or (locking a evidences) a look evidences)
    (λ look. checking_within (suc n) (locking a evidences) (locking_within n a evidences) a look evidences)

pub proved_within : (n : ℕ) (a : Attempting) (look : Look) (given : Evidence) → Within (six_more n) (proved a look given)
proved_within n a look given =
    checking_within (suc (suc (suc (suc n)))) (renewing a (given ∷ [])) (renewing_within n a (given ∷ [])) a look (given ∷ [])

pub clear_within : (a : Attempting) (look : Look) (text : List ℕ) → Within 8 (proved a look (clear_evidence (without_zero text)))
clear_within a look text = proved_within 2 a look (clear_evidence (without_zero text))

pub caching_within : (n : ℕ) (a : Attempting) (look : Look) (nonce bytes : List ℕ) (known : Bool) → Within (six_more n) (caching a look nonce bytes known)
unfolding heard_by
caching_within n a look nonce bytes true = proved_within n a look (evidence.Fast nonce bytes)
caching_within n a look nonce bytes false = clear_within a look

pub proving_within : (n : ℕ) (a : Attempting) (look : Look) (nonce bytes : List ℕ) (method : Method) → Within (six_more n) (proving a look nonce bytes method)
proving_within n a look nonce bytes Native = proved_within n a look (evidence.Native nonce bytes)
proving_within n a look nonce bytes CachingSha2 = caching_within n a look nonce bytes (known_fits_of look.in_force nonce bytes)

pub answering_within : (n : ℕ) (a : Attempting) (look : Look) (nonce bytes : List ℕ) (blank : Bool) → Within (six_more n) (answering a look nonce bytes blank)
answering_within n a look nonce bytes true = proved_within n a look evidence.Empty
answering_within n a look nonce bytes false = proving_within n a look nonce bytes (method_of look)

pub switched_within : (a : Attempting) (look : Look) (nonce : List ℕ) → Within 6 (switched_to a look nonce)
unfolding heard_by
switched_within a look nonce = λ bytes. answering_within 2 a look nonce bytes (is_blank bytes)

pub claimed_within : (a : Attempting) (claim : Claim) (look : Look) (named : Bool) → Within 7 (claimed a claim look named)
claimed_within a claim look true = answering_within 1 a look claim.nonce claim.auth (is_blank claim.auth)
claimed_within a claim look false = drawn_all (Within 6) tt (switched_to a look) (switched_within a look)

responded_within : (nonce : List ℕ) (found : Result Response ℕ) → Within 8 (responded nonce found)
responded_within nonce (Ok said) =
    let a = attempt_of said in
    let claim = claim_of nonce said in
    look_all (Within 7) tt (λ look. claimed a claim look (is_named claim look)) (λ look. claimed_within a claim look (is_named claim look))
responded_within nonce (Err at) = tt

greeting_within : (id : ℕ) (nonce : List ℕ) → Within 7 (greeting id nonce)
unfolding heard_by
greeting_within id nonce = λ payload. responded_within nonce (response.read (start payload))

pub sessions_are_bounded : SessionsAreBounded
sessions_are_bounded id = start_all (Within 7) tt (greeting id) (greeting_within id)
