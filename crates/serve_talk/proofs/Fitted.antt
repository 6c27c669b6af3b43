-- A session makes its calls in the order in which they may be made.
use Rattle.std.proofs.Common.{◌≡◌, refl, IsTrue, ℕ, zero, suc, ◌+◌, Bool, true, false, List, [], ◌∷◌, Option, Some, None, Result, Ok, Err}
use Rattle.lg_base.specs.declared.errors.Code.{Code}
use Rattle.lg_base.specs.declared.names.Host.{Host}
use Rattle.factor_chain.specs.Checking.{known_fits_of}
use Rattle.factor_chain.specs.declared.credentials.Look.{Look}
use Rattle.factor_chain.specs.declared.credentials.Method.{Method}
use Rattle.factor_chain.specs.declared.credentials.Method.TheVariants.{Native, CachingSha2}
use Rattle.factor_chain.specs.declared.evidence_list.Evidence.{Evidence}
use Rattle.factor_chain.specs.declared.evidence_list.Evidence.TheVariants as evidence
use Rattle.account_history.specs.Preparing.{PreparedOf, is_preparable, who_of, who_of_target}
use Rattle.account_history.specs.Refusals.{auth_of}
use Rattle.account_history.specs.declared.entries.Reply.{Reply}
use Rattle.account_history.specs.declared.entries.Reply.TheVariants.{Opened, Sandbox, Blocked, Denied, Locked, MustChange}
use Rattle.account_history.specs.declared.entries.StmtReply.{StmtReply}
use Rattle.account_history.specs.declared.entries.StmtReply.TheVariants.{Done, Refused}
use Rattle.account_history.specs.declared.entries.Who.{Who}
use Rattle.account_history.specs.declared.entries.Who.TheVariants.{Login}
use Rattle.wire_form.specs.Payloads.{start}
use Rattle.auth_packets.specs.Commands.{command}
use Rattle.auth_packets.specs.Handshake.{response}
use Rattle.auth_packets.specs.declared.commands.Command.{Command}
use Rattle.auth_packets.specs.declared.commands.Command.TheVariants.{Quit, Query, Ping, Reset, ChangeUser as Change, Other, Nothing as NoCommand}
use Rattle.auth_packets.specs.declared.handshake.Response.{Response}
use Rattle.interaction.specs.Talk.{Got, Says, Hears, Asks, Over}
use Rattle.session_talk.specs.Logins.{answering, attempt_of, caching, checking_or, claim_of, claimed, clear_evidence, clearing, commanded, commands_left, greeting, heard_by, is_blank, is_named, locking, method_of, next_command, outcome, proved, proving, renewing, responded, session, settling_or, with_left, without_zero}
use Rattle.session_talk.specs.Statements.{committing_locked, committing_or, committing_plain, executing, has_password, is_let_through, looking_again, no_salt, out_of_sandbox, preparing, preparing_or, queried_for, ran, salted, salting, stated, statement_in}
use Rattle.session_talk.specs.Talk.{Begins, Own, Question, SessionTalk}
use Rattle.session_talk.specs.Turns.{answers, ask_of}
use Rattle.session_talk.specs.declared.actions.Ask.{Ask}
use Rattle.session_talk.specs.declared.actions.Ask.TheVariants as ask
use Rattle.session_talk.specs.declared.attempts.Attempting.{Attempting}
use Rattle.session_talk.specs.declared.attempts.Claim.{Claim}
use Rattle.session_talk.specs.declared.inputs.Input.{Input}
use Rattle.session_talk.specs.declared.open_session.OpenSession.{OpenSession}
use Rattle.stmt_rules.specs.declared.statement.Statement.{Statement}
use Rattle.stmt_rules.specs.declared.statement.Statement.TheVariants.{Create, Alter, Drop, Flush, Grant, Revoke}
use Rattle.stmt_rules.specs.declared.statement.Target.{Target}
use Rattle.stmt_rules.specs.declared.statement.Target.TheVariants as target
use Rattle.session_talk.proofs.Asking.{own_answer}
use Rattle.session_talk.proofs.Words.{checked_taken, drawn_taken, locked_taken, look_taken, prepared_taken, ran_locked_taken, ran_plain_taken, ran_taken, renewed_taken, settled_taken, start_taken, switched_to}
use Rattle.serve_talk.specs.Fitting.{Fits, Held, Late, MayLook, Nothing, OnLook, Paper, SessionsFit, Spending, held_after, is_call, most_packets, nothing_held, opened_by}

-- ## More packets

spending_more : (calls : Bool) (n : ℕ) (P Q : ℕ → Type 0) → ((left : ℕ) → P left → Q left) → Spending calls n P → Spending calls n Q
spending_more false n P Q goes_on spends = goes_on n spends
spending_more true zero P Q goes_on spends = absurd spends
spending_more true (suc n) P Q goes_on spends = goes_on n spends

-- where so many packets are read at most, one more may be
pub one_more : (t : SessionTalk) (m n : ℕ) (h : Held) → Fits m n h t → Fits (suc m) n h t
one_more (Says payload t) m n h fits = one_more t m n h fits
one_more (Hears anew k) zero n h fits = absurd fits
one_more (Hears anew k) (suc m) n h fits = λ payload. one_more (k (Got payload)) m 5 h (fits payload)
one_more (Asks q k) m n h fits = (
  fits.0,
  spending_more (is_call (ask_of q)) n
      (λ left. (given : Input) → IsTrue (answers q given) → Fits m left (held_after h (ask_of q) given) (k given))
      (λ left. (given : Input) → IsTrue (answers q given) → Fits (suc m) left (held_after h (ask_of q) given) (k given))
      (λ left goes_on given is. one_more (k given) m left (held_after h (ask_of q) given) (goes_on given is)) fits.1,
)
one_more (Over how) m n h fits = fits

-- ## Statements

abbrev open_held : Paper → OpenSession → Held
open_held paper opened = record { paper = paper; account = Some opened.account }

may_look_at : (actor : ℕ) (t : Target) → MayLook (Some actor) (who_of_target actor t)
may_look_at actor target.Own = refl
may_look_at actor (target.Named name) = tt

may_look : (actor : ℕ) (statement : Statement) → MayLook (Some actor) (who_of actor statement)
may_look actor (Create name auth factors options) = tt
may_look actor (Alter t change options) = may_look_at actor t
may_look actor (Drop name) = tt
may_look actor Flush = refl
may_look actor (Grant privileges name) = tt
may_look actor (Revoke privileges name) = tt

module _ (m : ℕ) (goes_on : OpenSession → SessionTalk) (all : (n : ℕ) (paper : Paper) (later : OpenSession) → Fits m n (open_held paper later) (goes_on later)) where
  ran_fits : (n : ℕ) (paper : Paper) (opened : OpenSession) (reply : StmtReply) → Fits m n (open_held paper opened) (ran goes_on opened reply)
  ran_fits n paper opened Done = all n paper (out_of_sandbox opened)
  ran_fits n paper opened (Refused error) = all n paper opened

  locked_fits : (n : ℕ) (who : Who) (opened : OpenSession) (statement : Statement) (salt : List ℕ) →
      Fits m (suc n) (open_held (Late who 2) opened) (committing_locked goes_on opened statement salt)
  locked_fits n who opened statement salt = (
    (who, refl),
    λ given is. ran_locked_taken (λ g t. Fits m n (held_after (open_held (Late who 2) opened) (ask.CommitLocked statement salt opened.account) g) t)
        statement salt opened.account (ran goes_on opened) (λ reply. ran_fits n Nothing opened reply) given
        (own_answer (Own (ask.CommitLocked statement salt opened.account)) given is).0,
  )

  committing_fits : (n number : ℕ) (stale : SessionTalk) (opened : OpenSession) (prepared : PreparedOf) →
      Fits m n (open_held (Late (who_of opened.account prepared.statement) (number + 1)) opened) stale →
      Fits m (suc n) (open_held (OnLook (who_of opened.account prepared.statement) prepared.look number) opened) (committing_or goes_on stale opened prepared)
  committing_fits n number stale opened prepared fits =
      let h : Held = open_held (OnLook (who_of opened.account prepared.statement) prepared.look number) opened in (
        (number, refl),
        λ given is. ran_taken (λ g t. Fits m n (held_after h (ask.Commit prepared opened.account) g) t)
            prepared opened.account stale (ran goes_on opened) (λ statement. fits) (λ reply. ran_fits n Nothing opened reply) given
            (own_answer (Own (ask.Commit prepared opened.account)) given is).0,
      )

  preparing_fits : (n number : ℕ) (stale : SessionTalk) (opened : OpenSession) (look : Look) (statement : Statement) (salt : List ℕ) →
      Fits m n (open_held (Late (who_of opened.account statement) (number + 1)) opened) stale →
      Fits m (suc n) (open_held (OnLook (who_of opened.account statement) look number) opened) (preparing_or goes_on stale opened look statement salt)
  preparing_fits n number stale opened look statement salt fits =
      let h : Held = open_held (OnLook (who_of opened.account statement) look number) opened in
      let prepared : PreparedOf = record { look = look; statement = statement; salt = salt; actor = opened.account } in (
        tt,
        λ given is. prepared_taken (λ g t. Fits m (suc n) (held_after h (ask.Prepare look statement salt opened.account) g) t)
            look statement salt opened.account (committing_or goes_on stale opened prepared)
            (λ _. committing_fits n number stale opened prepared fits) given
            (own_answer (Own (ask.Prepare look statement salt opened.account)) given is).0,
      )

  again_fits : (n : ℕ) (opened : OpenSession) (statement : Statement) (salt : List ℕ) →
      Fits m (suc (suc (suc n))) (open_held (Late (who_of opened.account statement) 1) opened) (looking_again goes_on opened statement salt)
  again_fits n opened statement salt =
      let who : Who = who_of opened.account statement in
      let locked : SessionTalk = committing_locked goes_on opened statement salt in (
        (refl, may_look opened.account statement),
        λ given is. renewed_taken (λ g t. Fits m (suc (suc n)) (held_after (open_held (Late who 1) opened) (ask.Renew who) g) t)
            who (λ look. preparing_or goes_on locked opened look statement salt)
            (λ look. preparing_fits (suc n) 1 locked opened look statement salt (locked_fits n who opened statement salt)) given
            (own_answer (Own (ask.Renew who)) given is).0,
      )

  first_fits : (n : ℕ) (opened : OpenSession) (look : Look) (statement : Statement) (salt : List ℕ) →
      Fits m (suc (suc (suc (suc n)))) (open_held (OnLook (who_of opened.account statement) look 0) opened) (preparing goes_on false opened look statement salt)
  first_fits n opened look statement salt =
      preparing_fits (suc (suc (suc n))) 0 (looking_again goes_on opened statement salt) opened look statement salt (again_fits n opened statement salt)

  salted_fits : (n : ℕ) (by : Bool) (opened : OpenSession) (look : Look) (statement : Statement) →
      Fits m (suc (suc (suc (suc n)))) (open_held (OnLook (who_of opened.account statement) look 0) opened) (salted goes_on by opened look statement)
  salted_fits n true opened look statement =
      let h : Held = open_held (OnLook (who_of opened.account statement) look 0) opened in (
        tt,
        λ given is. drawn_taken (λ g t. Fits m (suc (suc (suc (suc n)))) (held_after h ask.Draw g) t)
            (λ salt. preparing goes_on false opened look statement salt) (λ salt. first_fits n opened look statement salt) given
            (own_answer (Own ask.Draw) given is).0,
      )
  salted_fits n false opened look statement = first_fits n opened look statement no_salt

  executing_fits : (paper : Paper) (preparable : Bool) (opened : OpenSession) (statement : Statement) → is_preparable statement ≡ preparable →
      Fits m 5 (open_held paper opened) (executing goes_on preparable opened statement)
  executing_fits paper true opened statement is =
      let who : Who = who_of opened.account statement in (
        may_look opened.account statement,
        λ given fit. look_taken (λ g t. Fits m 4 (held_after (open_held paper opened) (ask.Observe who) g) t)
            who (λ look. salted goes_on (has_password (auth_of statement)) opened look statement)
            (λ look. salted_fits 0 (has_password (auth_of statement)) opened look statement) given
            (own_answer (Own (ask.Observe who)) given fit).0,
      )
  executing_fits paper false opened statement is = (
    is,
    λ given fit. ran_plain_taken (λ g t. Fits m 4 (held_after (open_held paper opened) (ask.CommitPlain statement opened.account) g) t)
        statement opened.account (ran goes_on opened) (λ reply. ran_fits 4 paper opened reply) given
        (own_answer (Own (ask.CommitPlain statement opened.account)) given fit).0,
  )

  stated_fits : (paper : Paper) (through : Bool) (opened : OpenSession) (statement : Statement) →
      Fits m 5 (open_held paper opened) (stated goes_on through opened statement)
  stated_fits paper true opened statement = executing_fits paper (is_preparable statement) opened statement refl
  stated_fits paper false opened statement = all 5 paper opened

  queried_fits : (paper : Paper) (opened : OpenSession) (found : Result Statement ℕ) → Fits m 5 (open_held paper opened) (queried_for goes_on opened found)
  queried_fits paper opened (Ok statement) = stated_fits paper (is_let_through opened statement) opened statement
  queried_fits paper opened (Err place) = all 5 paper opened

  commanded_fits : (paper : Paper) (found : Result Command ℕ) (opened : OpenSession) → Fits m 5 (open_held paper opened) (commanded found goes_on opened)
  commanded_fits paper (Ok Quit) opened = tt
  commanded_fits paper (Ok Ping) opened = all 5 paper opened
  commanded_fits paper (Ok Reset) opened = all 5 paper opened
  commanded_fits paper (Ok (Query text)) opened = queried_fits paper opened (statement_in text)
  commanded_fits paper (Ok (Change v)) opened = all 5 paper opened
  commanded_fits paper (Ok (Other first)) opened = all 5 paper opened
  commanded_fits paper (Ok NoCommand) opened = all 5 paper opened
  commanded_fits paper (Err at) opened = all 5 paper opened

-- ## Commands

command_fits : (left : ℕ) (paper : Paper) (opened : OpenSession) (payload : List ℕ) → Fits left 5 (open_held paper opened) (next_command left opened payload)
unfolding next_command heard_by
command_fits zero paper opened payload = tt
command_fits (suc left) paper opened payload =
    commanded_fits (suc left) (commands_left left) (λ n later_paper later. λ text. command_fits left later_paper later text) paper (command.read (start payload))
    (with_left left opened)

-- ## Logins

abbrev Opens : ℕ → Type 0
Opens m = (n : ℕ) (paper : Paper) (a : Attempting) (reply : Reply) → Fits m n (record { paper = paper; account = opened_by reply }) (outcome a reply)

opens : Opens 1048576
unfolding heard_by
opens n paper a (Opened account host) = λ payload. command_fits 1048575 paper _ payload
opens n paper a (Sandbox account host) = λ payload. command_fits 1048575 paper _ payload
opens n paper a (Blocked rule left) = tt
opens n paper a (Denied using_password) = tt
opens n paper a Locked = tt
opens n paper a MustChange = tt

opens_more : (m : ℕ) → Opens m → Opens (suc m)
opens_more m all n paper a reply = one_more (outcome a reply) m n (record { paper = paper; account = opened_by reply }) (all n paper a reply)

abbrev on_look : Attempting → Look → ℕ → Held
on_look a look number = record { paper = OnLook (Login a.user) look number; account = None }

abbrev late : Attempting → ℕ → Held
late a number = record { paper = Late (Login a.user) number; account = None }

module _ (m : ℕ) (all : Opens m) where
  locking_fits : (n : ℕ) (a : Attempting) (evidences : List Evidence) → Fits m (suc n) (late a 2) (locking a evidences)
  locking_fits n a evidences = (
    refl,
    λ given is. locked_taken (λ g t. Fits m n (held_after (late a 2) (ask.SettleLocked a.user evidences a.flags) g) t)
        a.user evidences a.flags (outcome a) (λ reply. all n Nothing a reply) given
        (own_answer (Own (ask.SettleLocked a.user evidences a.flags)) given is).0,
  )

  checking_fits : (n number : ℕ) (stale : SessionTalk) (a : Attempting) (look : Look) (evidences : List Evidence) →
      Fits m n (late a (number + 1)) stale → Fits m (suc n) (on_look a look number) (checking_or stale a look evidences)
  checking_fits n number stale a look evidences fits = (
    tt,
    λ given is. checked_taken (λ g t. Fits m (suc n) (held_after (on_look a look number) (ask.Check look evidences) g) t)
        look evidences (settling_or stale a (record { look = look; evidences = evidences }))
        (λ _. (
          (a.user, number, refl),
          λ given' is'. settled_taken
              (λ g t. Fits m n (held_after (on_look a look number) (ask.Settle (record { look = look; evidences = evidences }) a.flags) g) t)
              (record { look = look; evidences = evidences }) a.flags stale (outcome a) (λ _. fits) (λ reply. all n Nothing a reply) given'
              (own_answer (Own (ask.Settle (record { look = look; evidences = evidences }) a.flags)) given' is').0,
        )) given
        (own_answer (Own (ask.Check look evidences)) given is).0,
  )

  renewing_fits : (n : ℕ) (a : Attempting) (evidences : List Evidence) → Fits m (suc (suc (suc n))) (late a 1) (renewing a evidences)
  renewing_fits n a evidences = (
    (refl, tt),
    λ given is. renewed_taken (λ g t. Fits m (suc (suc n)) (held_after (late a 1) (ask.Renew (Login a.user)) g) t)
        (Login a.user) (λ look. checking_or (locking a evidences) a look evidences)
        (λ look. checking_fits (suc n) 1 (locking a evidences) a look evidences (locking_fits n a evidences)) given
        (own_answer (Own (ask.Renew (Login a.user))) given is).0,
  )

  proved_fits : (n : ℕ) (a : Attempting) (look : Look) (given : Evidence) → Fits m (suc (suc (suc (suc n)))) (on_look a look 0) (proved a look given)
  proved_fits n a look given =
      checking_fits (suc (suc (suc n))) 0 (renewing a (given ∷ [])) a look (given ∷ []) (renewing_fits n a (given ∷ []))

  caching_fits : (n : ℕ) (a : Attempting) (look : Look) (nonce bytes : List ℕ) (known : Bool) →
      Fits (suc m) (suc (suc (suc (suc n)))) (on_look a look 0) (caching a look nonce bytes known)
  unfolding heard_by
  caching_fits n a look nonce bytes true =
      one_more (proved a look (evidence.Fast nonce bytes)) m (suc (suc (suc (suc n)))) (on_look a look 0) (proved_fits n a look (evidence.Fast nonce bytes))
  caching_fits n a look nonce bytes false = λ text. proved_fits 1 a look (clear_evidence (without_zero text))

  proving_fits : (n : ℕ) (a : Attempting) (look : Look) (nonce bytes : List ℕ) (method : Method) →
      Fits (suc m) (suc (suc (suc (suc n)))) (on_look a look 0) (proving a look nonce bytes method)
  proving_fits n a look nonce bytes Native =
      one_more (proved a look (evidence.Native nonce bytes)) m (suc (suc (suc (suc n)))) (on_look a look 0) (proved_fits n a look (evidence.Native nonce bytes))
  proving_fits n a look nonce bytes CachingSha2 = caching_fits n a look nonce bytes (known_fits_of look.in_force nonce bytes)

  answering_fits : (n : ℕ) (a : Attempting) (look : Look) (nonce bytes : List ℕ) (blank : Bool) →
      Fits (suc m) (suc (suc (suc (suc n)))) (on_look a look 0) (answering a look nonce bytes blank)
  answering_fits n a look nonce bytes true =
      one_more (proved a look evidence.Empty) m (suc (suc (suc (suc n)))) (on_look a look 0) (proved_fits n a look evidence.Empty)
  answering_fits n a look nonce bytes false = proving_fits n a look nonce bytes (method_of look)

  switched_fits : (n : ℕ) (a : Attempting) (look : Look) (nonce : List ℕ) → Fits (suc (suc m)) n (on_look a look 0) (switched_to a look nonce)
  unfolding heard_by
  switched_fits n a look nonce = λ bytes. answering_fits 1 a look nonce bytes (is_blank bytes)

  claimed_fits : (a : Attempting) (claim : Claim) (look : Look) (named : Bool) → Fits (suc (suc m)) 4 (on_look a look 0) (claimed a claim look named)
  claimed_fits a claim look true =
      one_more (answering a look claim.nonce claim.auth (is_blank claim.auth)) (suc m) 4 (on_look a look 0)
      (answering_fits 0 a look claim.nonce claim.auth (is_blank claim.auth))
  claimed_fits a claim look false = (
    tt,
    λ given is. drawn_taken (λ g t. Fits (suc (suc m)) 4 (held_after (on_look a look 0) ask.Draw g) t)
        (switched_to a look) (λ nonce. switched_fits 4 a look nonce) given (own_answer (Own ask.Draw) given is).0,
  )

  responded_fits : (nonce : List ℕ) (found : Result Response ℕ) → Fits (suc (suc m)) 5 nothing_held (responded nonce found)
  responded_fits nonce (Ok said) =
      let a = attempt_of said in
      let claim = claim_of nonce said in (
        tt,
        λ given is. look_taken (λ g t. Fits (suc (suc m)) 4 (held_after nothing_held (ask.Observe (Login a.user)) g) t)
            (Login a.user) (λ look. claimed a claim look (is_named claim look)) (λ look. claimed_fits a claim look (is_named claim look)) given
            (own_answer (Own (ask.Observe (Login a.user))) given is).0,
      )
  responded_fits nonce (Err at) = tt

  greeting_fits : (id : ℕ) (nonce : List ℕ) → Fits (suc (suc (suc m))) 0 nothing_held (greeting id nonce)
  unfolding heard_by
  greeting_fits id nonce = λ payload. responded_fits nonce (response.read (start payload))

pub sessions_fit : SessionsFit
sessions_fit id = (
  tt,
  λ given is. start_taken (λ g t. Fits most_packets 0 (held_after nothing_held ask.Draw g) t) (greeting id) (greeting_fits 1048576 opens id) given
      (own_answer Begins given is).0,
)
