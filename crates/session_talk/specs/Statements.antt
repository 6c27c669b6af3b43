-- An account statement in an open session, as COM_QUERY brings it.
--
-- What is no statement is refused by the session itself, and so is each statement in a sandbox but a new password of the
-- session's own account. A CREATE USER or an ALTER USER is prepared on a look at the account that it is about, with a salt
-- that is drawn where BY stands, and then executed; the others are executed at once. After a stale answer the account is
-- looked at again, and the statement is prepared again with the salt that was drawn; after the second one it is prepared
-- and executed in one step. Nothing is asked of the client. The session goes on in every case, and what was done ends its
-- sandbox.
--
-- MySQL 8.0 Reference Manual, "Account Management Statements" and "Server Handling of Expired Passwords".
use Rattle.std.specs.Prelude.{ℕ, Bool, true, false, ◌&&◌, ◌||◌, not, List, [], ◌∷◌, length, replicate, Option, Some, None, is_some, Result, Ok, Err}
use Rattle.std.specs.Str.{bytes_eq}
use Rattle.lg_base.specs.declared.errors.Code.TheVariants as code
use Rattle.lg_base.specs.declared.names.Name.{Name}
use Rattle.factor_chain.specs.declared.credentials.Look.{Look}
use Rattle.stmt_rules.specs.Forms.{Read}
use Rattle.stmt_rules.specs.Taking.{place_of}
use Rattle.stmt_rules.specs.declared.statement.Auth.{Auth}
use Rattle.stmt_rules.specs.declared.statement.Change.{Change}
use Rattle.stmt_rules.specs.declared.statement.Statement.{Statement}
use Rattle.stmt_rules.specs.declared.statement.Statement.TheVariants.{Create, Alter, Drop, Flush, Grant, Revoke}
use Rattle.stmt_rules.specs.declared.statement.Target.{Target}
use Rattle.stmt_rules.specs.declared.statement.Target.TheVariants.{Own, Named}
use Rattle.stmt_syntax.specs.Reading.{reading}
use Rattle.account_history.specs.Naming.{same_host}
use Rattle.account_history.specs.Preparing.{PreparedOf, is_preparable, who_of}
use Rattle.account_history.specs.Refusals.{auth_in, auth_of}
use Rattle.account_history.specs.declared.entries.StmtReply.{StmtReply}
use Rattle.account_history.specs.declared.entries.StmtReply.TheVariants.{Done, Refused}
use Rattle.interaction.specs.Talk.{Says}
use Rattle.session_talk.specs.Talk.{SessionTalk, commits, commits_locked, commits_plain, draws, looks, prepares, renews}
use Rattle.session_talk.specs.Texts.{error_payload, ok_payload}
use Rattle.session_talk.specs.declared.open_session.OpenSession.{OpenSession}

-- ## Reading

-- what a text is read to: a statement with no token behind it, or the place of the first token at which none fits
abbrev pub read_to : (size : ℕ) → Read Statement → Result Statement ℕ
read_to size (Ok (statement, [])) = Ok statement
read_to size (Ok (statement, token ∷ rest)) = Err token.place
read_to size (Err rest) = Err (place_of size rest)

abbrev pub statement_in : (text : List ℕ) → Result Statement ℕ
statement_in text = read_to (length text) (reading text)

-- a password stands behind BY, be it empty
abbrev pub has_password : Option Auth → Bool
has_password None = false
has_password (Some auth) = is_some auth.password

-- ## The sandbox

-- the session's own account: `USER()`, or the name with the user and the host that opened
abbrev pub is_name_of : OpenSession → Name → Bool
is_name_of opened name = bytes_eq name.user opened.name.user && same_host name.host opened.name.host

abbrev pub is_own_target : OpenSession → Target → Bool
is_own_target opened Own = true
is_own_target opened (Named name) = is_name_of opened name

-- an ALTER USER of the session's own account with IDENTIFIED and BY
abbrev pub sets_own_password : OpenSession → Statement → Bool
sets_own_password opened (Create name auth factors options) = false
sets_own_password opened (Alter target change options) = is_own_target opened target && has_password (auth_in change)
sets_own_password opened (Drop name) = false
sets_own_password opened Flush = false
sets_own_password opened (Grant privileges name) = false
sets_own_password opened (Revoke privileges name) = false

-- a sandbox lets through a new password of its own account alone
abbrev pub is_let_through : OpenSession → Statement → Bool
is_let_through opened statement = not opened.sandbox || sets_own_password opened statement

-- the session behind a statement that was done. A sandbox ends, since nothing is done in it but what it is for.
abbrev pub out_of_sandbox : OpenSession → OpenSession
out_of_sandbox opened = record opened { sandbox = false }

-- ## What follows

-- without BY no salt is drawn
abbrev pub no_salt : List ℕ
no_salt = replicate 20 46

-- how a session goes on after a statement, with what it then knows of itself
module _ (goes_on : OpenSession → SessionTalk) where
  -- the reply is told
  abbrev pub ran : OpenSession → StmtReply → SessionTalk
  ran opened Done = Says ok_payload (goes_on (out_of_sandbox opened))
  ran opened (Refused error) = Says (error_payload error) (goes_on opened)

  -- after a second stale answer the statement is prepared and executed in one step
  abbrev pub committing_locked : OpenSession → Statement → (salt : List ℕ) → SessionTalk
  committing_locked opened statement salt = commits_locked statement salt opened.account (ran opened)

  -- a statement that was prepared is executed; a stale answer goes on otherwise
  abbrev pub committing_or : SessionTalk → OpenSession → PreparedOf → SessionTalk
  committing_or stale opened prepared = commits prepared opened.account stale (ran opened)

  abbrev pub preparing_or : SessionTalk → OpenSession → Look → Statement → (salt : List ℕ) → SessionTalk
  preparing_or stale opened look statement salt =
      prepares look statement salt opened.account
      (committing_or stale opened (record { look = look; statement = statement; salt = salt; actor = opened.account }))

  -- after a first stale answer the account is looked at again, and the salt stays
  abbrev pub looking_again : OpenSession → Statement → (salt : List ℕ) → SessionTalk
  looking_again opened statement salt =
      renews (who_of opened.account statement)
      (λ look. preparing_or (committing_locked opened statement salt) opened look statement salt)

  -- what follows a stale answer, the first one or the second
  abbrev pub after_stale : (again : Bool) → OpenSession → Statement → (salt : List ℕ) → SessionTalk
  after_stale false opened statement salt = looking_again opened statement salt
  after_stale true opened statement salt = committing_locked opened statement salt

  -- a statement is prepared on a look, and then executed
  abbrev pub preparing : (again : Bool) → OpenSession → Look → Statement → (salt : List ℕ) → SessionTalk
  preparing again opened look statement salt = preparing_or (after_stale again opened statement salt) opened look statement salt

  abbrev pub committing : (again : Bool) → OpenSession → PreparedOf → SessionTalk
  committing again opened prepared = committing_or (after_stale again opened prepared.statement prepared.salt) opened prepared

  -- a salt is drawn where BY stands
  abbrev pub salting : OpenSession → Look → Statement → SessionTalk
  salting opened look statement = draws (λ salt. preparing false opened look statement salt)

  abbrev pub salted : (by : Bool) → OpenSession → Look → Statement → SessionTalk
  salted true opened look statement = salting opened look statement
  salted false opened look statement = preparing false opened look statement no_salt

  -- the account that a statement is about is looked at
  abbrev pub looking_at : OpenSession → Statement → SessionTalk
  looking_at opened statement =
      looks (who_of opened.account statement) (λ look. salted (has_password (auth_of statement)) opened look statement)

  -- a statement that has nothing to prepare
  abbrev pub committing_plain : OpenSession → Statement → SessionTalk
  committing_plain opened statement = commits_plain statement opened.account (ran opened)

  abbrev pub executing : (preparable : Bool) → OpenSession → Statement → SessionTalk
  executing true opened statement = looking_at opened statement
  executing false opened statement = committing_plain opened statement

  -- a statement, as far as a sandbox lets it through
  abbrev pub stated : (through : Bool) → OpenSession → Statement → SessionTalk
  stated true opened statement = executing (is_preparable statement) opened statement
  stated false opened statement = Says (error_payload code.Sandboxed) (goes_on opened)

  -- what is read of a text
  abbrev pub queried_for : OpenSession → Result Statement ℕ → SessionTalk
  queried_for opened (Ok statement) = stated (is_let_through opened statement) opened statement
  queried_for opened (Err place) = Says (error_payload (code.Syntax place)) (goes_on opened)

  -- the text of COM_QUERY
  abbrev pub queried : OpenSession → (text : List ℕ) → SessionTalk
  queried opened text = queried_for opened (statement_in text)
