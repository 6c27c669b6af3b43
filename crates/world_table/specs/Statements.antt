-- What an account statement is answered in a world, whose keeper fails where the script says so.
use Rattle.std.specs.Prelude.{ℕ, ◌+◌, Bool, true, false, not, ◌&&◌, ◌||◌, if◌then◌else◌, List, [], ◌∷◌}
use Rattle.lg_base.specs.declared.errors.Code.{Code}
use Rattle.lg_base.specs.declared.errors.Code.TheVariants as code
use Rattle.stmt_rules.specs.declared.statement.Statement.{Statement}
use Rattle.account_history.specs.declared.entries.Entry.{Entry}
use Rattle.account_history.specs.declared.entries.Entry.TheVariants.{Executed, Observed}
use Rattle.account_history.specs.declared.entries.Execution.{Execution}
use Rattle.account_history.specs.declared.entries.StmtReply.{StmtReply}
use Rattle.account_history.specs.declared.entries.StmtReply.TheVariants.{Done, Refused}
use Rattle.account_history.specs.declared.entries.Who.{Who}
use Rattle.account_history.specs.Answers.{statement_refusal, statement_reply}
use Rattle.account_history.specs.Given.{is_done}
use Rattle.account_history.specs.Histories.{history, noted}
use Rattle.account_history.specs.Legal.{calls_keeper, changes_accounts, last_count}
use Rattle.account_history.specs.Refusals.{auth_of}
use Rattle.account_history.specs.Preparing.{is_preparable, who_of}
use Rattle.session_talk.specs.Statements.{has_password, no_salt}
use Rattle.world_table.specs.Drawing.{drawn_nonce}
use Rattle.world_table.specs.Printing.{Adds, Line}
use Rattle.world_table.specs.Table.{Common, next_number, seen, with_draw, with_entry}

-- ## One statement

-- the keeper is called for a statement
abbrev pub is_called : Common → Statement → (actor : ℕ) → Bool
is_called c statement actor = calls_keeper (statement_refusal (history c.log) statement actor c.clock) statement

-- that call fails
abbrev pub has_failed : Common → Statement → (actor : ℕ) → Bool
has_failed c statement actor = is_called c statement actor && c.fails

-- the keeper's count of faults afterwards
abbrev pub count_after : Common → (failed : Bool) → ℕ
count_after c failed = if failed then last_count (history c.log) + 1 else last_count (history c.log)

-- the entry of a statement that is executed now
abbrev pub executed : Common → Statement → (salt : List ℕ) → (actor : ℕ) → Execution
executed c statement salt actor = record {
  statement = statement;
  salt = salt;
  actor = actor;
  reading = c.clock;
  count = count_after c (has_failed c statement actor);
  called = is_called c statement actor;
  failed = has_failed c statement actor;
  reply = statement_reply (history c.log) statement actor c.clock (has_failed c statement actor);
}

-- with this entry; a failure is told of one call alone
abbrev pub with_execution : Common → Execution → Common
with_execution c execution = record c { log = noted c.log (Executed execution); fails = c.fails && not execution.called }

-- ## Statements of the administrator

-- the number of the account that asks for them
abbrev pub administrator : ℕ
administrator = 1

-- a statement with BY
abbrev pub has_by : Statement → Bool
has_by statement = has_password (auth_of statement)

-- what comes of a statement: lines, and what is common after them
pub record Administered : Type 0 where
  pub lines : List Line
  pub common : Common

abbrev pub executes : Common → Statement → (salt : List ℕ) → Administered
executes c statement salt = record {
  lines = Adds (next_number c) (Executed (executed c statement salt administrator)) ∷ [];
  common = with_execution c (executed c statement salt administrator);
}

-- an entry stands before it
abbrev pub behind : (number : ℕ) → Entry → Administered → Administered
behind number entry did = record { lines = Adds number entry ∷ did.lines; common = did.common }

-- a salt is drawn, where one is wanted
abbrev pub executes_salted : (wanted : Bool) → Common → Statement → Administered
executes_salted true c statement = executes (with_draw c) statement (drawn_nonce (c.drawn + 1))
executes_salted false c statement = executes c statement no_salt

-- the account is looked at first
abbrev pub executes_seen : Common → Statement → Who → Administered
executes_seen c statement who =
    behind (next_number c) (Observed who (seen c who)) (executes_salted (has_by statement) (with_entry c (Observed who (seen c who))) statement)

-- A CREATE USER and an ALTER USER are prepared on a look at the account that they are about, and a new password behind BY
-- takes a salt that is drawn.
abbrev pub administered : Common → Statement → Administered
administered c statement =
    if is_preparable statement then executes_seen c statement (who_of administrator statement) else executes c statement no_salt

-- ## What the code tells from a reply

abbrev pub is_keeper_fault : StmtReply → Bool
is_keeper_fault Done = false
is_keeper_fault (Refused code.KeeperFault) = true
is_keeper_fault (Refused _) = false

-- the keeper was called
abbrev pub was_called : StmtReply → Statement → Bool
was_called reply statement = (is_done reply || is_keeper_fault reply) && changes_accounts statement
