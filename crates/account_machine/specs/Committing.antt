-- What is noted of a statement, and what it does to the rows that the keeper tells.
use Rattle.std.specs.Prelude.{ℕ, max, Bool, false, not, if◌then◌else◌, List, Option, Some, None, option_map}
use Rattle.lg_base.specs.declared.errors.Code.{Code}
use Rattle.lg_outside.specs.declared.keepers.Row.{Row as Kept}
use Rattle.stmt_rules.specs.declared.statement.Statement.{Statement}
use Rattle.account_history.specs.declared.entries.Execution.{Execution}
use Rattle.account_history.specs.declared.entries.StmtReply.{StmtReply}
use Rattle.account_history.specs.Answers.{statement_refusal}
use Rattle.account_history.specs.Given.{given, is_done}
use Rattle.account_history.specs.Histories.{History, moment}
use Rattle.account_history.specs.Legal.{calls_keeper}
use Rattle.account_history.specs.Records.{records}
use Rattle.account_machine.specs.Executing.{kept_after}

-- the keeper failed: a statement that isn't refused was not done
abbrev pub is_fault : Option Code → StmtReply → Bool
is_fault (Some code) reply = false
is_fault None reply = not (is_done reply)

abbrev pub has_failed : History → Statement → (actor reading : ℕ) → StmtReply → Bool
has_failed h statement actor reading reply = is_fault (statement_refusal h statement actor reading) reply

-- a statement with its reply, and with the count of the keeper's faults after it
abbrev pub execution_of : History → Statement → (salt : List ℕ) → (actor reading count : ℕ) → StmtReply → Execution
execution_of h statement salt actor reading count reply = record {
  statement = statement;
  salt = salt;
  actor = actor;
  reading = reading;
  count = count;
  called = calls_keeper (statement_refusal h statement actor reading) statement;
  failed = has_failed h statement actor reading reply;
  reply = reply;
}

-- the rows that are told after a statement: one is put or removed where it was done, and else they are as before
abbrev pub told_after : History → Statement → (salt : List ℕ) → (actor reading : ℕ) → StmtReply → Option (List Kept) → Option (List Kept)
told_after h statement salt actor reading reply told =
    if is_done reply
    then option_map (kept_after statement (given h) actor salt (max reading (moment h)) (records h)) told
    else told
