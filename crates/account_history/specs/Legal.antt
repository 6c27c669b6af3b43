-- Legal histories.
use Rattle.std.specs.Prelude.{◌≡◌, ℕ, ◌≤◌, Bool, true, false, IsTrue, Option, Some, None}
use Rattle.lg_base.specs.declared.errors.Code.{Code}
use Rattle.lg_outside.specs.Faults.{Rose}
use Rattle.stmt_rules.specs.declared.statement.Statement.{Statement}
use Rattle.stmt_rules.specs.declared.statement.Statement.TheVariants.{Create, Alter, Drop, Flush, Grant, Revoke}
use Rattle.account_history.specs.declared.entries.Entry.{Entry}
use Rattle.account_history.specs.declared.entries.Entry.TheVariants.{Observed, Attempted, Executed}
use Rattle.account_history.specs.declared.entries.Execution.{Execution}
use Rattle.account_history.specs.Answers.{attempt_reply, look_of, statement_refusal, statement_reply}
use Rattle.account_history.specs.Histories.{History, From, ◌▹◌}

-- the keeper's count of faults after a history: that of its last statement, or else of its start
abbrev pub last_count : History → ℕ
last_count (From start) = start.count
last_count (h ▹ Observed who look) = last_count h
last_count (h ▹ Attempted attempt) = last_count h
last_count (h ▹ Executed execution) = execution.count

-- FLUSH PRIVILEGES changes no account
abbrev pub changes_accounts : Statement → Bool
changes_accounts (Create name auth factors options) = true
changes_accounts (Alter target change options) = true
changes_accounts (Drop name) = true
changes_accounts Flush = false
changes_accounts (Grant privileges name) = true
changes_accounts (Revoke privileges name) = true

-- the keeper is called for a statement that isn't refused and changes an account
abbrev pub calls_keeper : Option Code → Statement → Bool
calls_keeper (Some code) statement = false
calls_keeper None statement = changes_accounts statement

-- A statement is answered as the history before it determines. The keeper's count doesn't fall, and has risen where it
-- failed.
pub record IsExecuted (h : History) (e : Execution) : Type 0 where
  pub replied : e.reply ≡ statement_reply h e.statement e.actor e.reading e.failed
  pub called : e.called ≡ calls_keeper (statement_refusal h e.statement e.actor e.reading) e.statement
  pub failed : IsTrue e.failed → IsTrue e.called × Rose (last_count h) e.count
  pub counted : last_count h ≤ e.count

-- the entry is answered as the history before it determines
abbrev pub IsAnswered : History → Entry → Type 0
IsAnswered h (Observed who look) = look ≡ look_of h who
IsAnswered h (Attempted attempt) =
    attempt.reply ≡ attempt_reply h attempt.user attempt.evidences attempt.flags attempt.reading
IsAnswered h (Executed execution) = IsExecuted h execution

-- each entry is answered as the entries before it determine
abbrev pub IsLegal : History → Type 0
IsLegal (From start) = Unit {0}
IsLegal (h ▹ entry) = IsLegal h × IsAnswered h entry
