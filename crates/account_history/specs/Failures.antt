-- The failed logins that count against an account.
--
-- MySQL 8.0 Reference Manual, "Failed-Login Tracking and Temporary Account Locking". The tally is a count over
-- the entries since the last one that clears it. A failure during a lock isn't counted; an attempt after a lock
-- has ended begins anew.
use Rattle.std.specs.Prelude.{ℕ, ◌+◌, max, ◌==◌, List, [], ◌∷◌, ◌++◌, map, filter, Bool, true, false, not, ◌&&◌, if◌then◌else◌, Option, Some, None}
use Rattle.std.specs.List.{list_any}
use Rattle.login_lock.specs.declared.Tally.{Tally}
use Rattle.login_lock.specs.Lock.{is_blocked, is_over, locked_at, tally_of, tracks}
use Rattle.account_rules.specs.declared.accounts.Account.{Account}
use Rattle.stmt_rules.specs.declared.statement.Statement.{Statement}
use Rattle.stmt_rules.specs.declared.statement.Statement.TheVariants.{Create, Alter, Drop, Flush, Grant, Revoke}
use Rattle.account_history.specs.declared.entries.Attempt.{Attempt}
use Rattle.account_history.specs.declared.entries.Entry.{Entry}
use Rattle.account_history.specs.declared.entries.Entry.TheVariants.{Observed, Attempted, Executed}
use Rattle.account_history.specs.declared.entries.Execution.{Execution}
use Rattle.account_history.specs.Given.{Given, given, is_done}
use Rattle.account_history.specs.Histories.{History, From, ◌▹◌, moment}
use Rattle.account_history.specs.Known.{known}
use Rattle.account_history.specs.Options.{clear_failures}
use Rattle.account_history.specs.Records.{has_id, in_force, records}
pub use Rattle.account_history.specs.Replies.{opens}
use Rattle.account_history.specs.Searching.{after_last}
use Rattle.account_history.specs.Targets.{of_account, target_of}
use Rattle.account_history.specs.Verifying.{account_verifies}

-- what an entry is to the tally of an account: its moment, whether it clears the tally, whether it is an attempt
-- that comes when a lock has ended, and whether it is a failure that counts
pub record Step : Type 0 where
  pub moment : ℕ
  pub resets : Bool
  pub renews : Bool
  pub counts : Bool

-- the last element that passes and what follows it, or all where none does
abbrev pub from_last : (Step → Bool) → List Step → List Step
from_last passes [] = []
from_last passes (x ∷ xs) = if list_any passes xs then from_last passes xs else x ∷ xs

-- the steps that the tally counts over: those after the last that clears it, from the last attempt on that came
-- when a lock had ended
abbrev pub span : List Step → List Step
span steps = from_last (λ step. step.renews) (after_last (λ step. step.resets) steps)

-- the moments of the failures that count, oldest first
abbrev pub failures_in : List Step → List ℕ
failures_in steps = map (λ step. step.moment) (filter (λ step. step.counts) (span steps))

abbrev pub no_step : ℕ → Step
no_step now = record { moment = now; resets = false; renews = false; counts = false }

-- an attempt on the account, with the lock that was set before it, if any
abbrev pub attempt_step : History → Account → Option ℕ → Attempt → ℕ → Step
attempt_step h account locked attempt now = record {
  moment = now;
  resets = opens attempt.reply;
  renews = is_over account.lock locked now;
  counts = tracks account.lock && not (is_blocked account.lock locked now)
      && not (account_verifies (known h) account attempt.evidences);
}

-- an attempt, where this account is in force for its user
abbrev pub step_on : History → Option Account → ℕ → List Step → Attempt → ℕ → Step
step_on h None id before attempt now = no_step now
step_on h (Some account) id before attempt now =
    if account.id == id
    then attempt_step h account (locked_at account.lock (failures_in before)) attempt now
    else no_step now

-- A statement that was done clears the failures that count against the account with a number: CREATE USER where it makes
-- the account, ALTER USER of the account with an option of the lock or ACCOUNT UNLOCK, and FLUSH PRIVILEGES.
abbrev pub clears_failures : List Account → Given → (actor : ℕ) → Statement → ℕ → Bool
clears_failures accounts given actor (Create name auth factors options) id = given.account + 1 == id
clears_failures accounts given actor (Alter target change options) id =
    clear_failures options && of_account (has_id id) (target_of accounts (Alter target change options) actor)
clears_failures accounts given actor (Drop name) id = false
clears_failures accounts given actor Flush id = true
clears_failures accounts given actor (Grant privileges name) id = false
clears_failures accounts given actor (Revoke privileges name) id = false

abbrev pub statement_step : History → Execution → ℕ → ℕ → Step
statement_step h execution id now = record {
  moment = now;
  resets = is_done execution.reply && clears_failures (records h) (given h) execution.actor execution.statement id;
  renews = false;
  counts = false;
}

abbrev pub step_of : History → Entry → ℕ → List Step → Step
step_of h (Observed who look) id before = no_step (moment h)
step_of h (Attempted attempt) id before =
    step_on h (in_force (records h) attempt.user) id before attempt (max attempt.reading (moment h))
step_of h (Executed execution) id before = statement_step h execution id (max execution.reading (moment h))

-- the entries of a history as steps of the account with a number
abbrev pub steps : History → ℕ → List Step
steps (From start) id = []
steps (h ▹ entry) id = steps h id ++ step_of h entry id (steps h id) ∷ []

-- the failures that count against the account with a number
abbrev pub failures : History → ℕ → List ℕ
failures h id = failures_in (steps h id)

-- an account's tally: the number of the failures that count, and the moment of the one at which it reached the
-- account's limit
abbrev pub tally : History → Account → Tally
tally h account = tally_of account.lock (failures h account.id)
