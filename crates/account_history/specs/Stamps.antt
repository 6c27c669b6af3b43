-- Stamps: how often what a user logs in with has changed.
use Rattle.std.specs.Prelude.{ℕ, ◌+◌, Bool, true, false, ◌&&◌, if◌then◌else◌, List}
use Rattle.std.specs.Str.{bytes_eq}
use Rattle.account_rules.specs.declared.accounts.Account.{Account}
use Rattle.stmt_rules.specs.declared.statement.Change.{Change}
use Rattle.stmt_rules.specs.declared.statement.Change.TheVariants.{Nothing, Password, Discard, Add, Modify, DropFactor}
use Rattle.stmt_rules.specs.declared.statement.Statement.{Statement}
use Rattle.stmt_rules.specs.declared.statement.Statement.TheVariants.{Create, Alter, Drop, Flush, Grant, Revoke}
use Rattle.account_history.specs.declared.entries.Entry.{Entry}
use Rattle.account_history.specs.declared.entries.Entry.TheVariants.{Observed, Attempted, Executed}
use Rattle.account_history.specs.Given.{is_done}
use Rattle.account_history.specs.Histories.{History, From, ◌▹◌}
use Rattle.account_history.specs.Records.{records}
use Rattle.account_history.specs.Targets.{of_account, target_of}

-- a change of the ways of authentication, and not of options alone
abbrev pub is_change : Change → Bool
is_change Nothing = false
is_change (Password auth) = true
is_change Discard = true
is_change (Add n factor) = true
is_change (Modify n factor) = true
is_change (DropFactor n) = true

abbrev pub is_of_user : List ℕ → Account → Bool
is_of_user user a = bytes_eq a.name.user user

-- A statement clears the accounts of this user: it makes or drops one of them, or changes its ways of authentication; and
-- FLUSH PRIVILEGES clears each user's, also where the user has none.
abbrev pub clears_user : List Account → (actor : ℕ) → Statement → List ℕ → Bool
clears_user accounts actor (Create name auth factors options) user = bytes_eq name.user user
clears_user accounts actor (Alter target change options) user =
    is_change change && of_account (is_of_user user) (target_of accounts (Alter target change options) actor)
clears_user accounts actor (Drop name) user = bytes_eq name.user user
clears_user accounts actor Flush user = true
clears_user accounts actor (Grant privileges name) user = false
clears_user accounts actor (Revoke privileges name) user = false

-- an entry after a history clears an account of this user: no look and no attempt does, and no statement that was refused
abbrev pub clears : History → Entry → List ℕ → Bool
clears h (Observed _ _) user = false
clears h (Attempted _) user = false
clears h (Executed execution) user = is_done execution.reply && clears_user (records h) execution.actor execution.statement user

-- the number of entries that clear an account of this user
abbrev pub stamp : History → List ℕ → ℕ
stamp (From start) user = 0
stamp (h ▹ entry) user = if clears h entry user then stamp h user + 1 else stamp h user
