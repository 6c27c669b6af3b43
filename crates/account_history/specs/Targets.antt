-- The account that a statement names.
use Rattle.std.specs.Prelude.{ℕ, Bool, false, List, find, Option, Some, None}
use Rattle.account_rules.specs.declared.accounts.Account.{Account}
use Rattle.stmt_rules.specs.declared.statement.Statement.{Statement}
use Rattle.stmt_rules.specs.declared.statement.Statement.TheVariants.{Create, Alter, Drop, Flush, Grant, Revoke}
use Rattle.stmt_rules.specs.declared.statement.Target.{Target}
use Rattle.stmt_rules.specs.declared.statement.Target.TheVariants.{Own, Named}
use Rattle.account_history.specs.Naming.{has_id, is_named}

-- the account that an ALTER USER is about: `USER()` is the account of the one that asks
abbrev pub is_target : (actor : ℕ) → Target → Account → Bool
is_target actor Own a = has_id actor a
is_target actor (Named name) a = is_named name a

-- the account that a statement is about; FLUSH PRIVILEGES is about none
abbrev pub is_named_by : Statement → (actor : ℕ) → Account → Bool
is_named_by (Create name auth factors options) actor a = is_named name a
is_named_by (Alter target change options) actor a = is_target actor target a
is_named_by (Drop name) actor a = is_named name a
is_named_by Flush actor a = false
is_named_by (Grant privileges name) actor a = is_named name a
is_named_by (Revoke privileges name) actor a = is_named name a

abbrev pub target_of : List Account → Statement → (actor : ℕ) → Option Account
target_of accounts statement actor = find (is_named_by statement actor) accounts

-- a test of an account that must be there
abbrev pub of_account : (Account → Bool) → Option Account → Bool
of_account test None = false
of_account test (Some a) = test a
