-- The stamps that a statement raises are those of the users whose accounts it clears.
use Rattle.std.proofs.Common.{◌≡◌, refl, ℕ, List, Option, Some, None, option_map}
use Rattle.account_rules.specs.declared.accounts.Account.{Account}
use Rattle.stmt_rules.specs.declared.statement.Change.TheVariants.{Nothing, Password, Discard, Add, Modify, DropFactor}
use Rattle.stmt_rules.specs.declared.statement.Statement.{Statement}
use Rattle.stmt_rules.specs.declared.statement.Statement.TheVariants.{Create, Alter, Drop, Flush, Grant, Revoke}
use Rattle.account_history.specs.Stamps.{clears_user, is_of_user}
use Rattle.account_history.specs.Targets.{of_account, target_of}
use Rattle.account_machine.specs.Clearing.{cleared_user, is_user, raises}

of-target : (target : Option Account) (user : List ℕ) → is_user (option_map (λ a. a.name.user) target) user ≡ of_account (is_of_user user) target
of-target None user = refl
of-target (Some a) user = refl

pub raises-cleared : (st : Statement) (accounts : List Account) (actor : ℕ) (user : List ℕ)
    → raises st (cleared_user st (target_of accounts st actor)) user ≡ clears_user accounts actor st user
raises-cleared (Create name auth factors options) accounts actor user = refl
raises-cleared (Alter target Nothing options) accounts actor user = refl
raises-cleared (Alter target (Password auth) options) accounts actor user = of-target (target_of accounts (Alter target (Password auth) options) actor) user
raises-cleared (Alter target Discard options) accounts actor user = of-target (target_of accounts (Alter target Discard options) actor) user
raises-cleared (Alter target (Add n factor) options) accounts actor user = of-target (target_of accounts (Alter target (Add n factor) options) actor) user
raises-cleared (Alter target (Modify n factor) options) accounts actor user = of-target (target_of accounts (Alter target (Modify n factor) options) actor) user
raises-cleared (Alter target (DropFactor n) options) accounts actor user = of-target (target_of accounts (Alter target (DropFactor n) options) actor) user
raises-cleared (Drop name) accounts actor user = refl
raises-cleared Flush accounts actor user = refl
raises-cleared (Grant privileges name) accounts actor user = refl
raises-cleared (Revoke privileges name) accounts actor user = refl
