-- Whose stamp a statement raises.
use Rattle.std.specs.Prelude.{ℕ, Bool, true, false, if◌then◌else◌, List, Option, Some, None, option_map}
use Rattle.std.specs.Str.{bytes_eq}
use Rattle.account_rules.specs.declared.accounts.Account.{Account}
use Rattle.stmt_rules.specs.declared.statement.Statement.{Statement}
use Rattle.stmt_rules.specs.declared.statement.Statement.TheVariants.{Create, Alter, Drop, Flush, Grant, Revoke}
use Rattle.account_history.specs.Stamps.{is_change}

-- the user whose accounts a statement clears; FLUSH PRIVILEGES clears every user's
abbrev pub cleared_user : Statement → Option Account → Option (List ℕ)
cleared_user (Create name auth factors options) target = Some name.user
cleared_user (Alter t change options) target = if is_change change then option_map (λ a. a.name.user) target else None
cleared_user (Drop name) target = Some name.user
cleared_user Flush target = None
cleared_user (Grant privileges name) target = None
cleared_user (Revoke privileges name) target = None

abbrev pub is_flush : Statement → Bool
is_flush (Create name auth factors options) = false
is_flush (Alter t change options) = false
is_flush (Drop name) = false
is_flush Flush = true
is_flush (Grant privileges name) = false
is_flush (Revoke privileges name) = false

-- the user's stamp is raised
abbrev pub is_user : Option (List ℕ) → List ℕ → Bool
is_user None user = false
is_user (Some cleared) user = bytes_eq cleared user

abbrev pub raises : Statement → Option (List ℕ) → List ℕ → Bool
raises statement cleared user = if is_flush statement then true else is_user cleared user
