-- Which account has a name, a number or a password, and which is in force for a user.
--
-- MySQL 8.0 Reference Manual, "Access Control, Stage 1: Connection Verification": of the accounts that match,
-- the one with the most specific host is taken. Here a user's account at `localhost` comes before the one at
-- `%`.
use Rattle.std.specs.Prelude.{ℕ, ◌==◌, Bool, true, false, ◌&&◌, ◌||◌, List, find, Option, Some, None}
use Rattle.std.specs.Str.{bytes_eq}
use Rattle.lg_base.specs.declared.names.Host.{Host}
use Rattle.lg_base.specs.declared.names.Host.TheVariants as host
use Rattle.lg_base.specs.declared.names.Name.{Name}
use Rattle.factor_chain.specs.declared.credentials.Stored.{Stored}
use Rattle.account_rules.specs.declared.accounts.Account.{Account}

abbrev pub same_host : Host → Host → Bool
same_host host.Localhost host.Localhost = true
same_host host.Localhost host.Any = false
same_host host.Any host.Localhost = false
same_host host.Any host.Any = true

-- the account has this user and this host
abbrev pub is_at : List ℕ → Host → Account → Bool
is_at user host account = bytes_eq account.name.user user && same_host account.name.host host

-- the account has exactly this name
abbrev pub is_named : Name → Account → Bool
is_named name account = is_at name.user name.host account

abbrev pub has_id : ℕ → Account → Bool
has_id id account = account.id == id

-- a secondary password has this number
abbrev pub has_password : ℕ → Option (Stored × ℕ) → Bool
has_password id None = false
has_password id (Some password) = password.1 == id

-- one of the account's passwords has it
abbrev pub holds_password : ℕ → Account → Bool
holds_password id account = (account.primary_id == id) || has_password id account.secondary

abbrev pub or_else : {T : Type 0} → Option T → Option T → Option T
or_else (Some x) other = Some x
or_else None other = other

-- the account in force for a user: the one at `localhost`, else the one at `%`
abbrev pub in_force : List Account → List ℕ → Option Account
in_force accounts user = or_else (find (is_at user host.Localhost) accounts) (find (is_at user host.Any) accounts)
