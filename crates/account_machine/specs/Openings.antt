-- The accounts that stand from the start: `root` without a password and with both privileges, and native accounts
-- that a start may add.
use Rattle.std.specs.Prelude.{ℕ, ◌+◌, ◌==◌, ◌&&◌, nat_le, not, Bool, true, false, if◌then◌else◌, List, [], ◌∷◌, length, None, codes}
use Rattle.std.specs.Str.{bytes_eq}
use Rattle.std.specs.List.{list_any}
use Rattle.lg_base.specs.declared.names.Host.TheVariants as host
use Rattle.factor_chain.specs.declared.credentials.Stored.{Stored}
use Rattle.factor_chain.specs.declared.credentials.Stored.TheVariants as stored
use Rattle.factor_chain.specs.declared.credentials.Method.{Method}
use Rattle.factor_chain.specs.declared.credentials.Method.TheVariants as method
use Rattle.login_lock.specs.declared.LockTime.TheVariants.{Days}
use Rattle.native_scramble.specs.Native.{native_stage2}
use Rattle.account_rules.specs.declared.accounts.Account.{Account}
use Rattle.account_rules.specs.declared.accounts.Lifetime.TheVariants as lifetime
use Rattle.account_rules.specs.declared.accounts.Limit.TheVariants as limit
use Rattle.account_rules.specs.declared.accounts.Settings.{Settings}
use Rattle.account_history.specs.declared.entries.Opening.{Opening}
use Rattle.account_history.specs.declared.entries.Start.{Start}

-- an account at `localhost` with default options, without a secondary password and further factors
abbrev pub plain_account : ℕ → List ℕ → Method → Stored → Bool → Account
plain_account id user method stored privileged = record {
  id = id;
  name = record { user = user; host = host.Localhost };
  method = method;
  primary = stored;
  primary_id = id;
  secondary = None;
  labels = [];
  changed = 0;
  expired = false;
  lifetime = lifetime.Default;
  history = limit.Default;
  reuse = limit.Default;
  lock = record { attempts = 0; time = Days 0 };
  locked = false;
  create_user = privileged;
  password_admin = privileged;
  past = [];
}

-- the account `'root'@'localhost'`
abbrev pub root_account : Account
root_account = plain_account 1 (codes "root") method.CachingSha2 stored.Empty true

-- what is stored of a native account's password
abbrev pub native_stored : List ℕ → Stored
native_stored password = if length password == 0 then stored.Empty else stored.Native (native_stage2 password)

-- native accounts, numbered from here on
abbrev pub native_accounts : ℕ → List Opening → List Account
native_accounts id [] = []
native_accounts id (opening ∷ openings) =
    plain_account id opening.user method.Native (native_stored opening.password) false ∷ native_accounts (id + 1) openings

-- the accounts of a start
abbrev pub opening_accounts : List Opening → List Account
opening_accounts openings = root_account ∷ native_accounts 2 openings

abbrev pub opening_start : List Opening → Settings → Start
opening_start openings settings = record { accounts = opening_accounts openings; settings = settings; count = 0 }

-- a user that a start may add: 1 to 32 bytes without 00, and not `root`
abbrev pub is_opening_user : List ℕ → Bool
is_opening_user user =
    nat_le 1 (length user) && nat_le (length user) 32 && not (list_any (λ b. b == 0) user) && not (bytes_eq user (codes "root"))

-- its password: at most 256 bytes without 00
abbrev pub is_opening_password : List ℕ → Bool
is_opening_password password = nat_le (length password) 256 && not (list_any (λ b. b == 0) password)

abbrev pub is_opening : Opening → Bool
is_opening opening = is_opening_user opening.user && is_opening_password opening.password

-- accounts that a start may add: no two have one user
abbrev pub are_openings : List Opening → Bool
are_openings [] = true
are_openings (opening ∷ openings) =
    is_opening opening && not (list_any (λ other. bytes_eq opening.user other.user) openings) && are_openings openings
