-- What a statement that was done does to the accounts.
--
-- MySQL 8.0 Reference Manual, "Account Management Statements". The numbers of accounts and passwords are this project's.
use Rattle.std.specs.Prelude.{ℕ, ◌+◌, ◌-◌, Bool, true, false, not, ◌&&◌, ◌||◌, cond, List, [], ◌∷◌, ◌++◌, map, take, slice_set, Option, Some, None}
use Rattle.lg_base.specs.declared.names.Name.{Name}
use Rattle.factor_chain.specs.declared.credentials.Method.TheVariants as method
use Rattle.factor_chain.specs.declared.credentials.Stored.TheVariants as stored
use Rattle.login_lock.specs.declared.LockTime.TheVariants.{Days}
use Rattle.account_rules.specs.declared.accounts.Account.{Account}
use Rattle.account_rules.specs.declared.accounts.Lifetime.TheVariants as lifetime
use Rattle.account_rules.specs.declared.accounts.Limit.TheVariants as limit
use Rattle.stmt_rules.specs.declared.statement.Auth.{Auth}
use Rattle.stmt_rules.specs.declared.statement.Change.{Change}
use Rattle.stmt_rules.specs.declared.statement.Change.TheVariants.{Nothing, Password, Discard, Add, Modify, DropFactor}
use Rattle.stmt_rules.specs.declared.statement.FactorAuth.{FactorAuth}
use Rattle.stmt_rules.specs.declared.statement.Options.{Options}
use Rattle.stmt_rules.specs.declared.statement.Privileges.{Privileges}
use Rattle.stmt_rules.specs.declared.statement.Statement.{Statement}
use Rattle.stmt_rules.specs.declared.statement.Statement.TheVariants.{Create, Alter, Drop, Flush, Grant, Revoke}
use Rattle.account_history.specs.declared.entries.Execution.{Execution}
use Rattle.account_history.specs.Given.{Given}
use Rattle.account_history.specs.Naming.{is_named}
use Rattle.account_history.specs.Options.{with_options}
use Rattle.account_history.specs.Passwords.{with_password}
use Rattle.account_history.specs.Targets.{is_target}

-- CREATE USER begins with default options, no privilege and an empty password of the caching method
abbrev pub begun_account : (id : ℕ) → Name → Account
begun_account id name = record {
  id = id;
  name = name;
  method = method.CachingSha2;
  primary = stored.Empty;
  primary_id = 0;
  secondary = None;
  labels = [];
  changed = 0;
  expired = false;
  lifetime = lifetime.Default;
  history = limit.Default;
  reuse = limit.Default;
  lock = record { attempts = 0; time = Days 0 };
  locked = false;
  create_user = false;
  password_admin = false;
  past = [];
}

-- a CREATE USER without IDENTIFIED is one without WITH and without BY
abbrev pub auth_or_none : Option Auth → Auth
auth_or_none None = record { method = None; password = None; retain = false }
auth_or_none (Some auth) = auth

abbrev pub with_labels : List FactorAuth → Account → Account
with_labels factors a = record a { labels = map (λ factor. factor.label) factors }

-- CREATE USER: the new account with the next numbers
abbrev pub created : Given → (salt : List ℕ) → (now : ℕ) → Name → Option Auth → List FactorAuth → Options → Account
created given salt now name auth factors options =
    with_options options
    (with_labels factors (with_password (given.credential + 1) salt now (auth_or_none auth) (begun_account (given.account + 1) name)))

-- an ALTER USER with IDENTIFIED and without BY leaves the account with an empty password that is expired
abbrev pub expired_without : Option (List ℕ) → Account → Account
expired_without None a = record a { expired = true }
expired_without (Some password) a = a

-- What ALTER USER does to the ways of authentication: a new password; DISCARD OLD PASSWORD; the label of a further factor.
-- The second factor has the first label.
abbrev pub changed : Change → (id : ℕ) → (salt : List ℕ) → (now : ℕ) → Account → Account
changed Nothing id salt now a = a
changed (Password auth) id salt now a = expired_without auth.password (with_password id salt now auth a)
changed Discard id salt now a = record a { secondary = None }
changed (Add n factor) id salt now a = record a { labels = a.labels ++ factor.label ∷ [] }
changed (Modify n factor) id salt now a = record a { labels = slice_set a.labels (n - 2) factor.label }
changed (DropFactor n) id salt now a = record a { labels = take (n - 2) a.labels }

-- ALTER USER
abbrev pub altered : Given → (salt : List ℕ) → (now : ℕ) → Change → Options → Account → Account
altered given salt now change options a = with_options options (changed change (given.credential + 1) salt now a)

-- GRANT and REVOKE
abbrev pub granted : Privileges → Account → Account
granted privileges a = record a {
  create_user = a.create_user || privileges.create_user;
  password_admin = a.password_admin || privileges.password_admin;
}

abbrev pub revoked : Privileges → Account → Account
revoked privileges a = record a {
  create_user = a.create_user && not privileges.create_user;
  password_admin = a.password_admin && not privileges.password_admin;
}

-- a list with the first that passes changed, and without it
abbrev pub with_changed : {A : Type 0} → (A → Bool) → (A → A) → List A → List A
with_changed test change [] = []
with_changed test change (x ∷ xs) = cond (test x) (change x ∷ xs) (x ∷ with_changed test change xs)

abbrev pub without : {A : Type 0} → (A → Bool) → List A → List A
without test [] = []
without test (x ∷ xs) = cond (test x) xs (x ∷ without test xs)

abbrev pub effect_of : Statement → Given → (actor : ℕ) → (salt : List ℕ) → (now : ℕ) → List Account → List Account
effect_of (Create name auth factors options) given actor salt now accounts =
    accounts ++ created given salt now name auth factors options ∷ []
effect_of (Alter target change options) given actor salt now accounts =
    with_changed (is_target actor target) (altered given salt now change options) accounts
effect_of (Drop name) given actor salt now accounts = without (is_named name) accounts
effect_of Flush given actor salt now accounts = accounts
effect_of (Grant privileges name) given actor salt now accounts = with_changed (is_named name) (granted privileges) accounts
effect_of (Revoke privileges name) given actor salt now accounts = with_changed (is_named name) (revoked privileges) accounts

-- the accounts after a statement that was done at a moment, by the numbers that were given before it
abbrev pub effect : Given → Execution → (now : ℕ) → List Account → List Account
effect given execution now accounts = effect_of execution.statement given execution.actor execution.salt now accounts
