-- The refusals of statements, in their order: the first that holds is the answer.
--
-- The numbers below 50000 are those of the MySQL Server Error Message Reference; the others and the order are this
-- project's own.
use Rattle.std.specs.Prelude.{ℕ, ◌+◌, ◌==◌, nat_le, Bool, true, false, not, ◌&&◌, ◌||◌, if◌then◌else◌, List, [], ◌∷◌, length, find, Option, Some, None, option_map, codes}
use Rattle.std.specs.List.{list_any}
use Rattle.lg_base.specs.declared.errors.Code.{Code}
use Rattle.lg_base.specs.declared.errors.Code.TheVariants as code
use Rattle.lg_base.specs.declared.errors.Operation.{Operation}
use Rattle.lg_base.specs.declared.errors.Operation.TheVariants as operation
use Rattle.lg_base.specs.declared.names.Host.{Host}
use Rattle.lg_base.specs.declared.names.Host.TheVariants as host
use Rattle.lg_base.specs.declared.names.Name.{Name}
use Rattle.factor_chain.specs.Checking.{is_empty}
use Rattle.factor_chain.specs.declared.credentials.Method.{Method}
use Rattle.password_history.specs.Reuse.{forbidden, is_full}
use Rattle.account_rules.specs.declared.accounts.Account.{Account}
use Rattle.account_rules.specs.declared.accounts.Limit.{Limit}
use Rattle.account_rules.specs.declared.accounts.Limit.TheVariants as limit
use Rattle.account_rules.specs.declared.accounts.Settings.{Settings}
use Rattle.stmt_tokens.specs.Patterns.{is_same}
use Rattle.stmt_rules.specs.Grammar.{no_options}
use Rattle.stmt_rules.specs.declared.statement.Auth.{Auth}
use Rattle.stmt_rules.specs.declared.statement.Bound.{Bound}
use Rattle.stmt_rules.specs.declared.statement.Bound.TheVariants as bound
use Rattle.stmt_rules.specs.declared.statement.Change.{Change}
use Rattle.stmt_rules.specs.declared.statement.Change.TheVariants.{Nothing, Password, Discard, Add, Modify, DropFactor}
use Rattle.stmt_rules.specs.declared.statement.Expire.{Expire}
use Rattle.stmt_rules.specs.declared.statement.Expire.TheVariants as expire
use Rattle.stmt_rules.specs.declared.statement.FactorAuth.{FactorAuth}
use Rattle.stmt_rules.specs.declared.statement.Options.{Options}
use Rattle.stmt_rules.specs.declared.statement.Statement.{Statement}
use Rattle.stmt_rules.specs.declared.statement.Statement.TheVariants.{Create, Alter, Drop, Flush, Grant, Revoke}
use Rattle.stmt_rules.specs.declared.statement.Target.{Target}
use Rattle.stmt_rules.specs.declared.statement.Target.TheVariants.{Own, Named}
use Rattle.stmt_rules.specs.declared.statement.Time.{Time}
use Rattle.stmt_rules.specs.declared.statement.Time.TheVariants as time
use Rattle.account_history.specs.Naming.{has_id, or_else}
use Rattle.account_history.specs.Options.{limit_after}
use Rattle.account_history.specs.Passwords.{method_after, method_named, password_of, same_method}
use Rattle.account_history.specs.Privileges.{lacking, need}
use Rattle.account_history.specs.Targets.{of_account, target_of}

-- ## The parts of a statement

abbrev pub auth_in : Change → Option Auth
auth_in Nothing = None
auth_in (Password auth) = Some auth
auth_in Discard = None
auth_in (Add n factor) = None
auth_in (Modify n factor) = None
auth_in (DropFactor n) = None

-- the new password with its method, if the statement has one
abbrev pub auth_of : Statement → Option Auth
auth_of (Create name auth factors options) = auth
auth_of (Alter target change options) = auth_in change
auth_of (Drop name) = None
auth_of Flush = None
auth_of (Grant privileges name) = None
auth_of (Revoke privileges name) = None

abbrev pub factors_in : Change → List FactorAuth
factors_in Nothing = []
factors_in (Password auth) = []
factors_in Discard = []
factors_in (Add n factor) = factor ∷ []
factors_in (Modify n factor) = factor ∷ []
factors_in (DropFactor n) = []

-- the further factors that it sets
abbrev pub factors_of : Statement → List FactorAuth
factors_of (Create name auth factors options) = factors
factors_of (Alter target change options) = factors_in change
factors_of (Drop name) = []
factors_of Flush = []
factors_of (Grant privileges name) = []
factors_of (Revoke privileges name) = []

abbrev pub options_of : Statement → Options
options_of (Create name auth factors options) = options
options_of (Alter target change options) = options
options_of (Drop name) = no_options
options_of Flush = no_options
options_of (Grant privileges name) = no_options
options_of (Revoke privileges name) = no_options

-- its new password, which is empty where it has none
abbrev pub new_password_in : Option Auth → List ℕ
new_password_in None = []
new_password_in (Some auth) = password_of auth.password

abbrev pub new_password : Statement → List ℕ
new_password statement = new_password_in (auth_of statement)

-- ## The conditions

abbrev pub when : Bool → Code → Option Code
when holds code = if holds then Some code else None

-- 1227: the actor's account lacks the privilege, or no longer stands
abbrev pub unprivileged : (actor : ℕ) → (own target : Option Account) → Statement → Option Code
unprivileged actor None target statement = Some code.NeedCreateUser
unprivileged actor (Some own) target statement = lacking own (need (of_account (has_id actor) target) statement)

abbrev pub is_any : Host → Bool
is_any host.Localhost = false
is_any host.Any = true

abbrev pub cannot : Operation → Name → Code
cannot operation name = code.Cannot operation name.user (is_any name.host)

-- `USER()` is never missing where the actor's account stands
abbrev pub missing_target : Target → Code
missing_target Own = code.Cannot operation.AlterUser [] false
missing_target (Named name) = cannot operation.AlterUser name

-- 1396, 1410: the account stands already, or there is none
abbrev pub misplaced : Statement → Option Account → Option Code
misplaced (Create name auth factors options) None = None
misplaced (Create name auth factors options) (Some a) = Some (cannot operation.CreateUser name)
misplaced (Alter target change options) None = Some (missing_target target)
misplaced (Alter target change options) (Some a) = None
misplaced (Drop name) None = Some (cannot operation.DropUser name)
misplaced (Drop name) (Some a) = None
misplaced Flush target = None
misplaced (Grant privileges name) None = Some code.GrantCreates
misplaced (Grant privileges name) (Some a) = None
misplaced (Revoke privileges name) None = Some (cannot operation.Revoke name)
misplaced (Revoke privileges name) (Some a) = None

abbrev pub has_zero : List ℕ → Bool
has_zero bytes = list_any (λ b. b == 0) bytes

-- a user has 1 to 32 bytes without 00
abbrev pub is_bad_user : List ℕ → Bool
is_bad_user user = (length user == 0) || not (nat_le (length user) 32) || has_zero user

-- 50007: of a new account
abbrev pub has_bad_user : Statement → Bool
has_bad_user (Create name auth factors options) = is_bad_user name.user
has_bad_user (Alter target change options) = false
has_bad_user (Drop name) = false
has_bad_user Flush = false
has_bad_user (Grant privileges name) = false
has_bad_user (Revoke privileges name) = false

-- a name, unless it is that of a method
abbrev pub unless_known : List ℕ → Option Method → Option (List ℕ)
unless_known name None = Some name
unless_known name (Some m) = None

-- a method of a first factor that isn't known
abbrev pub unknown_word : Option (List ℕ) → Option (List ℕ)
unknown_word None = None
unknown_word (Some name) = unless_known name (method_named name)

abbrev pub unknown_first : Option Auth → Option (List ℕ)
unknown_first None = None
unknown_first (Some auth) = unknown_word auth.method

-- the one method of further factors
abbrev pub is_further : List ℕ → Bool
is_further name = is_same name (codes "external_clear")

abbrev pub unknown_further : List FactorAuth → Option (List ℕ)
unknown_further factors = option_map (λ factor. factor.method) (find (λ factor. not (is_further factor.method)) factors)

-- 1524: the first method in the statement that isn't known
abbrev pub unknown_method : Statement → Option (List ℕ)
unknown_method statement = or_else (unknown_first (auth_of statement)) (unknown_further (factors_of statement))

-- a further factor is added as the next one, is changed where it stands, and is dropped as the last one
abbrev pub misfits : Change → Account → Bool
misfits Nothing a = false
misfits (Password auth) a = false
misfits Discard a = false
misfits (Add n factor) a = not (n == length a.labels + 2)
misfits (Modify n factor) a = not (nat_le n (length a.labels + 1))
misfits (DropFactor n) a = not (n == length a.labels + 1)

-- 50006
abbrev pub misfits_target : Statement → Option Account → Bool
misfits_target (Create name auth factors options) target = false
misfits_target (Alter t change options) target = of_account (misfits change) target
misfits_target (Drop name) target = false
misfits_target Flush target = false
misfits_target (Grant privileges name) target = false
misfits_target (Revoke privileges name) target = false

-- a label has 1 to 64 bytes
abbrev pub is_bad_label : FactorAuth → Bool
is_bad_label factor = (length factor.label == 0) || not (nat_le (length factor.label) 64)

-- 50009
abbrev pub has_bad_label : Statement → Bool
has_bad_label statement = list_any is_bad_label (factors_of statement)

-- the statement retains the current password
abbrev pub retains : Option Auth → Bool
retains None = false
retains (Some auth) = auth.retain

abbrev pub changes_method : Option Auth → Account → Bool
changes_method None a = false
changes_method (Some auth) a = not (same_method (method_after auth.method a.method) a.method)

-- a password has at most 256 bytes and no 00
abbrev pub is_bad_password : List ℕ → Bool
is_bad_password password = not (nat_le (length password) 256) || has_zero password

-- a number from a least to a greatest one
abbrev pub is_within : (least most n : ℕ) → Bool
is_within least most n = nat_le least n && nat_le n most

abbrev pub expire_fits : Option Expire → Bool
expire_fits None = true
expire_fits (Some expire.Now) = true
expire_fits (Some expire.Default) = true
expire_fits (Some expire.Never) = true
expire_fits (Some (expire.Days days)) = is_within 1 65535 days

abbrev pub bound_fits : (most : ℕ) → Option Bound → Bool
bound_fits most None = true
bound_fits most (Some bound.Default) = true
bound_fits most (Some (bound.Count count)) = nat_le count most

abbrev pub attempts_fit : Option ℕ → Bool
attempts_fit None = true
attempts_fit (Some attempts) = nat_le attempts 32767

abbrev pub time_fits : Option Time → Bool
time_fits None = true
time_fits (Some (time.Days days)) = nat_le days 32767
time_fits (Some time.Unbounded) = true

-- the numbers of the options are in their ranges
abbrev pub options_fit : Options → Bool
options_fit o =
    expire_fits o.expire && bound_fits 256 o.history && bound_fits 65535 o.reuse && attempts_fit o.attempts && time_fits o.lock_time

-- a limit in force, which by default is the server's setting
abbrev pub limit_in_force : Limit → (setting : ℕ) → ℕ
limit_in_force limit.Default setting = setting
limit_in_force (limit.Count count) setting = count

-- The limits on reuse are those that stand once the statement's own options are taken in.
abbrev pub history_limit : Options → Settings → Account → ℕ
history_limit options settings a = limit_in_force (limit_after options.history a.history) settings.history

abbrev pub reuse_limit : Options → Settings → Account → ℕ
reuse_limit options settings a = limit_in_force (limit_after options.reuse a.reuse) settings.reuse

-- the new password may not be used again yet
abbrev pub is_reused : Statement → Settings → (now : ℕ) → Account → Bool
is_reused statement settings now a =
    forbidden a.past (history_limit (options_of statement) settings a) (reuse_limit (options_of statement) settings a) now
    (new_password statement)

-- a password that isn't empty would drop one that may not be used again yet
abbrev pub is_overfull : Statement → Settings → (now : ℕ) → Account → Bool
is_overfull statement settings now a =
    not (length (new_password statement) == 0) && is_full a.past (reuse_limit (options_of statement) settings a) now

-- ## The list

abbrev pub refusals : (actor : ℕ) → (own target : Option Account) → Statement → Settings → (now : ℕ) → List (Option Code)
refusals actor own target statement settings now =
    -- 1227
    unprivileged actor own target statement
    -- 1396, 1410
    ∷ misplaced statement target
    -- 50007
    ∷ when (has_bad_user statement) code.NameLength
    -- 1524
    ∷ option_map code.NoMethod (unknown_method statement)
    -- 50006
    ∷ when (misfits_target statement target) code.FactorNumber
    -- 50009
    ∷ when (has_bad_label statement) code.LabelLength
    -- 50002
    ∷ when (retains (auth_of statement) && of_account (changes_method (auth_of statement)) target) code.RetainMethod
    -- 50001
    ∷ when (retains (auth_of statement) && of_account (λ a. is_empty a.primary) target) code.RetainEmpty
    -- 50003
    ∷ when (is_bad_password (new_password statement)) code.PasswordForm
    -- 50004
    ∷ when (not (options_fit (options_of statement))) code.OutOfRange
    -- 3638
    ∷ when (of_account (is_reused statement settings now) target) code.Reused
    -- 50005
    ∷ when (of_account (is_overfull statement settings now) target) code.HistoryFull
    ∷ []

-- the first that holds
abbrev pub first_of : List (Option Code) → Option Code
first_of [] = None
first_of (refusal ∷ refusals) = or_else refusal (first_of refusals)

-- why a statement is refused at a moment, where the accounts are these
abbrev pub first_refusal : List Account → Statement → (actor : ℕ) → Settings → (now : ℕ) → Option Code
first_refusal accounts statement actor settings now =
    first_of (refusals actor (find (has_id actor) accounts) (target_of accounts statement actor) statement settings now)
