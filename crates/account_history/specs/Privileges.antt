-- Which privilege a statement needs.
--
-- MySQL 8.0 Reference Manual, "ALTER USER Statement" (privileges), "Privileges Provided by MySQL" (CREATE USER,
-- APPLICATION_PASSWORD_ADMIN).
use Rattle.std.specs.Prelude.{ℕ, Bool, true, false, not, ◌&&◌, ◌||◌, if◌then◌else◌, List, Option, Some, None, is_some}
use Rattle.lg_base.specs.declared.errors.Code.{Code}
use Rattle.lg_base.specs.declared.errors.Code.TheVariants.{NeedCreateUser, NeedPasswordAdmin}
use Rattle.account_rules.specs.declared.accounts.Account.{Account}
use Rattle.stmt_rules.specs.declared.statement.Change.{Change}
use Rattle.stmt_rules.specs.declared.statement.Change.TheVariants.{Nothing, Password, Discard, Add, Modify, DropFactor}
use Rattle.stmt_rules.specs.declared.statement.Options.{Options}
use Rattle.stmt_rules.specs.declared.statement.Statement.{Statement}
use Rattle.stmt_rules.specs.declared.statement.Statement.TheVariants.{Create, Alter, Drop, Flush, Grant, Revoke}

pub data Need : Type 0 where
  Nothing_needed : Need
  -- APPLICATION_PASSWORD_ADMIN or CREATE USER
  Either_needed : Need
  Create_user_needed : Need

-- a statement has some option
abbrev pub has_options : Options → Bool
has_options o =
    is_some o.expire || is_some o.history || is_some o.reuse || is_some o.attempts || is_some o.lock_time || is_some o.lock

-- IDENTIFIED BY needs no privilege without RETAIN, and needs more with WITH
abbrev pub password_need : (method password : Option (List ℕ)) → (retain : Bool) → Need
password_need None (Some password) false = Nothing_needed
password_need None (Some password) true = Either_needed
password_need None None retain = Create_user_needed
password_need (Some method) password retain = Create_user_needed

-- a change of the actor's own account
abbrev pub own_need : Change → Need
own_need Nothing = Create_user_needed
own_need (Password auth) = password_need auth.method auth.password auth.retain
own_need Discard = Either_needed
own_need (Add n factor) = Create_user_needed
own_need (Modify n factor) = Create_user_needed
own_need (DropFactor n) = Create_user_needed

-- what a statement needs, that is about the actor's own account or not
abbrev pub need : (is_own : Bool) → Statement → Need
need is_own (Create name auth factors options) = Create_user_needed
need is_own (Alter target change options) = if is_own && not (has_options options) then own_need change else Create_user_needed
need is_own (Drop name) = Create_user_needed
need is_own Flush = Create_user_needed
need is_own (Grant privileges name) = Create_user_needed
need is_own (Revoke privileges name) = Create_user_needed

-- what an account lacks of a need
abbrev pub lacking : Account → Need → Option Code
lacking a Nothing_needed = None
lacking a Either_needed = if a.create_user || a.password_admin then None else Some NeedPasswordAdmin
lacking a Create_user_needed = if a.create_user then None else Some NeedCreateUser
