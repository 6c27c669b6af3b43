-- What the options of a statement set.
--
-- MySQL 8.0 Reference Manual, "CREATE USER Statement", password-management and account-locking options.
use Rattle.std.specs.Prelude.{ℕ, Bool, true, false, ◌||◌, Option, Some, None, is_some}
use Rattle.login_lock.specs.declared.LockRule.{LockRule}
use Rattle.login_lock.specs.declared.LockTime.{LockTime}
use Rattle.login_lock.specs.declared.LockTime.TheVariants as lock
use Rattle.account_rules.specs.declared.accounts.Account.{Account}
use Rattle.account_rules.specs.declared.accounts.Lifetime.{Lifetime}
use Rattle.account_rules.specs.declared.accounts.Lifetime.TheVariants as lifetime
use Rattle.account_rules.specs.declared.accounts.Limit.{Limit}
use Rattle.account_rules.specs.declared.accounts.Limit.TheVariants as limit
use Rattle.stmt_rules.specs.declared.statement.Bound.{Bound}
use Rattle.stmt_rules.specs.declared.statement.Bound.TheVariants as bound
use Rattle.stmt_rules.specs.declared.statement.Expire.{Expire}
use Rattle.stmt_rules.specs.declared.statement.Expire.TheVariants as expire
use Rattle.stmt_rules.specs.declared.statement.Options.{Options}
use Rattle.stmt_rules.specs.declared.statement.Time.{Time}
use Rattle.stmt_rules.specs.declared.statement.Time.TheVariants as time

-- PASSWORD EXPIRE alone expires the password
abbrev pub expired_after : Option Expire → Bool → Bool
expired_after None standing = standing
expired_after (Some expire.Now) standing = true
expired_after (Some expire.Default) standing = standing
expired_after (Some expire.Never) standing = standing
expired_after (Some (expire.Days days)) standing = standing

-- its other forms say how long passwords last
abbrev pub lifetime_after : Option Expire → Lifetime → Lifetime
lifetime_after None standing = standing
lifetime_after (Some expire.Now) standing = standing
lifetime_after (Some expire.Default) standing = lifetime.Default
lifetime_after (Some expire.Never) standing = lifetime.Never
lifetime_after (Some (expire.Days days)) standing = lifetime.Days days

-- PASSWORD HISTORY, PASSWORD REUSE INTERVAL
abbrev pub limit_after : Option Bound → Limit → Limit
limit_after None standing = standing
limit_after (Some bound.Default) standing = limit.Default
limit_after (Some (bound.Count count)) standing = limit.Count count

-- FAILED_LOGIN_ATTEMPTS
abbrev pub attempts_after : Option ℕ → ℕ → ℕ
attempts_after None standing = standing
attempts_after (Some attempts) standing = attempts

-- PASSWORD_LOCK_TIME
abbrev pub time_after : Option Time → LockTime → LockTime
time_after None standing = standing
time_after (Some (time.Days days)) standing = lock.Days days
time_after (Some time.Unbounded) standing = lock.Unbounded

-- ACCOUNT LOCK, ACCOUNT UNLOCK
abbrev pub locked_after : Option Bool → Bool → Bool
locked_after None standing = standing
locked_after (Some locked) standing = locked

abbrev pub rule_after : Options → LockRule → LockRule
rule_after options standing =
    record { attempts = attempts_after options.attempts standing.attempts; time = time_after options.lock_time standing.time }

abbrev pub with_options : Options → Account → Account
with_options options a = record a {
  expired = expired_after options.expire a.expired;
  lifetime = lifetime_after options.expire a.lifetime;
  history = limit_after options.history a.history;
  reuse = limit_after options.reuse a.reuse;
  lock = rule_after options a.lock;
  locked = locked_after options.lock a.locked;
}

abbrev pub is_unlock : Option Bool → Bool
is_unlock None = false
is_unlock (Some true) = false
is_unlock (Some false) = true

-- options that clear the failures that count: an option of the lock after failed logins, whatever it sets, and ACCOUNT
-- UNLOCK
abbrev pub clear_failures : Options → Bool
clear_failures options = is_some options.attempts || is_some options.lock_time || is_unlock options.lock
