-- When a password has expired, and the first rule that refuses a login.
--
-- MySQL 8.0 Reference Manual, "Password Management" (password expiration, server handling of expired
-- passwords), "Account Locking" and "Failed-Login Tracking and Temporary Account Locking". The order is
-- this project's own. A day is 86,400 seconds, and sums have no bound.
use Rattle.std.specs.Prelude.{ℕ, ◌+◌, ◌*◌, ◌==◌, nat_le, Bool, not, ◌&&◌, ◌||◌, if◌then◌else◌, Option, Some, None, bit_and}
use Rattle.login_lock.specs.declared.TheConstants.{SECONDS_PER_DAY}
use Rattle.login_lock.specs.Lock.{is_blocked, is_over, next_locks}
use Rattle.login_lock.specs.declared.LockRule.{LockRule}
use Rattle.login_lock.specs.declared.Tally.{Tally}
use Rattle.account_rules.specs.declared.accounts.Account.{Account}
use Rattle.account_rules.specs.declared.accounts.Lifetime.{Lifetime}
use Rattle.account_rules.specs.declared.accounts.Lifetime.TheVariants as lifetime
use Rattle.account_rules.specs.declared.accounts.Settings.{Settings}
use Rattle.account_rules.specs.declared.refusals.Rule.{Rule}
use Rattle.account_rules.specs.declared.refusals.Rule.TheVariants.{Blocked, Denied, Locked, MustChange}

-- how many days a password lasts, where 0 is for ever
abbrev pub days_in_force : Lifetime → Settings → ℕ
days_in_force lifetime.Default settings = settings.lifetime
days_in_force lifetime.Never settings = 0
days_in_force (lifetime.Days days) settings = days

-- a password that lasts so many days is over
abbrev pub is_over_age : ℕ → ℕ → ℕ → Bool
is_over_age days changed now = nat_le 1 days && nat_le (changed + SECONDS_PER_DAY * days) now

-- the password was set to expired, or the lifetime in force is over
abbrev pub is_expired : Account → Settings → ℕ → Bool
is_expired account settings now =
    account.expired || is_over_age (days_in_force account.lifetime settings) account.changed now

-- the client set the capability flag CAN_HANDLE_EXPIRED_PASSWORDS
abbrev pub can_handle_expired : ℕ → Bool
can_handle_expired flags = not (bit_and flags 4194304 == 0)

-- the tally that stands at a moment: an empty one once its lock has ended
abbrev pub resumed : LockRule → Tally → ℕ → Tally
resumed rule tally now = if is_over rule tally.locked now then record { count = 0; locked = None } else tally

-- the rules in their order, on a tally that stands
abbrev pub refusal : Account → Tally → Bool → ℕ → Settings → ℕ → Option Rule
refusal account tally verified flags settings now =
    if is_blocked account.lock tally.locked now then Some Blocked
    else if not verified then (if next_locks account.lock tally.count then Some Blocked else Some Denied)
    else if account.locked then Some Locked
    else if settings.disconnect && not (can_handle_expired flags) && is_expired account settings now then Some MustChange
    else None

-- the first rule that refuses a login on an account in force
abbrev pub first_rule : Account → Tally → Bool → ℕ → Settings → ℕ → Option Rule
first_rule account tally verified flags settings now =
    refusal account (resumed account.lock tally now) verified flags settings now
