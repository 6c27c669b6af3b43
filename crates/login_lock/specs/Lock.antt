-- Failed-login tracking: which failures count, when they lock the account and when the lock ends.
--
-- MySQL 8.0 Reference Manual, Password Management, "Failed-Login Tracking and Temporary Account
-- Locking". The failures are the moments, in seconds and oldest first, of the failures that count
-- since the tally was last cleared. A day is 86,400 seconds, and sums have no bound.
use Rattle.std.specs.Prelude.{◌≡◌, ℕ, ◌+◌, ◌-◌, ◌*◌, ◌/◌, ◌==◌, nat_le, List, [], ◌∷◌, ◌++◌, length, slice_get, Bool, true, false, not, ◌&&◌, if◌then◌else◌, Option, Some, None}
use Rattle.login_lock.specs.declared.TheConstants.{SECONDS_PER_DAY}
use Rattle.login_lock.specs.declared.LockTime.{LockTime}
use Rattle.login_lock.specs.declared.LockTime.TheVariants.{Days, Unbounded}
use Rattle.login_lock.specs.declared.LockRule.{LockRule}
use Rattle.login_lock.specs.declared.Tally.{Tally}

-- a lock of this time lasts at all
abbrev pub lasts : LockTime → Bool
lasts (Days days) = nat_le 1 days
lasts Unbounded = true

-- the rule counts failures
abbrev pub tracks : LockRule → Bool
tracks rule = nat_le 1 rule.attempts && lasts rule.time

-- the lock that was set at a moment has ended
abbrev pub has_ended : LockTime → ℕ → ℕ → Bool
has_ended (Days days) set now = nat_le (set + SECONDS_PER_DAY * days) now
has_ended Unbounded set now = false

-- a lock was set and has ended
abbrev pub is_over : LockRule → Option ℕ → ℕ → Bool
is_over rule None now = false
is_over rule (Some set) now = has_ended rule.time set now

-- a lock is in force: the rule tracks, one was set, and it hasn't ended
abbrev pub is_blocked : LockRule → Option ℕ → ℕ → Bool
is_blocked rule None now = false
is_blocked rule (Some set) now = tracks rule && not (has_ended rule.time set now)

-- a number of seconds in days, rounded up
abbrev pub days_of : ℕ → ℕ
days_of seconds = (seconds + SECONDS_PER_DAY - 1) / SECONDS_PER_DAY

-- the days that are left of a lock: 0 where none is set, and where it doesn't end
abbrev pub days_left : LockTime → Option ℕ → ℕ → ℕ
days_left (Days days) (Some set) now = days_of (set + SECONDS_PER_DAY * days - now)
days_left (Days days) None now = 0
days_left Unbounded locked now = 0

-- the moment of the failure at which the count reaches `attempts`
abbrev pub locked_at : LockRule → List ℕ → Option ℕ
locked_at rule failures = slice_get failures (rule.attempts - 1)

-- the number of the failures, and the lock that they set
abbrev pub tally_of : LockRule → List ℕ → Tally
tally_of rule failures = record { count = length failures; locked = locked_at rule failures }

-- the failure that counts next is the one at which the count reaches `attempts`
abbrev pub next_locks : LockRule → ℕ → Bool
next_locks rule count = tracks rule && (count + 1 == rule.attempts)

-- the tally is that of some failures
abbrev pub IsTally : LockRule → Tally → Type 0
IsTally rule tally = (failures : List ℕ) × (tally ≡ tally_of rule failures)

-- the failures that still stand at a moment: none once the lock has ended
abbrev pub standing : LockRule → List ℕ → ℕ → List ℕ
standing rule failures now = if is_over rule (locked_at rule failures) now then [] else failures

-- a failure at a moment counts: the rule tracks, and no lock is in force before it
abbrev pub counts : LockRule → List ℕ → ℕ → Bool
counts rule failures now = tracks rule && not (is_blocked rule (locked_at rule failures) now)

-- the failures with one that counts
abbrev pub failed : LockRule → List ℕ → ℕ → List ℕ
failed rule failures now = if counts rule failures now then failures ++ now ∷ [] else failures

-- the failures after an attempt: none where it opened, one more where it didn't verify and counts
abbrev pub after : LockRule → List ℕ → Bool → Bool → ℕ → List ℕ
after rule failures opened verified now =
    if opened then []
    else if verified then standing rule failures now
    else failed rule (standing rule failures now) now
