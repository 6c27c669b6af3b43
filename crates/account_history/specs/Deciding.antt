-- What decides an attempt to log in, as an ordered list of conditions: a session opens exactly where all of them hold,
-- and else the reply names the first that doesn't.
use Rattle.std.specs.Prelude.{◌≡◌, ℕ, max, Bool, true, not, ◌&&◌, if◌then◌else◌, List, [], ◌∷◌, find, Option, Some, None}
use Rattle.std.specs.List.{list_all}
use Rattle.factor_chain.specs.declared.evidence_list.Evidence.{Evidence}
use Rattle.login_lock.specs.Lock.{days_left, is_blocked, next_locks}
use Rattle.account_rules.specs.declared.accounts.Account.{Account}
use Rattle.account_rules.specs.declared.accounts.Settings.{Settings}
use Rattle.account_rules.specs.Refusals.{can_handle_expired, is_expired, resumed}
use Rattle.account_history.specs.declared.entries.Reply.{Reply}
use Rattle.account_history.specs.declared.entries.Reply.TheVariants.{Opened, Sandbox, Blocked, Denied, Locked, MustChange}
use Rattle.account_history.specs.Answers.{attempt_reply, uses_password}
use Rattle.account_history.specs.Failures.{opens, tally}
use Rattle.account_history.specs.Histories.{History, moment, start_of}
use Rattle.account_history.specs.Records.{in_force, records}
use Rattle.account_history.specs.Targets.{of_account}
use Rattle.account_history.specs.Verifying.{verifies}

pub data Condition : Type 0 where
  -- an account is in force for the user
  IsThere : Condition
  -- no lock after failed logins is in force on it
  IsUnblocked : Condition
  -- each of its factors has its evidence, and each piece fits
  IsProved : Condition
  -- it isn't locked by ACCOUNT LOCK
  IsUnlocked : Condition
  -- its password hasn't expired beyond what the client and the server can go on with
  IsUsable : Condition

abbrev pub conditions : List Condition
conditions = IsThere ∷ IsUnblocked ∷ IsProved ∷ IsUnlocked ∷ IsUsable ∷ []

-- an attempt to log in, after a history, at its moment
pub record Login : Type 0 where
  pub before : History
  pub user : List ℕ
  pub evidences : List Evidence
  pub flags : ℕ
  pub now : ℕ

abbrev pub login_at : History → List ℕ → List Evidence → ℕ → ℕ → Login
login_at h user evidences flags reading =
    record { before = h; user = user; evidences = evidences; flags = flags; now = max reading (moment h) }

-- the password has expired, the server refuses expired ones, and the client can't go on with one
abbrev pub must_change : ℕ → Settings → Account → ℕ → Bool
must_change flags settings a now = settings.disconnect && not (can_handle_expired flags) && is_expired a settings now

abbrev pub holds_of : Login → Option Account → Condition → Bool
holds_of login account IsThere = of_account (λ a. true) account
holds_of login account IsUnblocked = of_account (λ a. not (is_blocked a.lock (tally login.before a).locked login.now)) account
holds_of login account IsProved = verifies login.before account login.evidences
holds_of login account IsUnlocked = of_account (λ a. not a.locked) account
holds_of login account IsUsable = of_account (λ a. not (must_change login.flags (start_of login.before).settings a login.now)) account

abbrev pub holds : Login → Condition → Bool
holds login condition = holds_of login (in_force (records login.before) login.user) condition

abbrev pub first_failing : Login → Option Condition
first_failing login = find (λ condition. not (holds login condition)) conditions

-- Evidence that doesn't fit is denied, unless this failure is the one that sets the lock.
abbrev pub unproved : Login → Account → Reply
unproved login a =
    if next_locks a.lock (resumed a.lock (tally login.before a) login.now).count
    then Blocked a.lock (days_left a.lock.time (Some login.now) login.now)
    else Denied (uses_password login.evidences)

-- the reply that names a condition which doesn't hold
abbrev pub refusal_on : Login → Account → Condition → Reply
refusal_on login a IsThere = Denied (uses_password login.evidences)
refusal_on login a IsUnblocked = Blocked a.lock (days_left a.lock.time (tally login.before a).locked login.now)
refusal_on login a IsProved = unproved login a
refusal_on login a IsUnlocked = Locked
refusal_on login a IsUsable = MustChange

-- without an account only its absence is told
abbrev pub naming : Login → Option Account → Condition → Reply
naming login None condition = Denied (uses_password login.evidences)
naming login (Some a) condition = refusal_on login a condition

-- the session that opens: a sandbox where the password has expired
abbrev pub opening_on : Login → Account → Reply
opening_on login a =
    if is_expired a (start_of login.before).settings login.now then Sandbox a.id a.name.host else Opened a.id a.name.host

abbrev pub decided_on : Login → Option Account → Option Condition → Reply
decided_on login account (Some condition) = naming login account condition
decided_on login None None = Denied (uses_password login.evidences)
decided_on login (Some a) None = opening_on login a

-- A session opens exactly where every condition holds; else the reply names the first that doesn't.
pub record IsDecided (login : Login) (reply : Reply) : Type 0 where
  pub opened : opens reply ≡ list_all (holds login) conditions
  pub named : reply ≡ decided_on login (in_force (records login.before) login.user) (first_failing login)

abbrev pub AttemptsAreDecided : Type 0
AttemptsAreDecided =
    (h : History) (user : List ℕ) (evidences : List Evidence) (flags reading : ℕ)
    → IsDecided (login_at h user evidences flags reading) (attempt_reply h user evidences flags reading)
