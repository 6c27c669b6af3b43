-- Each attempt is decided by the conditions in their order.
use Rattle.std.proofs.Common.{◌≡◌, refl, ap, sym, ◌∙◌, ℕ, max, List, cond, find, Bool, true, false, not, ◌&&◌, if◌then◌else◌, Option, Some, None}
use Rattle.std.specs.List.{list_all}
use Rattle.factor_chain.specs.declared.evidence_list.Evidence.{Evidence}
use Rattle.login_lock.specs.declared.LockRule.{LockRule}
use Rattle.login_lock.specs.declared.Tally.{Tally}
use Rattle.login_lock.specs.Lock.{days_left, is_blocked, is_over, next_locks}
use Rattle.account_rules.specs.declared.accounts.Account.{Account}
use Rattle.account_rules.specs.declared.refusals.Rule.{Rule}
use Rattle.account_rules.specs.declared.refusals.Rule.TheVariants as rule
use Rattle.account_rules.specs.Refusals.{is_expired, resumed}
use Rattle.account_history.specs.declared.entries.Reply.{Reply}
use Rattle.account_history.specs.declared.entries.Reply.TheVariants.{Opened, Sandbox, Blocked, Denied, Locked, MustChange}
use Rattle.account_history.specs.Answers.{reply_for, reply_of, since_of, uses_password}
use Rattle.account_history.specs.Deciding.{AttemptsAreDecided, Condition, IsThere, IsUnblocked, IsProved, IsUnlocked, IsUsable, conditions, decided_on, holds_of, login_at, must_change}
use Rattle.account_history.specs.Failures.{opens, tally}
use Rattle.account_history.specs.Histories.{History, moment, start_of}
use Rattle.account_history.specs.Known.{known}
use Rattle.account_history.specs.Records.{in_force, records}
use Rattle.account_history.specs.Verifying.{account_verifies}
use Rattle.account_history.proofs.Running.{over-unblocked}

-- a lock is in force on the tally that stands exactly where it is in force
blocked-resumed : (rule : LockRule) (counted : Tally) (now : ℕ) → is_blocked rule (resumed rule counted now).locked now ≡ is_blocked rule counted.locked now
blocked-resumed rule counted now =
    elim (is_over rule counted.locked now) as (λ b. is_over rule counted.locked now ≡ b
    → is_blocked rule (if b then record { count = 0; locked = None } else counted).locked now ≡ is_blocked rule counted.locked now) [
      | true ↦ λ e. sym (over-unblocked rule counted.locked now e)
      | false ↦ λ e. refl
    ] refl

-- the first condition that fails, by what the tests say
abbrev first_of : (blocked verified locked must : Bool) → Option Condition
first_of blocked verified locked must =
    cond (not (not blocked)) (Some IsUnblocked)
    (cond (not verified) (Some IsProved) (cond (not (not locked)) (Some IsUnlocked) (cond (not (not must)) (Some IsUsable) None)))

abbrev rule_of : (blocked verified next locked must : Bool) → Option Rule
rule_of blocked verified next locked must =
    if blocked then Some rule.Blocked
    else if not verified then (if next then Some rule.Blocked else Some rule.Denied)
    else if locked then Some rule.Locked
    else if must then Some rule.MustChange
    else None

-- what is decided on an account whose tests come out so
module _ (h : History) (user : List ℕ) (evidences : List Evidence) (flags reading : ℕ) (a : Account) where
  abbrev by_tests : (blocked verified next locked must : Bool) → Reply
  by_tests blocked verified next locked must =
      reply_of (rule_of blocked verified next locked must) a (tally h a) evidences (start_of h).settings (max reading (moment h))

  abbrev named_by : (next : Bool) → Option Condition → Reply
  named_by next None = if is_expired a (start_of h).settings (max reading (moment h)) then Sandbox a.id a.name.host else Opened a.id a.name.host
  named_by next (Some IsThere) = Denied (uses_password evidences)
  named_by next (Some IsUnblocked) = Blocked a.lock (days_left a.lock.time (tally h a).locked (max reading (moment h)))
  named_by next (Some IsProved) =
      if next then Blocked a.lock (days_left a.lock.time (Some (max reading (moment h))) (max reading (moment h))) else Denied (uses_password evidences)
  named_by next (Some IsUnlocked) = Locked
  named_by next (Some IsUsable) = MustChange

  since : (b : Bool) → is_blocked a.lock (tally h a).locked (max reading (moment h)) ≡ b
      → since_of a.lock (tally h a) (max reading (moment h)) ≡ (if b then (tally h a).locked else Some (max reading (moment h)))
  since b e = ap (λ (x : Bool). if x then (tally h a).locked else Some (max reading (moment h))) e

  blocking : (b : Bool) → is_blocked a.lock (tally h a).locked (max reading (moment h)) ≡ b
      → Blocked a.lock (days_left a.lock.time (since_of a.lock (tally h a) (max reading (moment h))) (max reading (moment h)))
      ≡ Blocked a.lock (days_left a.lock.time (if b then (tally h a).locked else Some (max reading (moment h))) (max reading (moment h)))
  blocking b e = ap (λ (s : Option ℕ). Blocked a.lock (days_left a.lock.time s (max reading (moment h)))) (since b e)

  named : (blocked verified next locked must : Bool) → is_blocked a.lock (tally h a).locked (max reading (moment h)) ≡ blocked
      → by_tests blocked verified next locked must ≡ named_by next (first_of blocked verified locked must)
  named true verified next locked must e = blocking true e
  named false false true locked must e = blocking false e
  named false false false locked must e = refl
  named false true next true must e = refl
  named false true next false true e = refl
  named false true next false false e = refl

  opened : (blocked verified next locked must : Bool)
      → opens (by_tests blocked verified next locked must) ≡ (true && (not blocked && (verified && (not locked && (not must && true)))))
  opened true verified next locked must = refl
  opened false false true locked must = refl
  opened false false false locked must = refl
  opened false true next true must = refl
  opened false true next false true = refl
  opened false true next false false = open_either (is_expired a (start_of h).settings (max reading (moment h))) where
    open_either : (expired : Bool) → opens (if expired then Sandbox a.id a.name.host else Opened a.id a.name.host) ≡ true
    open_either true = refl
    open_either false = refl

  -- the reply by the tests on the tally as it is
  by-tests : reply_for h (Some a) evidences flags (max reading (moment h))
      ≡ by_tests (is_blocked a.lock (tally h a).locked (max reading (moment h))) (account_verifies (known h) a evidences)
      (next_locks a.lock (resumed a.lock (tally h a) (max reading (moment h))).count) a.locked
      (must_change flags (start_of h).settings a (max reading (moment h)))
  by-tests =
      ap (λ (b : Bool). by_tests b (account_verifies (known h) a evidences)
      (next_locks a.lock (resumed a.lock (tally h a) (max reading (moment h))).count) a.locked
      (must_change flags (start_of h).settings a (max reading (moment h))))
      (blocked-resumed a.lock (tally h a) (max reading (moment h)))

  opened-on : opens (reply_for h (Some a) evidences flags (max reading (moment h)))
      ≡ list_all (holds_of (login_at h user evidences flags reading) (Some a)) conditions
  opened-on = ap opens by-tests ∙ opened _ _ _ _ _

  named-on : reply_for h (Some a) evidences flags (max reading (moment h))
      ≡ decided_on (login_at h user evidences flags reading) (Some a)
      (find (λ condition. not (holds_of (login_at h user evidences flags reading) (Some a) condition)) conditions)
  named-on = by-tests ∙ named _ _ _ _ _ refl ∙ as-decided _ (find (λ condition. not (holds_of (login_at h user evidences flags reading) (Some a) condition)) conditions) refl where
    as-decided : (next : Bool) (failing : Option Condition) → next_locks a.lock (resumed a.lock (tally h a) (max reading (moment h))).count ≡ next
        → named_by next failing ≡ decided_on (login_at h user evidences flags reading) (Some a) failing
    as-decided next None e = refl
    as-decided next (Some IsThere) e = refl
    as-decided next (Some IsUnblocked) e = refl
    as-decided next (Some IsProved) e = rw e refl
    as-decided next (Some IsUnlocked) e = refl
    as-decided next (Some IsUsable) e = refl

-- an attempt by the account that is found
decided-by : (h : History) (user : List ℕ) (evidences : List Evidence) (flags reading : ℕ) (found : Option Account)
    → (opens (reply_for h found evidences flags (max reading (moment h))) ≡ list_all (holds_of (login_at h user evidences flags reading) found) conditions)
    × (reply_for h found evidences flags (max reading (moment h))
    ≡ decided_on (login_at h user evidences flags reading) found
    (find (λ condition. not (holds_of (login_at h user evidences flags reading) found condition)) conditions))
decided-by h user evidences flags reading None = (refl, refl)
decided-by h user evidences flags reading (Some a) =
    (opened-on h user evidences flags reading a, named-on h user evidences flags reading a)

pub attempts-decided : AttemptsAreDecided
attempts-decided h user evidences flags reading =
    let d = decided-by h user evidences flags reading (in_force (records h) user) in record { opened = d.0; named = d.1 }
