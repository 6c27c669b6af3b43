-- No failure that counts is later than the moment of the newest entry.
use Rattle.std.proofs.Common.{◌≡◌, refl, ℕ, zero, suc, max, ◌≤◌, List, [], ◌∷◌, ◌++◌, Bool, true, false, if◌then◌else◌, ◌==◌, Option, Some, None, subst, arith, slice_get}
use Rattle.login_lock.specs.Lock.{locked_at}
use Rattle.account_rules.specs.declared.accounts.Account.{Account}
use Rattle.account_history.specs.declared.entries.Attempt.{Attempt}
use Rattle.account_history.specs.declared.entries.Entry.TheVariants.{Observed, Attempted, Executed}
use Rattle.account_history.specs.Failures.{Step, attempt_step, failures, failures_in, no_step, step_of, step_on, steps}
use Rattle.account_history.specs.Histories.{History, From, ◌▹◌, moment}
use Rattle.account_history.specs.Records.{in_force, records}
use Rattle.account_history.proofs.OneMore.{failures-observed}
use Rattle.account_history.proofs.Running.{failures_in-more, with_step}

-- each number is at most a bound
abbrev pub UpTo : ℕ → List ℕ → Type 0
UpTo bound [] = Unit {0}
UpTo bound (x ∷ xs) = (x ≤ bound) × UpTo bound xs

upto-append : (bound : ℕ) (xs ys : List ℕ) → UpTo bound xs → UpTo bound ys → UpTo bound (xs ++ ys)
upto-append bound [] ys p q = q
upto-append bound (x ∷ xs) ys p q = (p.0, upto-append bound xs ys p.1 q)

upto-more : (low high : ℕ) (xs : List ℕ) → low ≤ high → UpTo low xs → UpTo high xs
upto-more low high [] e p = tt
upto-more low high (x ∷ xs) e p = let h : x ≤ low = p.0 in (omega arith, upto-more low high xs e p.1)

pub upto-get : (bound : ℕ) (xs : List ℕ) (k x : ℕ) → UpTo bound xs → slice_get xs k ≡ Some x → x ≤ bound
upto-get bound [] k x p e = absurd (cc)
upto-get bound (y ∷ ys) zero x p e = let same : y ≡ x = cc in subst (λ z. z ≤ bound) same p.0
upto-get bound (y ∷ ys) (suc k) x p e = upto-get bound ys k x p.1 e

upto-step : (bound : ℕ) (xs : List ℕ) (y : Step) → UpTo bound xs → y.moment ≤ bound → UpTo bound (with_step xs y)
upto-step bound xs y p q = cleared y.resets where
  counted : (counts : Bool) → UpTo bound (if counts then y.moment ∷ [] else [])
  counted true = (q, tt)
  counted false = tt

  renewed : (renews : Bool) → UpTo bound (if renews then [] else xs)
  renewed true = tt
  renewed false = p

  cleared : (resets : Bool) → UpTo bound (if resets then [] else ((if y.renews then [] else xs) ++ (if y.counts then y.moment ∷ [] else [])))
  cleared true = tt
  cleared false = upto-append bound (if y.renews then [] else xs) (if y.counts then y.moment ∷ [] else []) (renewed y.renews) (counted y.counts)

step_on-moment : (h : History) (found : Option Account) (id : ℕ) (before : List Step) (t : Attempt) (now : ℕ)
    → (step_on h found id before t now).moment ≡ now
step_on-moment h None id before t now = refl
step_on-moment h (Some account) id before t now = cases (account.id == id) where
  cases : (same : Bool) → (if same
      then attempt_step h account (locked_at account.lock (failures_in before)) t now
      else no_step now).moment ≡ now
  cases true = refl
  cases false = refl

pub failures-upto : (h : History) (id : ℕ) → UpTo (moment h) (failures h id)
failures-upto (From start) id = tt
failures-upto (h ▹ Observed who look) id = rw (failures-observed h who look id) (failures-upto h id)
failures-upto (h ▹ Attempted t) id =
    rw (failures_in-more (steps h id) (step_of h (Attempted t) id (steps h id)))
    (upto-step (max t.reading (moment h)) (failures h id) (step_of h (Attempted t) id (steps h id))
    (upto-more (moment h) (max t.reading (moment h)) (failures h id) (omega arith) (failures-upto h id))
    (let e = step_on-moment h (in_force (records h) t.user) id (steps h id) t (max t.reading (moment h)) in omega (arith, e)))
failures-upto (h ▹ Executed e) id =
    rw (failures_in-more (steps h id) (step_of h (Executed e) id (steps h id)))
    (upto-step (max e.reading (moment h)) (failures h id) (step_of h (Executed e) id (steps h id))
    (upto-more (moment h) (max e.reading (moment h)) (failures h id) (omega arith) (failures-upto h id))
    (omega arith))
