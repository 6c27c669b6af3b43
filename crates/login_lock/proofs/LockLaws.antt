-- What one more failure does to the tally of some failures.
use Rattle.std.proofs.Common.{◌≡◌, ℕ, zero, suc, ◌+◌, ◌-◌, ◌<◌, List, [], ◌∷◌, ◌++◌, length, Some, None, refl, sym, ap, ◌∙◌, arith, length-append}
use Rattle.std.specs.List.{slice_get}
use Rattle.std.proofs.lemmas.Option.{slice_get_past}
use Rattle.login_lock.specs.declared.LockRule.{LockRule}
use Rattle.login_lock.specs.declared.Tally.{Tally}
use Rattle.login_lock.specs.Lock.{locked_at, tally_of}

-- the last of a list
slice_get-last : (xs : List ℕ) (x k : ℕ) → length xs ≡ k → slice_get (xs ++ x ∷ []) k ≡ Some x
slice_get-last [] x zero h = refl
slice_get-last [] x (suc k) h = absurd (omega arith)
slice_get-last (y ∷ ys) x zero h = absurd (omega arith)
slice_get-last (y ∷ ys) x (suc k) h = slice_get-last ys x k (omega arith)

-- the length of a list and one more
length-more : (xs : List ℕ) (x : ℕ) → length (xs ++ x ∷ []) ≡ length xs + 1
length-more xs x = length-append xs (x ∷ []) ∙ omega arith

-- the failure at which the count reaches the limit sets the lock
pub tally_of-reached : (rule : LockRule) (failures : List ℕ) (tally : Tally) (now : ℕ) → tally ≡ tally_of rule failures
    → tally.count + 1 ≡ rule.attempts
    → record { count = tally.count + 1; locked = Some now } ≡ tally_of rule (failures ++ now ∷ [])
tally_of-reached rule failures tally now is reached =
    let counted : tally.count ≡ length failures = ap (λ (t : Tally). t.count) is in
    let count : tally.count + 1 ≡ length (failures ++ now ∷ []) = omega (arith, counted, length-more failures now) in
    let locked : Some now ≡ locked_at rule (failures ++ now ∷ []) = sym (slice_get-last failures now (rule.attempts - 1) (omega (arith, counted))) in
    λ i. record { count = count i; locked = locked i }

-- one before the limit sets none
pub tally_of-more : (rule : LockRule) (failures : List ℕ) (tally : Tally) (now : ℕ) → tally ≡ tally_of rule failures
    → tally.locked ≡ None → tally.count + 1 < rule.attempts
    → record { count = tally.count + 1; locked = tally.locked } ≡ tally_of rule (failures ++ now ∷ [])
tally_of-more rule failures tally now is unlocked below =
    let counted : tally.count ≡ length failures = ap (λ (t : Tally). t.count) is in
    let more = length-more failures now in
    let count : tally.count + 1 ≡ length (failures ++ now ∷ []) = omega (arith, counted, more) in
    let locked : tally.locked ≡ locked_at rule (failures ++ now ∷ []) = unlocked ∙ sym (slice_get_past (failures ++ now ∷ []) (rule.attempts - 1) (omega (arith, counted, more))) in
    λ i. record { count = count i; locked = locked i }
