-- A plan with no call that is still to fail stays one, and the next call doesn't fail.
use Rattle.std.proofs.Common.{◌≡◌, refl, sym, ◌∙◌, subst, ℕ, ◌≤◌, List, [], ◌∷◌, Bool, true, false, T, arith}
use Rattle.std.specs.Prelude.{◌&&◌, ◌==◌, not, nat_lt}
use Rattle.std.specs.List.{list_all, list_any}
use Rattle.std.proofs.lemmas.Bool.Decides.{nat_tests}
use Rattle.lg_outside.specs.Faults.{counted}
use Rattle.lg_outside.specs.Plan.{after_call, fails_next}
use Rattle.lg_outside.specs.PlanOf.{Plan}
use Rattle.server_outside.specs.Judges.{never_fails}
use Rattle.server_outside.specs.Verdicts.{StaysSound}

both_true : (x y : Bool) → (x && y) ≡ true → (x ≡ true) × (y ≡ true)
both_true true y both = (refl, both)
both_true false y both = absurd (subst T (sym both) tt)

below_is_other : (listed n : ℕ) → nat_lt listed n ≡ true → (listed == n) ≡ false
below_is_other listed n below = grind (arith, nat_tests)

stays_below : (listed n m : ℕ) → n ≤ m → nat_lt listed n ≡ true → nat_lt listed m ≡ true
stays_below listed n m up below = grind (arith, nat_tests)

none_now : (n : ℕ) (failing : List ℕ) → list_all (λ listed. nat_lt listed n) failing ≡ true → list_any (λ listed. listed == n) failing ≡ false
none_now n [] below = refl
none_now n (x ∷ xs) below =
    rw (below_is_other x n (both_true (nat_lt x n) (list_all (λ listed. nat_lt listed n) xs) below).0)
    (none_now n xs (both_true (nat_lt x n) (list_all (λ listed. nat_lt listed n) xs) below).1)

none_later : (n m : ℕ) → n ≤ m → (failing : List ℕ) → list_all (λ listed. nat_lt listed n) failing ≡ true → list_all (λ listed. nat_lt listed m) failing ≡ true
none_later n m up [] below = refl
none_later n m up (x ∷ xs) below =
    rw (stays_below x n m up (both_true (nat_lt x n) (list_all (λ listed. nat_lt listed n) xs) below).0)
    (none_later n m up xs (both_true (nat_lt x n) (list_all (λ listed. nat_lt listed n) xs) below).1)

counted_rises : (n : ℕ) → counted n ≤ counted (counted n)
counted_rises n = omega arith

by_soundness : (sound : Bool) (plan : Plan) (fails : Bool) → never_fails plan ≡ sound → fails ≡ fails_next plan
    → StaysSound sound (never_fails (after_call plan fails)) plan.faults (after_call plan fails).faults (not fails)
by_soundness false plan fails is answer = tt
by_soundness true plan fails is answer =
    let passes : fails ≡ false = answer ∙ none_now (counted plan.calls) plan.failing is in
    let later : never_fails (after_call plan false) ≡ true
    = none_later (counted plan.calls) (counted (counted plan.calls)) (counted_rises plan.calls) plan.failing is in
    subst (λ (f : Bool). StaysSound true (never_fails (after_call plan f)) plan.faults (after_call plan f).faults (not f)) (sym passes)
    (refl, later, refl)

-- a call keeps a verifier sound that was so
pub stays_sound : (before after : Plan) (fails : Bool) → fails ≡ fails_next before → after ≡ after_call before fails
    → StaysSound (never_fails before) (never_fails after) before.faults after.faults (not fails)
stays_sound before after fails answer is =
    subst (λ (p : Plan). StaysSound (never_fails before) (never_fails p) before.faults p.faults (not fails)) (sym is)
    (by_soundness (never_fails before) before fails refl answer)
