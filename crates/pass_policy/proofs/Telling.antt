-- The strength against the levels, by what the password has.
use Rattle.std.proofs.Common.{◌≡◌, ◌≤◌, ℕ, List, length, Bool, true, false, refl, arith}
use Rattle.std.proofs.lemmas.Bool.Decides.{nat_tests}
use Rattle.std.specs.Prelude.{nat_le, nat_lt, not, ◌&&◌, if◌then◌else◌}
use Rattle.pass_policy.specs.Laws.{IsToldBy}
use Rattle.pass_policy.specs.Rules.{Rules, has_digits, has_mixed, has_special, has_word, is_low, is_off, is_refused}
use Rattle.pass_policy.specs.declared.policy.Level.TheVariants.{Low, Medium, Strong}

-- the strength where the password is long enough, has digits, both cases and others enough, has a word, is refused
abbrev strength : (low digits mixed special word refused : Bool) → ℕ
strength low digits mixed special word refused =
    if refused then 0
    else (if low && digits && mixed && special && not word then 100
    else (if low && digits && mixed && special then 75
    else (if low then 50
    else 25)))

abbrev Tells : (low digits mixed special word refused : Bool) → Type 0
Tells low digits mixed special word refused =
    ((low && not refused) ≡ nat_le 50 (strength low digits mixed special word refused))
    × ((low && digits && mixed && special && not refused)
    ≡ nat_le 75 (strength low digits mixed special word refused))
    × ((low && digits && mixed && special && not word && not refused)
    ≡ nat_le 100 (strength low digits mixed special word refused))

each_case : (low digits mixed special word refused : Bool) → Tells low digits mixed special word refused
each_case false digits mixed special word true = (refl, refl, refl)
each_case false digits mixed special word false = (refl, refl, refl)
each_case true false mixed special word true = (refl, refl, refl)
each_case true false mixed special word false = (refl, refl, refl)
each_case true true false special word true = (refl, refl, refl)
each_case true true false special word false = (refl, refl, refl)
each_case true true true false word true = (refl, refl, refl)
each_case true true true false word false = (refl, refl, refl)
each_case true true true true true true = (refl, refl, refl)
each_case true true true true true false = (refl, refl, refl)
each_case true true true true false true = (refl, refl, refl)
each_case true true true true false false = (refl, refl, refl)

long_enough : (password : List ℕ) → 4 ≤ length password → nat_lt (length password) 4 ≡ false
long_enough password long = grind (arith, nat_tests)

pub levels_told : (rules : Rules) (user password : List ℕ) → is_off rules.level ≡ false → 4 ≤ length password
    → IsToldBy 50 Low rules user password × IsToldBy 75 Medium rules user password
    × IsToldBy 100 Strong rules user password
levels_told rules user password on long =
    rw (on, long_enough password long)
    (each_case (is_low rules password) (has_digits rules password) (has_mixed rules password)
    (has_special rules password) (has_word rules password) (is_refused rules user password))
