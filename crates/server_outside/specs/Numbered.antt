-- Draws that are numbers in digits.
use Rattle.std.specs.Prelude.{ℕ, zero, suc, ◌+◌, ◌-◌, ◌^◌, ◌/◌, ◌%◌, List, [], ◌∷◌, ◌++◌, Bool, false, if◌then◌else◌, nat_lt, Option, Some, None}
use Rattle.lg_outside.specs.Faults.{counted}

-- the number of the latest draw, from 1, and whether the draws are told
pub record Count : Type 0 where
  pub drawn : ℕ
  pub told : Bool

-- a number in so many decimal digits, with leading zeros
abbrev pub digits : ℕ → ℕ → List ℕ
digits zero n = []
digits (suc size) n = digits size (n / 10) ++ (48 + n % 10) ∷ []

-- the draw with a number is the number, in 20 digits
unfoldable pub numbered : ℕ → List ℕ
numbered number = digits 20 number

-- the draws with the numbers from 1 on
abbrev pub first_draws : ℕ → List (List ℕ)
first_draws zero = []
first_draws (suc n) = first_draws n ++ numbered (suc n) ∷ []

-- what is told of the draws that were given
abbrev pub told_draws : Count → Option (List (List ℕ))
told_draws count = if count.told then Some (first_draws count.drawn) else None

-- the count after one draw more: the number stands still at its type's end, and the draws are told no longer
abbrev pub after_draw : Count → Count
after_draw count = record {
  drawn = counted count.drawn;
  told = if nat_lt count.drawn (2 ^ 64 - 1) then count.told else false;
}
