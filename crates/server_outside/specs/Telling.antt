-- What an object has given, where it tells it.
use Rattle.std.specs.Prelude.{◌≡◌, ℕ, List, [], ◌∷◌, ◌++◌, Option, Some, None}

-- what was given before and after a call that gives one thing more: that comes last, unless the object ceases to tell
abbrev pub Gave : {A : Type 0} → Option (List A) → Option (List A) → A → Type 0
Gave before None thing = Unit {0}
Gave None (Some after) thing = ⊥
Gave (Some before) (Some after) thing = after ≡ before ++ thing ∷ []

-- a clock that tells nothing of its readings
abbrev pub untold_readings : Option (List ℕ)
untold_readings = None

-- draws that aren't told
abbrev pub untold_draws : Option (List (List ℕ))
untold_draws = None
