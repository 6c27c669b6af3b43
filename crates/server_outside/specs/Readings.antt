-- The readings of a clock that gives a list of them.
use Rattle.std.specs.Prelude.{ℕ, zero, suc, ◌-◌, List, [], ◌∷◌, ◌++◌, length, min, slice_index_or}

-- a clock's list, and how many readings it has given
pub record Timetable : Type 0 where
  pub readings : List ℕ
  pub taken : ℕ

-- the reading at a place, from 0: behind the list's end the last one again, and 0 where the list is empty
abbrev pub reading : List ℕ → ℕ → ℕ
reading readings place = slice_index_or readings (min place (length readings - 1)) 0

-- so many readings from the first on
abbrev pub first_readings : List ℕ → ℕ → List ℕ
first_readings readings zero = []
first_readings readings (suc n) = first_readings readings n ++ reading readings n ∷ []
