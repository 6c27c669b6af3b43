-- The rows of a keeper, as far as it tells them, and what a call does to them.
use Rattle.std.specs.Prelude.{◌≡◌, ℕ, ◌<◌, List, [], ◌∷◌, ◌++◌, nat_lt, Option, Some, None, option_map, Result, Ok, Err}
use Rattle.std.specs.List.{filter}
use Rattle.lg_outside.specs.Faults.{Rose}
use Rattle.lg_outside.specs.declared.keepers.Row.{Row}
use Rattle.lg_outside.specs.declared.keepers.KeepFault.{KeepFault}
use Rattle.lg_outside.specs.declared.keepers.KeepFault.TheVariants.{Failed, Memory}

-- the keys rise from each row to the next, the first of them above a number
abbrev pub RiseAbove : ℕ → List Row → Type 0
RiseAbove low [] = Unit {0}
RiseAbove low (row ∷ rows) = (low < row.key) × RiseAbove row.key rows

-- the keys rise from each row to the next, so each stands once
abbrev pub Ascend : List Row → Type 0
Ascend [] = Unit {0}
Ascend (row ∷ rows) = RiseAbove row.key rows

abbrev pub rows_below : ℕ → List Row → List Row
rows_below key rows = filter (λ row. nat_lt row.key key) rows

abbrev pub rows_above : ℕ → List Row → List Row
rows_above key rows = filter (λ row. nat_lt key row.key) rows

-- the rows with one at this key, in place of the one that stood there, if any
abbrev pub put_row : ℕ → List ℕ → List Row → List Row
put_row key bytes rows = rows_below key rows ++ record { key = key; bytes = bytes } ∷ rows_above key rows

-- the rows without one at this key
abbrev pub remove_row : ℕ → List Row → List Row
remove_row key rows = rows_below key rows ++ rows_above key rows

-- the count of faults before and after a call: a failed call raised it, and want of memory left it
abbrev pub IsCaused : {A : Type 0} → ℕ → ℕ → Result A KeepFault → Type 0
IsCaused before after (Ok _) = Unit {0}
IsCaused before after (Err Failed) = Rose before after
IsCaused before after (Err Memory) = after ≡ before

-- what a load gives of the rows that are told
abbrev pub IsLoaded : Option (List Row) → Result (List Row) KeepFault → Type 0
IsLoaded (Some rows) (Ok loaded) = loaded ≡ rows
IsLoaded (Some rows) (Err _) = Unit {0}
IsLoaded None loaded = Unit {0}

-- the rows that are told before and after a call that is to change them: a call that doesn't succeed leaves them
abbrev pub Changes : (List Row → List Row) → Option (List Row) → Option (List Row) → Result (Unit {0}) KeepFault → Type 0
Changes change before after (Ok _) = after ≡ option_map change before
Changes change before after (Err _) = after ≡ before
