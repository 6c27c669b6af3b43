-- A keeper in memory: its rows, and the plan of its failures.
use Rattle.std.specs.Prelude.{◌≡◌, ◌↔◌, ℕ, List, ◌∷◌, ◌++◌, length, IsTrue, Result, Ok, Err}
use Rattle.lg_outside.specs.Keeping.{rows_below, rows_above}
use Rattle.lg_outside.specs.Plan.{after_call, fails_next}
use Rattle.lg_outside.specs.PlanOf.{Plan}
use Rattle.lg_outside.specs.declared.keepers.KeepFault.{KeepFault}
use Rattle.lg_outside.specs.declared.keepers.KeepFault.TheVariants.{Failed}
use Rattle.lg_outside.specs.declared.keepers.Row.{Row}

pub record Shelf : Type 0 where
  pub rows : List Row
  pub plan : Plan

-- where a key has its row, or else where it belongs
abbrev pub IsPlace : ℕ → List Row → Result ℕ ℕ → Type 0
IsPlace key rows (Ok place) =
    (place ≡ length (rows_below key rows)) × ((row : Row) × (rows ≡ rows_below key rows ++ row ∷ rows_above key rows))
IsPlace key rows (Err place) =
    (place ≡ length (rows_below key rows)) × (rows ≡ rows_below key rows ++ rows_above key rows)

-- A call that can fail goes as the plan has it: it fails exactly where its number is listed, and is counted.
pub record GoesAsPlanned {A : Type 0} (before after : Plan) (result : Result A KeepFault) : Type 0 where
  pub fails : (result ≡ Err Failed) ↔ IsTrue (fails_next before)
  pub counted : after ≡ after_call before (fails_next before)
