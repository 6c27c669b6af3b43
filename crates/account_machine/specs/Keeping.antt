-- What a statement does to the rows that the keeper tells.
use Rattle.std.specs.Prelude.{◌≡◌, Bool, true, false, List, Option, option_map, Result, Ok, Err}
use Rattle.lg_base.specs.declared.allocation.Memory.{Memory}
use Rattle.lg_outside.specs.declared.keepers.Row.{Row}

-- the rows that are told change where the call was done, and stay where the keeper failed or memory was wanting
abbrev pub Keeps : (List Row → List Row) → Option (List Row) → Option (List Row) → Result Bool Memory → Type 0
Keeps change before after (Ok true) = after ≡ option_map change before
Keeps change before after (Ok false) = after ≡ before
Keeps change before after (Err _) = after ≡ before
