-- What a call of the object may rely on.
use Rattle.std.specs.Prelude.{◌≡◌, ◌<◌, ◌^◌, List, ◌++◌, length}

-- the list began as one of which `opening` holds, and fewer than 2^62 entries were added
abbrev pub HasRoom : {S E : Type 0} → (S → List E → Type 0) → S → List E → Type 0
HasRoom {S} {E} opening s xs = (old added : List E) × (xs ≡ old ++ added) × opening s old × (length added < 2 ^ 62)
