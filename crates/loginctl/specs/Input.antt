-- Reading an input to its end or past a limit.
use Rattle.std.specs.Prelude.{◌≡◌, ℕ, List, ◌++◌, Option, Some, None}

-- what was held of a stream that told these bytes before and tells those now
abbrev pub Held : Option (List ℕ) → Option (List ℕ) → List ℕ → Type 0
Held None now held = now ≡ None
Held (Some all) now held = (left : List ℕ) × (now ≡ Some left) × (all ≡ held ++ left)
