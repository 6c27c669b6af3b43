-- What was read from a link and written to it.
use Rattle.std.specs.Prelude.{◌≡◌, ℕ, List, [], ◌++◌, Option, Some, None}
use Rattle.lg_outside.specs.Traffic.{Traffic}

-- what was read from a link and written to it between two moments, where it tells that
abbrev pub Moved : Option Traffic → Option Traffic → (got sent : List ℕ) → Type 0
Moved None after got sent = after ≡ None
Moved (Some t) after got sent =
    (left : List ℕ) × (t.left ≡ got ++ left) × (after ≡ Some (record { read = t.read ++ got; left = left; written = t.written ++ sent }))

-- a link at the end of what its peer sent
abbrev pub IsAtEnd : Option Traffic → Type 0
IsAtEnd None = Unit {0}
IsAtEnd (Some t) = t.left ≡ []
