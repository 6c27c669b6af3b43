-- The part of a list behind the last element that passes a test.
use Rattle.std.specs.Prelude.{List, [], ◌∷◌, Bool, if◌then◌else◌}
use Rattle.std.specs.List.{list_any}

-- what follows the last element that passes, or all where none does
abbrev pub after_last : {T : Type 0} → (T → Bool) → List T → List T
after_last passes [] = []
after_last passes (x ∷ xs) =
    if list_any passes xs then after_last passes xs else if passes x then xs else x ∷ xs
