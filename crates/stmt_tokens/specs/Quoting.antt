-- How a text is written within ' so that it is read back.
use Rattle.std.specs.Prelude.{ℕ, ◌==◌, List, [], ◌∷◌, ◌++◌, flat_map, if◌then◌else◌}

-- a byte within quotes
abbrev pub written_byte : ℕ → List ℕ
written_byte b =
    if b == 39 then 39 ∷ 39 ∷ []
    else (if b == 92 then 92 ∷ 92 ∷ []
    else (if b == 0 then 92 ∷ 48 ∷ []
    else b ∷ []))

-- a text in quotes
unfoldable pub quoted : List ℕ → List ℕ
quoted x = 39 ∷ [] ++ flat_map written_byte x ++ 39 ∷ []
