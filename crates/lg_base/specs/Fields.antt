-- Wire fields as lists of bytes: "Protocol Data Types" of the MySQL client/server protocol
-- documentation, its fixed-length integers and length-encoded integers.
use Rattle.std.specs.Prelude.{ℕ, zero, suc, ◌+◌, ◌*◌, ◌/◌, ◌%◌, List, [], ◌∷◌, if◌then◌else◌, nat_lt}

-- the number that bytes stand for, the lowest first
abbrev pub little : List ℕ → ℕ
little [] = 0
little (x ∷ xs) = x + 256 * little xs

-- a number in so many bytes, the lowest first
abbrev pub little_text : ℕ → ℕ → List ℕ
little_text zero x = []
little_text (suc size) x = (x % 256) ∷ little_text size (x / 256)

-- a length-encoded integer in its shortest form
abbrev pub lenenc_text : ℕ → List ℕ
lenenc_text x =
    if nat_lt x 251 then x ∷ []
    else (if nat_lt x 65536 then 252 ∷ little_text 2 x
    else (if nat_lt x 16777216 then 253 ∷ little_text 3 x
    else 254 ∷ little_text 8 x))
