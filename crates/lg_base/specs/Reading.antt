-- What is read of an input: "Protocol Data Types" of the MySQL client/server protocol documentation,
-- its fixed-length integers, length-encoded integers, strings ended by 00 and strings of a length.
-- Each reader answers the field and the input behind it, or the fault.
use Rattle.std.specs.Prelude.{◌≡◌, ℕ, ◌+◌, ◌==◌, List, [], ◌∷◌, length, take, drop, if◌then◌else◌, nat_lt, position, Option, Some, None, Result, Ok, Err}
use Rattle.lg_base.specs.Fields.{little}
use Rattle.lg_base.specs.declared.input.ReadFault.{ReadFault}
use Rattle.lg_base.specs.declared.input.ReadFault.TheVariants.{Short, BadLenenc}

-- an input that is read: the place of its next byte, and the bytes from there on
pub record Cursor : Type 0 where
  pub at : ℕ
  pub rest : List ℕ

-- the first byte of a list, if there is one
abbrev pub first : List ℕ → Option ℕ
first [] = None
first (b ∷ bytes) = Some b

-- what a reader of values A answers
abbrev pub Read : Type 0 → Type 0
Read A = Result (A × Cursor) ReadFault

-- the input behind so many bytes
abbrev pub behind : ℕ → Cursor → Cursor
behind size c = record { at = c.at + size; rest = drop size c.rest }

-- the bytes end before the field does
abbrev pub short : Cursor → ReadFault
short c = Short (c.at + length c.rest)

-- so many bytes
unfoldable pub bytes_at : ℕ → Cursor → Read (List ℕ)
bytes_at size c =
    if nat_lt (length c.rest) size then Err (short c) else Ok (take size c.rest, behind size c)

-- a number in so many bytes, the lowest first
unfoldable pub number_at : ℕ → Cursor → Read ℕ
number_at size c =
    if nat_lt (length c.rest) size then Err (short c) else Ok (little (take size c.rest), behind size c)

-- a length-encoded integer: one byte below 251, or a byte that tells how many follow
abbrev pub lenenc_from : ℕ → Cursor → Cursor → Read ℕ
lenenc_from first c next =
    if nat_lt first 251 then Ok (first, next)
    else (if first == 252 then number_at 2 next
    else (if first == 253 then number_at 3 next
    else (if first == 254 then number_at 8 next
    else Err (BadLenenc c.at))))

abbrev pub lenenc_of : Cursor → Read ℕ → Read ℕ
lenenc_of c (Ok (first, next)) = lenenc_from first c next
lenenc_of c (Err fault) = Err fault

unfoldable pub lenenc_at : Cursor → Read ℕ
lenenc_at c = lenenc_of c (number_at 1 c)

-- a text up to its first 00, and the input behind that byte
abbrev pub text_of : Cursor → Option ℕ → Read (List ℕ)
text_of c None = Err (short c)
text_of c (Some size) = Ok (take size c.rest, behind (size + 1) c)

unfoldable pub text_at : Cursor → Read (List ℕ)
text_at c = text_of c (position (λ x. x == 0) c.rest)

-- a call gives what a reader answers, and leaves the input behind the field; after a fault as it was
abbrev pub Takes : {A X : Type 0} → (X → A) → (Cursor → Read A) → Cursor → Cursor → Result X ReadFault → Type 0
Takes view read old new (Ok x) = read old ≡ Ok (view x, new)
Takes view read old new (Err fault) = (read old ≡ Err fault) × (new ≡ old)
