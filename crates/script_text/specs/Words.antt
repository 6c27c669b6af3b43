-- The words of a line, and what a word means: bytes, a number, a session.
use Rattle.std.specs.Prelude.{ℕ, ◌+◌, ◌-◌, ◌*◌, ◌==◌, nat_le, Bool, true, false, List, [], ◌∷◌, Option, Some, None, Result, Ok, Err, codes, if◌then◌else◌}
use Rattle.std.specs.Char.{is_ascii_digit}
use Rattle.std.specs.List.{join_with_byte, slice_split}
use Rattle.std.specs.Str.{bytes_eq}
use Rattle.hex.specs.Hex.{decode_of}
use Rattle.hex.specs.declared.error.FromHexError.{FromHexError}

-- the parts of a text round a separator: one more than it has separators
abbrev pub parts : ℕ → List ℕ → List (List ℕ)
parts separator text = slice_split (λ b. b == separator) text

-- the parts of what is behind a separator, if one stands there
abbrev pub parts_behind : ℕ → Option (List ℕ) → List (List ℕ)
parts_behind separator None = []
parts_behind separator (Some text) = parts separator text

-- the words of a line, one space apart
abbrev pub words : List ℕ → List (List ℕ)
words line = parts 32 line

-- no word
abbrev pub is_none_left : List (List ℕ) → Bool
is_none_left [] = true
is_none_left (word ∷ words) = false

-- exactly one word
abbrev pub single : List (List ℕ) → Option (List ℕ)
single (word ∷ []) = Some word
single _ = None

-- exactly two words
abbrev pub pair : List (List ℕ) → Option (List ℕ × List ℕ)
pair (first ∷ second ∷ []) = Some (first, second)
pair _ = None

-- one to three words
abbrev pub one_to_three : List (List ℕ) → Option (List ℕ × Option (List ℕ) × Option (List ℕ))
one_to_three (first ∷ []) = Some (first, None, None)
one_to_three (first ∷ second ∷ []) = Some (first, Some second, None)
one_to_three (first ∷ second ∷ third ∷ []) = Some (first, Some second, Some third)
one_to_three _ = None

-- the text behind a space
abbrev pub all_text : List (List ℕ) → Option (List ℕ)
all_text [] = None
all_text (word ∷ words) = Some (join_with_byte 32 (word ∷ words))

-- one word, and the text behind its space
abbrev pub with_text : List (List ℕ) → Option (List ℕ × List ℕ)
with_text (first ∷ word ∷ words) = Some (first, join_with_byte 32 (word ∷ words))
with_text _ = None

-- bytes that are there
abbrev pub some_bytes : Result (List ℕ) FromHexError → Option (List ℕ)
some_bytes (Ok (byte ∷ bytes)) = Some (byte ∷ bytes)
some_bytes (Ok []) = None
some_bytes (Err _) = None

-- HEX: the bytes of an even number of hexadecimal digits in either case, at least two, or no bytes for -
abbrev pub hex_word : List ℕ → Option (List ℕ)
hex_word word = if bytes_eq word (codes "-") then Some [] else some_bytes (decode_of word)

-- the number that decimal digits stand for, behind the number n
abbrev pub digits_from : ℕ → List ℕ → Option ℕ
digits_from n [] = Some n
digits_from n (d ∷ ds) = if is_ascii_digit d then digits_from (10 * n + (d - 48)) ds else None

-- a number that is not above the greatest
abbrev pub within : ℕ → Option ℕ → Option ℕ
within most None = None
within most (Some n) = if nat_le n most then Some n else None

-- N: a decimal number without sign or leading zero, not above the greatest
abbrev pub number_word : ℕ → List ℕ → Option ℕ
number_word most [] = None
number_word most (d ∷ []) = within most (digits_from 0 (d ∷ []))
number_word most (d ∷ e ∷ ds) = if d == 48 then None else within most (digits_from 0 (d ∷ e ∷ ds))

-- a number from 1 on
abbrev pub from_one : Option ℕ → Option ℕ
from_one None = None
from_one (Some n) = if n == 0 then None else Some n

-- S: a session's number, 1 to 4294967295
abbrev pub session_word : List ℕ → Option ℕ
session_word word = from_one (number_word 4294967295 word)
