-- The stored text of a caching_sha2_password credential: the characters `$A$`, three upper-case
-- hexadecimal digits of the thousands of rounds from 001 to FFF, `$`, 20 bytes of salt and 43 of sum.
use Rattle.std.specs.Prelude.{◌≡◌, ℕ, ◌≤◌, ◌⊎◌, ◌/◌, ◌%◌, List, [], ◌∷◌, ◌++◌, length, slice_index, codes}
use Rattle.std.specs.List.{All}
use Rattle.caching_sha2.specs.declared.stored.Sha2Stored.{Sha2Stored}

-- the byte may stand in a salt and in a sum, as one of `./0-9A-Za-z`: one from `.` to `9`, from `A` to `Z` or from `a`
-- to `z`
unfoldable pub IsSaltByte : ℕ → Type 0
IsSaltByte b = ((46 ≤ b) × (b ≤ 57)) ⊎ ((65 ≤ b) × (b ≤ 90)) ⊎ ((97 ≤ b) × (b ≤ 122))

-- the character of a hexadecimal digit
abbrev pub hex_digit : ℕ → ℕ
hex_digit d = slice_index (codes "0123456789ABCDEF") d

-- the three digits of a number below 4096
abbrev pub hex_digits : ℕ → List ℕ
hex_digits n = hex_digit (n / 256) ∷ hex_digit (n / 16 % 16) ∷ hex_digit (n % 16) ∷ []

-- the value has a text
pub record IsStorable (value : Sha2Stored) : Type 0 where
  pub some_rounds : 1 ≤ value.thousands
  pub most_rounds : value.thousands ≤ 4095
  pub salt : All IsSaltByte value.salt
  pub sum : All IsSaltByte value.sum

-- the bytes of a value
abbrev pub text_of : Sha2Stored → List ℕ
text_of value =
    codes "$A$" ++ hex_digits value.thousands ++ codes "$" ++ value.salt ++ value.sum

-- the text is the value's: 70 bytes
pub record IsStoredText (value : Sha2Stored) (text : List ℕ) : Type 0 where
  pub storable : IsStorable value
  pub salt_length : length value.salt ≡ 20
  pub sum_length : length value.sum ≡ 43
  pub bytes : text ≡ text_of value
