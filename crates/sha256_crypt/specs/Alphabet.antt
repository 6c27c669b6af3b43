-- The 64 characters of crypt's texts, `./0-9A-Za-z`, in the order of the numbers that they stand for.
use Rattle.std.specs.Prelude.{ℕ, ◌≤◌, ◌⊎◌, List, codes}

-- the character at place k stands for the number k
abbrev pub alphabet : List ℕ
alphabet = codes "./0123456789ABCDEFGHIJKLMNOPQRSTUVWXYZabcdefghijklmnopqrstuvwxyz"

-- the byte may stand in a salt and in a sum, as a character of the alphabet: one from `.` to `9`, from
-- `A` to `Z` or from `a` to `z`
unfoldable pub IsSaltByte : ℕ → Type 0
IsSaltByte b = ((46 ≤ b) × (b ≤ 57)) ⊎ ((65 ≤ b) × (b ≤ 90)) ⊎ ((97 ≤ b) × (b ≤ 122))
