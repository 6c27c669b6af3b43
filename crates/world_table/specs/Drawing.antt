-- The nonces of a replay.
use Rattle.std.specs.Prelude.{ℕ, zero, suc, ◌+◌, ◌/◌, ◌%◌, List, [], ◌∷◌, ◌++◌}

-- a number in so many decimal digits, with leading zeros
abbrev pub digits : ℕ → ℕ → List ℕ
digits zero n = []
digits (suc size) n = digits size (n / 10) ++ (48 + n % 10) ∷ []

-- the nonce of a draw is its number, in 20 digits
unfoldable pub drawn_nonce : ℕ → List ℕ
drawn_nonce number = digits 20 number
