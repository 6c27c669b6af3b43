-- A number that is cut at its greatest value after each digit is the number cut at its end.
use Rattle.std.proofs.Common.{◌≡◌, ℕ, ◌+◌, ◌*◌, ◌-◌, ◌<◌, min, List, [], ◌∷◌, suc, length, get_or, drop, drop-cons, add-one, arith}
use Rattle.stmt_tokens.specs.Patterns.{digits_from}

alike : (m n : ℕ) (ds : List ℕ) → min m 4294967295 ≡ min n 4294967295
    → min (digits_from m ds) 4294967295 ≡ min (digits_from n ds) 4294967295
alike m n [] h = h
alike m n (d ∷ ds) h = alike (10 * m + (d - 48)) (10 * n + (d - 48)) ds (omega arith)

pub cut_digit : (n i : ℕ) (ds : List ℕ) → i < length ds
    → min (digits_from (min (10 * n + (get_or ds i 0 - 48)) 4294967295) (drop (i + 1) ds)) 4294967295
    ≡ min (digits_from n (drop i ds)) 4294967295
cut_digit n i ds h =
    rw (add-one, drop-cons ds i 0)
    (alike (min (10 * n + (get_or ds i 0 - 48)) 4294967295) (10 * n + (get_or ds i 0 - 48)) (drop (suc i) ds) (omega arith))
