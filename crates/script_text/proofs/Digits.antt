-- A number, digit by digit.
use Rattle.std.proofs.Common.{◌≡◌, ℕ, ◌+◌, ◌*◌, ◌-◌, ◌<◌, Bool, true, false, cond, suc, List, [], ◌∷◌, length, get_or, drop, Some, None, refl, sym, ap, ◌∙◌, arith, drop-cons, add-one}
use Rattle.std.proofs.lemmas.Bool.Decides.{nat_tests}
use Rattle.std.specs.Char.{is_ascii_digit}
use Rattle.script_text.specs.Words.{digits_from, within}

-- a byte that is no digit
pub no_digit : (most n i : ℕ) (ds : List ℕ) → i < length ds → is_ascii_digit (get_or ds i 0) ≡ false → within most (digits_from n (drop i ds)) ≡ None
no_digit most n i ds h e =
    ap (λ (rest : List ℕ). within most (digits_from n rest)) (drop-cons ds i 0 h)
    ∙ ap (λ (b : Bool). within most (cond b (digits_from (10 * n + (get_or ds i 0 - 48)) (drop (suc i) ds)) None)) e

-- one more digit
pub one_digit : (most n i : ℕ) (ds : List ℕ) → i < length ds → is_ascii_digit (get_or ds i 0) ≡ true
    → within most (digits_from n (drop i ds)) ≡ within most (digits_from (10 * n + (get_or ds i 0 - 48)) (drop (i + 1) ds))
one_digit most n i ds h e =
    ap (λ (rest : List ℕ). within most (digits_from n rest)) (drop-cons ds i 0 h)
    ∙ ap (λ (b : Bool). within most (cond b (digits_from (10 * n + (get_or ds i 0 - 48)) (drop (suc i) ds)) None)) e
    ∙ ap (λ (k : ℕ). within most (digits_from (10 * n + (get_or ds i 0 - 48)) (drop k ds))) (sym (add-one i))

not_within : (most n : ℕ) → most < n → within most (Some n) ≡ None
not_within most n h = grind (arith, nat_tests)

-- further digits make no number smaller
pub above : (most n : ℕ) (ds : List ℕ) → most < n → within most (digits_from n ds) ≡ None
above most n [] h = not_within most n h
above most n (d ∷ ds) h =
    let by : (b : Bool) → within most (cond b (digits_from (10 * n + (d - 48)) ds) None) ≡ None =
    λ b. elim b as (λ b. within most (cond b (digits_from (10 * n + (d - 48)) ds) None) ≡ None)
    [ true ↦ above most (10 * n + (d - 48)) ds (omega arith) | false ↦ refl ] in
    by (is_ascii_digit d)

-- the digits so far are above the greatest number
pub past : (most n i : ℕ) (ds : List ℕ) → i < length ds → is_ascii_digit (get_or ds i 0) ≡ true → most < 10 * n + (get_or ds i 0 - 48)
    → within most (digits_from n (drop i ds)) ≡ None
past most n i ds h e m = one_digit most n i ds h e ∙ above most (10 * n + (get_or ds i 0 - 48)) (drop (i + 1) ds) m
