-- The digits of a number are of the alphabet of salts.
use Rattle.std.proofs.Common.{◌≡◌, sym, subst, ℕ, zero, suc, ◌+◌, ◌/◌, ◌%◌, ◌<◌, List, [], ◌∷◌, inl, arith}
use Rattle.std.specs.List.{All}
use Rattle.std.proofs.lemmas.List.Elements.{All-nil, All-cons, All-append}
use Rattle.sha256_crypt.specs.Alphabet.{IsSaltByte}
use Rattle.server_outside.specs.Numbered.{digits, numbered}

digit_is_salt : (m : ℕ) → m < 10 → IsSaltByte (48 + m)
unfolding IsSaltByte
digit_is_salt m below = inl (omega arith, omega arith)

digits_are_salt : (size n : ℕ) → All IsSaltByte (digits size n)
digits_are_salt zero n = All-nil IsSaltByte
digits_are_salt (suc size) n =
    All-append IsSaltByte (digits size (n / 10)) ((48 + n % 10) ∷ []) (digits_are_salt size (n / 10))
    (All-cons IsSaltByte (48 + n % 10) [] (digit_is_salt (n % 10) (omega arith)) (All-nil IsSaltByte))

-- so a draw that is a number is of it
pub number_is_salt : (nonce : List ℕ) (n : ℕ) → nonce ≡ numbered n → All IsSaltByte nonce
unfolding numbered
number_is_salt nonce n is = subst (λ (l : List ℕ). All IsSaltByte l) (sym is) (digits_are_salt 20 n)
