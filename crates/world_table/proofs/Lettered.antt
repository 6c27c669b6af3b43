-- The digits of a draw, and the salt of a statement that draws none, are of the alphabet of salts.
use Rattle.std.proofs.Common.{◌≡◌, sym, subst, ℕ, zero, suc, ◌+◌, ◌/◌, ◌%◌, ◌<◌, List, [], ◌∷◌, inl, replicate, arith}
use Rattle.std.specs.List.{All}
use Rattle.std.proofs.lemmas.List.Elements.{All-nil, All-cons, All-append}
use Rattle.sha256_crypt.specs.Alphabet.{IsSaltByte}
use Rattle.session_talk.specs.Statements.{no_salt}
use Rattle.world_table.specs.Drawing.{digits, drawn_nonce}

digit_letter : (m : ℕ) → m < 10 → IsSaltByte (48 + m)
unfolding IsSaltByte
digit_letter m below = inl (omega arith, omega arith)

digits_letters : (size n : ℕ) → All IsSaltByte (digits size n)
digits_letters zero n = All-nil IsSaltByte
digits_letters (suc size) n =
    All-append IsSaltByte (digits size (n / 10)) ((48 + n % 10) ∷ []) (digits_letters size (n / 10))
    (All-cons IsSaltByte (48 + n % 10) [] (digit_letter (n % 10) (omega arith)) (All-nil IsSaltByte))

pub drawn_letters : (nonce : List ℕ) (n : ℕ) → nonce ≡ drawn_nonce n → All IsSaltByte nonce
unfolding drawn_nonce
drawn_letters nonce n is = subst (λ (l : List ℕ). All IsSaltByte l) (sym is) (digits_letters 20 n)

dot : IsSaltByte 46
unfolding IsSaltByte
dot = inl (omega arith, omega arith)

dots : (size : ℕ) → All IsSaltByte (replicate size 46)
dots zero = All-nil IsSaltByte
dots (suc size) = All-cons IsSaltByte 46 (replicate size 46) dot (dots size)

pub no_salt_letters : (salt : List ℕ) → salt ≡ no_salt → All IsSaltByte salt
no_salt_letters salt is = subst (λ (l : List ℕ). All IsSaltByte l) (sym is) (dots 20)
