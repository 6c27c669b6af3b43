-- Tokens that some text is.
use Rattle.std.proofs.Common.{◌≡◌, ℕ, ◌+◌, true, false, List, [], ◌∷◌, ◌++◌, codes, refl, sym, ap, ◌∙◌, append_assoc}
use Rattle.std.proofs.lemmas.List.{append-nil}
use Rattle.std.specs.List.{list_all}
use Rattle.stmt_tokens.proofs.Lexing.{IsResting, Tail, blank_parts, scanned, shapes, sign, tail_of, text, word}
use Rattle.stmt_tokens.proofs.Written.{both}
use Rattle.stmt_tokens.specs.Tokens.{finished, is_blank, is_quote, is_sign, is_word_byte, opened, scan, stepped}
use Rattle.stmt_tokens.specs.declared.token.Kind.TheVariants as kind
use Rattle.stmt_tokens.specs.declared.token.Mode.TheVariants as mode
use Rattle.stmt_tokens.specs.declared.token.Token.{Token}

-- some text, behind a blank, is this token
pub record Stands (t : Token) : Type 0 where
  pub spelling : List ℕ
  pub tail : Tail (32 ∷ spelling) (t ∷ [])

-- a word, a string and a sign can stand behind a blank
words_scanned : (ds : List ℕ) (p : ℕ) (made : List Token) (start : ℕ) (held : List ℕ) → list_all is_word_byte ds ≡ true
    → scan p ds (record { made = made; mode = mode.Word; start = start; held = held })
    ≡ record { made = made; mode = mode.Word; start = start; held = held ++ ds }
unfolding stepped
words_scanned [] p made start held h = ap (λ (x : List ℕ). record { made = made; mode = mode.Word; start = start; held = x }) (sym (append-nil held))
words_scanned (d ∷ ds) p made start held h =
    let parts = both (is_word_byte d) (list_all is_word_byte ds) h in
    rw (parts.0) (words_scanned ds (p + 1) made start (held ++ d ∷ []) parts.1
    ∙ ap (λ (x : List ℕ). record { made = made; mode = mode.Word; start = start; held = x }) (append_assoc held (d ∷ []) ds))

word_scanned : (b : ℕ) (bs : List ℕ) → is_blank b ≡ false → is_word_byte b ≡ true → list_all is_word_byte bs ≡ true
    → scanned (32 ∷ b ∷ bs) ≡ record { made = []; mode = mode.Word; start = 1; held = b ∷ bs }
unfolding opened stepped
word_scanned b bs e f h = rw (e, f) (words_scanned bs 2 [] 1 (b ∷ []) h)

pub word_stands : (b : ℕ) (bs : List ℕ) → is_blank b ≡ false → is_word_byte b ≡ true → list_all is_word_byte bs ≡ true → Stands (word (b ∷ bs))
unfolding finished
word_stands b bs e f h =
    let s : scanned (32 ∷ b ∷ bs) ≡ record { made = []; mode = mode.Word; start = 1; held = b ∷ bs } = word_scanned b bs e f h in
    let rests : IsResting (scanned (32 ∷ b ∷ bs)) = rw s (record { rests = tt }) in
    let same : shapes (32 ∷ b ∷ bs) ≡ word (b ∷ bs) ∷ [] = rw s refl in
    record { spelling = b ∷ bs; tail = rw same at (tail_of 32 (b ∷ bs) blank_parts rests) }

pub text_stands : Stands (text [])
unfolding finished opened stepped
text_stands = record { spelling = codes "''"; tail = tail_of 32 (codes "''") blank_parts (record { rests = (refl, refl) }) }

pub sign_stands : (b : ℕ) → is_blank b ≡ false → is_word_byte b ≡ false → is_quote b ≡ false → is_sign b ≡ true → Stands (sign b)
unfolding finished opened stepped
sign_stands b e f g h =
    let s : scanned (32 ∷ b ∷ []) ≡ record { made = record { place = 1; kind = kind.Sign; text = b ∷ [] } ∷ []; mode = mode.Between; start = 1; held = [] } = rw (e, f, g, h) refl in
    let rests : IsResting (scanned (32 ∷ b ∷ [])) = rw s (record { rests = refl }) in
    let same : shapes (32 ∷ b ∷ []) ≡ sign b ∷ [] = rw s refl in
    record { spelling = b ∷ []; tail = rw same at (tail_of 32 (b ∷ []) blank_parts rests) }
