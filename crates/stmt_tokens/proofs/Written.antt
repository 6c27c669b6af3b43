-- The tokens of texts in quotes and of decimal digits.
use Rattle.std.proofs.Common.{◌≡◌, ℕ, ◌+◌, ◌*◌, ◌-◌, ◌/◌, ◌%◌, ◌<◌, ◌≤◌, ◌==◌, ◌&&◌, Bool, true, false, List, [], ◌∷◌, ◌++◌, length, flat_map, refl, sym, ap, ◌∙◌, append_assoc, length-append, arith}
use Rattle.std.proofs.lemmas.Bool.{eqb-true}
use Rattle.std.proofs.lemmas.Bool.Decides.{nat_tests}
use Rattle.std.proofs.lemmas.Fmt.{decimal_by_steps}
use Rattle.std.proofs.lemmas.List.{append-nil}
use Rattle.std.proofs.lemmas.List.Folds.{list_all-append}
use Rattle.std.specs.Char.{is_ascii_digit}
use Rattle.std.specs.Fmt.{decimal}
use Rattle.std.specs.List.{list_all}
use Rattle.stmt_tokens.proofs.Lexing.{Body, IsResting, body_of, scanned, shapes, text, word}
use Rattle.stmt_tokens.specs.Patterns.{digits_from}
use Rattle.stmt_tokens.specs.Quoting.{quoted, written_byte}
use Rattle.stmt_tokens.specs.Tokens.{Scanned, finished, is_blank, is_word_byte, opened, scan, stepped}
use Rattle.stmt_tokens.specs.declared.token.Mode.TheVariants as mode
use Rattle.stmt_tokens.specs.declared.token.Token.{Token}

-- within ', and behind it
abbrev within : List Token → ℕ → List ℕ → Scanned
within made start held = record { made = made; mode = mode.Inside 39; start = start; held = held }

abbrev behind : List Token → ℕ → List ℕ → Scanned
behind made start held = record { made = made; mode = mode.Closing 39; start = start; held = held }

byte_scanned : (b p : ℕ) (rest : List ℕ) (made : List Token) (start : ℕ) (held : List ℕ) (quote back nul : Bool)
    → (b == 39) ≡ quote → (b == 92) ≡ back → (b == 0) ≡ nul
    → (q : ℕ) × (scan p (written_byte b ++ rest) (within made start held) ≡ scan q rest (within made start (held ++ b ∷ [])))
unfolding stepped
byte_scanned b p rest made start held true back nul e f g =
    let is : b ≡ 39 = eqb-true b 39 e in
    (p + 1 + 1, rw is refl)
byte_scanned b p rest made start held false true nul e f g =
    let is : b ≡ 92 = eqb-true b 92 f in
    (p + 1 + 1, rw is refl)
byte_scanned b p rest made start held false false true e f g =
    let is : b ≡ 0 = eqb-true b 0 g in
    (p + 1 + 1, rw is refl)
byte_scanned b p rest made start held false false false e f g = (p + 1, rw (e, f, g, e, f) refl)

quote_scanned : (x : List ℕ) (p : ℕ) (made : List Token) (start : ℕ) (held : List ℕ)
    → scan p (flat_map written_byte x ++ 39 ∷ []) (within made start held) ≡ behind made start (held ++ x)
unfolding stepped
quote_scanned [] p made start held = ap (λ (h : List ℕ). behind made start h) (sym (append-nil held))
quote_scanned (b ∷ x) p made start held =
    let one = byte_scanned b p (flat_map written_byte x ++ 39 ∷ []) made start held (b == 39) (b == 92) (b == 0) refl refl refl in
    let split : (written_byte b ++ flat_map written_byte x) ++ 39 ∷ [] ≡ written_byte b ++ (flat_map written_byte x ++ 39 ∷ []) =
    append_assoc (written_byte b) (flat_map written_byte x) (39 ∷ []) in
    ap (λ (y : List ℕ). scan p y (within made start held)) split ∙ one.1
    ∙ quote_scanned x one.0 made start (held ++ b ∷ [])
    ∙ ap (λ (h : List ℕ). behind made start h) (append_assoc held (b ∷ []) x)

quoted_scanned : (x : List ℕ) → scanned (quoted x) ≡ behind [] 0 x
unfolding quoted opened stepped
quoted_scanned x = quote_scanned x 1 [] 0 []

pub quoted_body : (x : List ℕ) → Body (quoted x) (text x ∷ [])
unfolding finished
quoted_body x =
    let e : scanned (quoted x) ≡ behind [] 0 x = quoted_scanned x in
    let rests : IsResting (scanned (quoted x)) = rw e (record { rests = (refl, refl) }) in
    let same : shapes (quoted x) ≡ text x ∷ [] = rw e refl in
    rw same at (body_of (quoted x) rests)

pub both : (a b : Bool) → (a && b) ≡ true → (a ≡ true) × (b ≡ true)
both true b h = (refl, h)
both false b h = cc

digit_is_word : (d : ℕ) → is_ascii_digit d ≡ true → is_word_byte d ≡ true
digit_is_word d h = rw h refl

digits_scanned : (ds : List ℕ) (p : ℕ) (made : List Token) (start : ℕ) (held : List ℕ) → list_all is_ascii_digit ds ≡ true
    → scan p ds (record { made = made; mode = mode.Word; start = start; held = held })
    ≡ record { made = made; mode = mode.Word; start = start; held = held ++ ds }
unfolding stepped
digits_scanned [] p made start held h = ap (λ (x : List ℕ). record { made = made; mode = mode.Word; start = start; held = x }) (sym (append-nil held))
digits_scanned (d ∷ ds) p made start held h =
    let parts = both (is_ascii_digit d) (list_all is_ascii_digit ds) h in
    let e : is_word_byte d ≡ true = digit_is_word d parts.0 in
    rw e (digits_scanned ds (p + 1) made start (held ++ d ∷ []) parts.1
    ∙ ap (λ (x : List ℕ). record { made = made; mode = mode.Word; start = start; held = x }) (append_assoc held (d ∷ []) ds))

-- what the digits of a number are
pub record AreDigits (n : ℕ) (ds : List ℕ) : Type 0 where
  pub digits : list_all is_ascii_digit ds ≡ true
  pub some : 0 < length ds
  pub value : digits_from 0 ds ≡ n

digit : (n : ℕ) → n < 10 → is_ascii_digit (48 + n) ≡ true
digit n h = grind (arith, nat_tests)

digits_push : (ds : List ℕ) (n d : ℕ) → digits_from n (ds ++ d ∷ []) ≡ 10 * digits_from n ds + (d - 48)
digits_push [] n d = refl
digits_push (e ∷ ds) n d = digits_push ds (10 * n + (e - 48)) d

one_digit : (n : ℕ) → n < 10 → AreDigits n ((48 + n) ∷ [])
one_digit n h = record { digits = rw (digit n h) refl; some = omega arith; value = omega arith }

more_digits : (n : ℕ) (ds : List ℕ) → 10 ≤ n → AreDigits (n / 10) ds → AreDigits n (ds ++ (48 + n % 10) ∷ [])
more_digits n ds h before =
    let low : n % 10 < 10 = omega arith in
    record {
      digits = rw (list_all-append is_ascii_digit ds ((48 + n % 10) ∷ []), before.digits, digit (n % 10) low) refl;
      some = omega (arith, length-append ds ((48 + n % 10) ∷ []));
      value = digits_push ds 0 (48 + n % 10) ∙ (let e : digits_from 0 ds ≡ n / 10 = before.value in omega arith);
    }

pub decimal_digits : (n : ℕ) → n < 4294967296 → AreDigits n (decimal n)
decimal_digits n h = decimal_by_steps AreDigits one_digit more_digits n (omega arith)

-- a digit is no blank, and begins a word
not_blank : (d : ℕ) → is_ascii_digit d ≡ true → is_blank d ≡ false
not_blank d h = grind (arith, nat_tests)

digit_starts : (d : ℕ) (ds : List ℕ) → is_ascii_digit d ≡ true → is_word_byte d ≡ true
    → scanned (d ∷ ds) ≡ scan 1 ds (record { made = []; mode = mode.Word; start = 0; held = d ∷ [] })
unfolding opened stepped
digit_starts d ds h e = let n : is_blank d ≡ false = not_blank d h in rw (n, e) refl

number_scanned : (ds : List ℕ) → list_all is_ascii_digit ds ≡ true → 0 < length ds
    → scanned ds ≡ record { made = []; mode = mode.Word; start = 0; held = ds }
unfolding opened stepped
number_scanned [] h some = absurd (omega arith)
number_scanned (d ∷ ds) h some =
    let parts = both (is_ascii_digit d) (list_all is_ascii_digit ds) h in
    let e : is_word_byte d ≡ true = digit_is_word d parts.0 in
    digit_starts d ds parts.0 e ∙ digits_scanned ds 1 [] 0 (d ∷ []) parts.1

pub decimal_body : (n : ℕ) → n < 4294967296 → Body (decimal n) (word (decimal n) ∷ [])
unfolding finished
decimal_body n h =
    let d = decimal_digits n h in
    let e : scanned (decimal n) ≡ record { made = []; mode = mode.Word; start = 0; held = decimal n } = number_scanned (decimal n) d.digits d.some in
    let rests : IsResting (scanned (decimal n)) = rw e (record { rests = tt }) in
    let same : shapes (decimal n) ≡ word (decimal n) ∷ [] = rw e refl in
    rw same at (body_of (decimal n) rests)
