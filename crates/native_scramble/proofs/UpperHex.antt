-- Upper-case hexadecimal text: writing it from lower case, and that it is read.
use Rattle.std.proofs.Common.{◌≡◌, ℕ, zero, suc, ◌+◌, ◌*◌, ◌-◌, ◌/◌, ◌%◌, ◌<◌, ◌≤◌, true, List, [], ◌∷◌, length, slice_index, map, refl, sym, ap, ◌∙◌, arith, subst, ◌⊎◌, inl, inr, take, drop}
use Rattle.std.specs.Char.{to_ascii_uppercase}
use Rattle.std.specs.List.{range_with_len, AllPass}
use Rattle.std.specs.Prelude.{Ok, Err, Result, Some, IsSome, IfSome, ◌↔◌}
use Rattle.std.specs.Result.{result_ok, result_unwrap_or}
use Rattle.std.proofs.Math.Seq.{take-length}
use Rattle.std.proofs.lemmas.Bool.{cases_lt}
use Rattle.std.proofs.lemmas.Bool.Decides.{nat_tests}
use Rattle.std.proofs.lemmas.List.{get_or_append_left, get_or-append_right}
use Rattle.std.proofs.lemmas.List.Elements.{All-head, All-tail, All-nil, All-cons}
use Rattle.std.proofs.lemmas.List.FromFn.{length-range_with_len, get_or-range_with_len}
use Rattle.hex.proofs.HexLemmas.{decode_of-encode_upper, decode_sized-ok, decode_sized-twice, length-encode_with}
use Rattle.hex.specs.Hex.{IsBytes, decode_of, decode_sized, encode_lower, encode_upper, encode_with, lower_digits, upper_digits}
use Rattle.hex.specs.declared.error.FromHexError.{FromHexError}
use Rattle.native_scramble.specs.Native.{is_upper_hex_digit, IsNativeText, native_text}

-- a digit of the lower-case table in upper case
slice_index-map : (xs : List ℕ) (k : ℕ) → to_ascii_uppercase (slice_index xs k) ≡ slice_index (map to_ascii_uppercase xs) k
slice_index-map [] k = refl
slice_index-map (x ∷ xs) zero = refl
slice_index-map (x ∷ xs) (suc k) = slice_index-map xs k

digit-upper : (k : ℕ) → to_ascii_uppercase (slice_index lower_digits k) ≡ slice_index upper_digits k
digit-upper k = slice_index-map lower_digits k

-- the upper-case text is the lower-case one in upper case
pub map-encode_lower : (bytes : List ℕ) → map to_ascii_uppercase (encode_lower bytes) ≡ encode_upper bytes
unfolding encode_with
map-encode_lower [] = refl
map-encode_lower (b ∷ rest) =
    let high = digit-upper (b / 16) in
    let low = digit-upper (b % 16) in
    let tail = map-encode_lower rest in
    cc (high, low, tail)

-- `0` to `9` are the digits below ten
digit-decimal : (d : ℕ) → d < 10 → slice_index upper_digits d ≡ 48 + d
digit-decimal d h =
    get_or_append_left (range_with_len 48 10) (range_with_len 65 6) 0 d (omega (arith, length-range_with_len 48 10))
    ∙ get_or-range_with_len 48 10 d 0 h

-- `A` to `F` are the six above
digit-letter : (d : ℕ) → d < 6 → slice_index upper_digits (10 + d) ≡ 65 + d
digit-letter d h =
    get_or-append_right (range_with_len 48 10) (range_with_len 65 6) 10 (10 + d) 0 refl (omega arith)
    ∙ get_or-range_with_len 65 6 (10 + d - 10) 0 (omega arith) ∙ omega arith

-- an upper-case digit is one of the table
upper_place : (c : ℕ) → is_upper_hex_digit c ≡ true → (d : ℕ) × (d < 16) × (slice_index upper_digits d ≡ c)
upper_place c h =
    let either : ((48 ≤ c) × (c < 58)) ⊎ ((65 ≤ c) × (c < 71)) = grind (arith, nat_tests) in
    elim either [
      | inl decimal ↦ (c - 48, omega arith, digit-decimal (c - 48) (omega arith) ∙ omega arith)
      | inr letter ↦
          let place : 10 + (c - 65) ≡ c - 55 = omega arith in
          (c - 55, omega arith, rw place at (digit-letter (c - 65) (omega arith)) ∙ omega arith)
    ]

-- a byte is an upper-case digit
abbrev passes : ℕ → Type 0
passes c = is_upper_hex_digit c ≡ true

-- a byte in front of bytes
IsBytes-cons : (b : ℕ) (rest : List ℕ) → b < 256 → IsBytes rest → IsBytes (b ∷ rest)
IsBytes-cons b rest h hs zero = h
IsBytes-cons b rest h hs (suc k) = hs k

-- two digits are those of one byte
upper_byte : (a b : ℕ) → is_upper_hex_digit a ≡ true → is_upper_hex_digit b ≡ true
    → (byte : ℕ) × (byte < 256) × (slice_index upper_digits (byte / 16) ≡ a) × (slice_index upper_digits (byte % 16) ≡ b)
upper_byte a b ha hb =
    let high = upper_place a ha in
    let low = upper_place b hb in
    let quotient : (high.0 * 16 + low.0) / 16 ≡ high.0 = omega arith in
    let rest : (high.0 * 16 + low.0) % 16 ≡ low.0 = omega arith in
    (high.0 * 16 + low.0, omega arith, rw quotient high.2, rw rest low.2)

-- upper-case digits in pairs are the text of some bytes
pub encode_upper_of : (digits : List ℕ) → length digits % 2 ≡ 0 → AllPass is_upper_hex_digit digits
    → (bytes : List ℕ) × (encode_upper bytes ≡ digits) × IsBytes bytes
unfolding encode_with
encode_upper_of [] even all = ([], refl, λ k. omega arith)
encode_upper_of (a ∷ []) even all = absurd (omega arith)
encode_upper_of (a ∷ b ∷ rest) even all =
    let tail = All-tail passes a (b ∷ rest) all in
    let byte = upper_byte a b (All-head passes a (b ∷ rest) all) (All-head passes b rest tail) in
    let more = encode_upper_of rest (omega arith) (All-tail passes b rest tail) in
    (byte.0 ∷ more.0, cc (byte.2, byte.3, more.1), IsBytes-cons byte.0 more.0 byte.1 more.2)

-- such digits decode to those bytes
pub decode_sized-upper : (digits : List ℕ) → length digits ≡ 40 → AllPass is_upper_hex_digit digits
    → (bytes : List ℕ) × (decode_sized digits 20 ≡ Ok bytes) × (encode_upper bytes ≡ digits)
decode_sized-upper digits long all =
    let bytes = encode_upper_of digits (omega arith) all in
    let decoded = decode_sized-twice digits 20 long ∙ sym (ap decode_of bytes.1) ∙ decode_of-encode_upper bytes.0 bytes.2 in
    (bytes.0, decoded, bytes.1)

-- a text after its first byte
pub text_parts : (text : List ℕ) (mark : ℕ) → 1 ≤ length text → slice_index text 0 ≡ mark
    → text ≡ mark ∷ take (length text - 1) (drop 1 text)
text_parts [] mark some first = absurd (omega arith)
text_parts (x ∷ rest) mark some first = let all : take (length rest) rest ≡ rest = take-length rest in let n : length (x ∷ rest) - 1 ≡ length rest = omega arith in rw (n, all) (ap (λ y. y ∷ rest) first)

-- what reading a text of `*` and upper-case digits answers
pub text_read : (text digits : List ℕ) (r : Result (List ℕ) FromHexError) → text ≡ 42 ∷ digits
    → AllPass is_upper_hex_digit digits → r ≡ decode_sized digits 20
    → (IsSome (result_ok r) ↔ IsNativeText text) × IfSome (result_ok r) (λ stage2. native_text stage2 ≡ text)
text_read text digits (Ok bytes) whole all read =
    let long = decode_sized-ok digits 20 bytes (sym read) in
    let upper = decode_sized-upper digits (omega (arith, long)) all in
    let same : bytes ≡ upper.0 = ap (λ (r : Result (List ℕ) FromHexError). result_unwrap_or r []) (read ∙ upper.1) in
    ((λ some. (digits, whole, omega (arith, long), all), λ native. refl), ap (λ stage2. native_text stage2) same ∙ ap (λ shown. 42 ∷ shown) upper.2 ∙ sym whole)
text_read text digits (Err e) whole all read =
    ((λ some. cc some, λ native. let same : native.0 ≡ digits = cc (whole, native.1) in let upper = decode_sized-upper digits (sym (ap length same) ∙ native.2) all in cc (read, upper.1)), tt)

-- the digits of the table are upper-case digits
upper_digit : (d : ℕ) → d < 16 → is_upper_hex_digit (slice_index upper_digits d) ≡ true
upper_digit d h =
    elim (cases_lt d 10) [
      | inl decimal ↦
          let passed : is_upper_hex_digit (48 + d) ≡ true = grind (arith, nat_tests) in
          rw (digit-decimal d decimal) passed
      | inr letter ↦
          let passed : is_upper_hex_digit (65 + (d - 10)) ≡ true = grind (arith, nat_tests) in
          let place : 10 + (d - 10) ≡ d = omega arith in
          rw (rw place at (digit-letter (d - 10) (omega arith))) passed
    ]

-- the text of some bytes has upper-case digits
AllPass-encode_upper : (bytes : List ℕ) → IsBytes bytes → AllPass is_upper_hex_digit (encode_upper bytes)
unfolding encode_with
AllPass-encode_upper [] h = All-nil passes
AllPass-encode_upper (b ∷ rest) h =
    let byte : b < 256 = h 0 in
    let more = AllPass-encode_upper rest (λ k. h (suc k)) in
    let last = All-cons passes (slice_index upper_digits (b % 16)) (encode_upper rest) (upper_digit (b % 16) (omega arith)) more in
    All-cons passes (slice_index upper_digits (b / 16)) (slice_index upper_digits (b % 16) ∷ encode_upper rest) (upper_digit (b / 16) (omega arith)) last

-- what follows the `*` of a written text has upper-case digits
pub AllPass_written : (text digits stage2 : List ℕ) → text ≡ 42 ∷ digits → IsBytes stage2
    → text ≡ native_text stage2 → AllPass is_upper_hex_digit digits
AllPass_written text digits stage2 whole h written =
    let same : encode_upper stage2 ≡ digits = cc (whole, written) in
    let P : List ℕ → Type 0 = λ shown. AllPass is_upper_hex_digit shown in
    subst P same (AllPass-encode_upper stage2 h)

-- a written text is read as its bytes
pub text_read_back : (text digits stage2 : List ℕ) (r : Result (List ℕ) FromHexError) → text ≡ 42 ∷ digits
    → r ≡ decode_sized digits 20 → length stage2 ≡ 20 → IsBytes stage2 → text ≡ native_text stage2
    → result_ok r ≡ Some stage2
text_read_back text digits stage2 r whole read long h written =
    let same : digits ≡ encode_upper stage2 = cc (whole, written) in
    let twice = length-encode_with upper_digits stage2 in
    let decoded = decode_sized-twice (encode_upper stage2) 20 (omega (arith, twice)) ∙ decode_of-encode_upper stage2 h in
    ap result_ok (read ∙ ap (λ shown. decode_sized shown 20) same ∙ decoded)
