-- What a rule of the grammar may ask of a token.
use Rattle.std.specs.Prelude.{ℕ, ◌+◌, ◌*◌, ◌-◌, min, Bool, true, false, ◌||◌, ◌&&◌, List, [], ◌∷◌, map}
use Rattle.std.specs.List.{list_all}
use Rattle.std.specs.Char.{is_ascii_digit, to_ascii_lowercase}
use Rattle.std.specs.Str.{bytes_eq}
use Rattle.stmt_tokens.specs.declared.token.Kind.{Kind}
use Rattle.stmt_tokens.specs.declared.token.Kind.TheVariants as kind
use Rattle.stmt_tokens.specs.declared.token.Token.{Token}

pub data Pattern : Type 0 where
  -- an unquoted word, in any case
  Word : List ℕ → Pattern
  Sign : ℕ → Pattern
  -- a word or what any quotes quote
  Part : Pattern
  -- a part that is this word, in any case
  PartLike : List ℕ → Pattern
  -- what any quotes quote, if it is this text
  InQuotes : List ℕ → Pattern
  -- what ' or " quotes
  Text : Pattern
  -- a word of decimal digits
  Number : Pattern

abbrev pub is_word : Kind → Bool
is_word kind.Word = true
is_word _ = false

abbrev pub is_text : Kind → Bool
is_text kind.Text = true
is_text _ = false

abbrev pub is_quoted : Kind → Bool
is_quoted kind.Text = true
is_quoted kind.Quoted = true
is_quoted _ = false

abbrev pub is_sign_token : Kind → Bool
is_sign_token kind.Sign = true
is_sign_token _ = false

-- the same letters, in any case
unfoldable pub is_same : List ℕ → List ℕ → Bool
is_same xs ys = bytes_eq (map to_ascii_lowercase xs) (map to_ascii_lowercase ys)

abbrev pub fits : Pattern → Token → Bool
fits (Word w) t = is_word t.kind && is_same t.text w
fits (Sign b) t = is_sign_token t.kind && bytes_eq t.text (b ∷ [])
fits Part t = is_word t.kind || is_quoted t.kind
fits (PartLike w) t = (is_word t.kind || is_quoted t.kind) && is_same t.text w
fits (InQuotes x) t = is_quoted t.kind && bytes_eq t.text x
fits Text t = is_text t.kind
fits Number t = is_word t.kind && list_all is_ascii_digit t.text

-- the number that decimal digits stand for, behind the number n
abbrev pub digits_from : ℕ → List ℕ → ℕ
digits_from n [] = n
digits_from n (d ∷ ds) = digits_from (10 * n + (d - 48)) ds

-- a number of the grammar, where what is above 4294967295 is read as 4294967295
unfoldable pub number_of : List ℕ → ℕ
number_of digits = min (digits_from 0 digits) 4294967295
