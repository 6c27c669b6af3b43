-- The tokens of a text: MySQL 8.0 Reference Manual, "String Literals" and "Schema Object Names".
-- A text is scanned byte by byte, from the first to the last.
use Rattle.std.specs.Prelude.{ℕ, ◌+◌, ◌==◌, Bool, ◌||◌, ◌&&◌, not, List, [], ◌∷◌, ◌++◌, if◌then◌else◌}
use Rattle.std.specs.Char.{is_ascii_alphanumeric}
use Rattle.stmt_tokens.specs.declared.token.Kind.{Kind}
use Rattle.stmt_tokens.specs.declared.token.Kind.TheVariants as kind
use Rattle.stmt_tokens.specs.declared.token.Token.{Token}
use Rattle.stmt_tokens.specs.declared.token.Mode.{Mode}
use Rattle.stmt_tokens.specs.declared.token.Mode.TheVariants as mode

-- space, tab, CR and LF
abbrev pub is_blank : ℕ → Bool
is_blank b = (b == 32) || (b == 9) || (b == 13) || (b == 10)

-- ASCII letters, digits, _ and $
abbrev pub is_word_byte : ℕ → Bool
is_word_byte b = is_ascii_alphanumeric b || (b == 95) || (b == 36)

-- ', " and `
abbrev pub is_quote : ℕ → Bool
is_quote b = (b == 39) || (b == 34) || (b == 96)

-- @ * . , ; ( )
abbrev pub is_sign : ℕ → Bool
is_sign b = (b == 64) || (b == 42) || (b == 46) || (b == 44) || (b == 59) || (b == 40) || (b == 41)

-- what a backslash and a byte stand for
abbrev pub escape_of : ℕ → List ℕ
escape_of b =
    if b == 48 then 0 ∷ []
    else (if b == 110 then 10 ∷ []
    else (if b == 114 then 13 ∷ []
    else (if b == 116 then 9 ∷ []
    else (if b == 98 then 8 ∷ []
    else (if b == 90 then 26 ∷ []
    else (if (b == 37) || (b == 95) then 92 ∷ b ∷ []
    else b ∷ []))))))

-- backquotes quote names alone, the other quotes texts
abbrev pub kind_within : ℕ → Kind
kind_within quote = if quote == 96 then kind.Quoted else kind.Text

-- what was made of the bytes so far: the tokens, and the one that is open, with its place and bytes
pub record Scanned : Type 0 where
  pub made : List Token
  pub mode : Mode
  pub start : ℕ
  pub held : List ℕ

abbrev pub start_of_scan : Scanned
start_of_scan = record { made = []; mode = mode.Between; start = 0; held = [] }

-- one more token, of the bytes that are held; no token is open then
abbrev pub with_token : ℕ → Kind → Scanned → Scanned
with_token place kind s =
    record { made = s.made ++ record { place = place; kind = kind; text = s.held } ∷ []; mode = mode.Between; start = s.start; held = [] }

-- one more byte of the open token
abbrev pub grown : ℕ → Scanned → Scanned
grown b s = record s { held = s.held ++ b ∷ [] }

-- a byte between tokens
unfoldable pub opened : ℕ → ℕ → Scanned → Scanned
opened place b s =
    if is_blank b then s
    else (if is_word_byte b then grown b (record s { mode = mode.Word; start = place })
    else (if is_quote b then record s { mode = mode.Inside b; start = place }
    else (if is_sign b then with_token place kind.Sign (grown b (record s { start = place }))
    else record (with_token place kind.Bad (record s { start = place })) { mode = mode.Stopped })))

-- a byte inside a quote: the quote closes, or is the first of two; backquotes know no escapes
abbrev pub inside : ℕ → ℕ → Scanned → Scanned
inside quote b s =
    if b == quote then record s { mode = mode.Closing quote }
    else (if (b == 92) && not (quote == 96) then record s { mode = mode.Escaped quote }
    else grown b s)

-- a byte
abbrev pub stepped_in : Mode → ℕ → ℕ → Scanned → Scanned
stepped_in mode.Between place b s = opened place b s
stepped_in mode.Word place b s =
    if is_word_byte b then grown b s else opened place b (with_token s.start kind.Word s)
stepped_in (mode.Inside quote) place b s = inside quote b s
stepped_in (mode.Escaped quote) place b s = record s { mode = mode.Inside quote; held = s.held ++ escape_of b }
stepped_in (mode.Closing quote) place b s =
    if b == quote then grown b (record s { mode = mode.Inside quote })
    else opened place b (with_token s.start (kind_within quote) s)
stepped_in mode.Stopped place b s = s

unfoldable pub stepped : ℕ → ℕ → Scanned → Scanned
stepped place b s = stepped_in s.mode place b s

-- the text's end: a word ends, and a quote that isn't closed is no token
abbrev pub finished_in : Mode → Scanned → Scanned
finished_in mode.Between s = s
finished_in mode.Word s = with_token s.start kind.Word s
finished_in (mode.Inside quote) s = with_token s.start kind.Bad s
finished_in (mode.Escaped quote) s = with_token s.start kind.Bad s
finished_in (mode.Closing quote) s = with_token s.start (kind_within quote) s
finished_in mode.Stopped s = s

unfoldable pub finished : Scanned → Scanned
finished s = finished_in s.mode s

-- the bytes from a place on
abbrev pub scan : ℕ → List ℕ → Scanned → Scanned
scan place [] s = s
scan place (b ∷ bs) s = scan (place + 1) bs (stepped place b s)

-- the tokens of a text
unfoldable pub tokens : List ℕ → List Token
tokens text = (finished (scan 0 text start_of_scan)).made

-- a token without its place
abbrev pub unplaced : Token → Token
unplaced t = record { place = 0; kind = t.kind; text = t.text }
