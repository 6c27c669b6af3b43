-- The payloads of a result set, one form each: "Text Resultset", "Column Definition 41" and "Text Resultset Row" of the
-- MySQL client/server protocol documentation.
use Rattle.std.specs.Prelude.{◌≡◌, ℕ, zero, suc, ◌-◌, ◌<◌, ◌^◌, ◌==◌, Bool, false, List, [], ◌∷◌, ◌++◌, length, if◌then◌else◌, Option, Some, None, Ok, Err}
use Rattle.lg_base.specs.Fields.{little_text, lenenc_text}
use Rattle.lg_base.specs.Reading.{Cursor, first}
use Rattle.wire_form.specs.Fields.{Field, Found, and_then, lenenc, counted, mark, bytes, number, made, already, chosen, ◌▸◌}
use Rattle.wire_form.specs.Forms.{Form, nothing, ◌▹◌, whole}
use Rattle.result_sets.specs.declared.table.Kind.{Kind}
use Rattle.result_sets.specs.declared.table.Kind.TheVariants.{Text, Number}
use Rattle.result_sets.specs.declared.table.Column.{Column}
use Rattle.result_sets.specs.declared.table.Cell.{Cell}
use Rattle.result_sets.specs.declared.table.Cell.TheVariants.{Null, Value}

-- a text behind its length-encoded length
abbrev pub text : Field (List ℕ)
text = counted lenenc

abbrev pub text_bytes : List ℕ → List ℕ
text_bytes v = lenenc_text (length v) ++ v

-- ## The number of columns

-- a length-encoded integer that isn't 0
abbrev pub not_zero : ℕ → Cursor → Found ℕ
not_zero n next = if n == 0 then Err (next.at - 1) else Ok (n, next)

abbrev pub positive : Field ℕ
positive = record {
  Spells = λ n text. lenenc.Spells n text × (0 < n);
  read = λ c. and_then (lenenc.read c) not_zero;
  Fits = λ n. (n < 2 ^ 64) × (0 < n);
  write = λ n. lenenc_text n;
}

unfoldable pub column_count : Form ℕ
column_count = whole (λ p. p.0) (λ n. (n, tt)) (positive ▹ nothing)

-- ## A column

-- catalog, schema, table, original table, name, original name; 0c; character set and length; type; flags, decimals and
-- two bytes more
abbrev pub ColumnParts : Type 0
ColumnParts =
    (List ℕ × (List ℕ × (List ℕ × (List ℕ × (List ℕ × (List ℕ × (Unit {0} × (List ℕ × (ℕ × List ℕ))))))))) × Unit {0}

-- the type LONGLONG tells of a number
abbrev pub kind_of : ℕ → Kind
kind_of b = if b == 0x08 then Number else Text

abbrev pub type_of : Kind → ℕ
type_of Text = 0xfd
type_of Number = 0x08

-- character set utf8mb4 and 1024 bytes, or the character set of bytes and 20 bytes
abbrev pub charset_and_length : Kind → List ℕ
charset_and_length Text = little_text 2 255 ++ little_text 4 1024
charset_and_length Number = little_text 2 63 ++ little_text 4 20

abbrev pub column_of : ColumnParts → Column
column_of p = record { name = p.0.1.1.1.1.0; kind = kind_of p.0.1.1.1.1.1.1.1.1.0 }

abbrev pub column_parts : Column → ColumnParts
column_parts v =
    ((0x64 ∷ 0x65 ∷ 0x66 ∷ [], ([], ([], ([], (v.name, ([], (tt, (charset_and_length v.kind, (type_of v.kind, 0 ∷ 0 ∷ 0 ∷ 0 ∷ 0 ∷ []))))))))), tt)

unfoldable pub column : Form Column
column = whole column_of column_parts
    ((text ▸ text ▸ text ▸ text ▸ text ▸ text ▸ mark 0x0c ▸ bytes 6 ▸ number 1 ▸ bytes 5) ▹ nothing)

abbrev pub kind_text : Kind → List ℕ
kind_text k = charset_and_length k ++ type_of k ∷ []

unfoldable pub column_text : Column → List ℕ
column_text v = (0x03 ∷ 0x64 ∷ 0x65 ∷ 0x66 ∷ 0 ∷ 0 ∷ 0 ∷ []) ++ text_bytes v.name ++ (0 ∷ 0x0c ∷ []) ++ kind_text v.kind
    ++ (0 ∷ 0 ∷ 0 ∷ 0 ∷ 0 ∷ [])

-- ## EOF

-- fe and four bytes
unfoldable pub ending : Form (Unit {0})
ending = whole (λ _. tt) (λ _. ((tt, 0 ∷ 0 ∷ 2 ∷ 0 ∷ []), tt)) ((mark 0xfe ▸ bytes 4) ▹ nothing)

-- no warnings, and the status AUTOCOMMIT
abbrev pub ending_text : List ℕ
ending_text = 0xfe ∷ 0 ∷ 0 ∷ 2 ∷ 0 ∷ []

-- ## A row

abbrev pub null_cell : Field Cell
null_cell = made (λ _. Null) (λ _. tt) (mark 0xfb)

abbrev pub bytes_of : Cell → List ℕ
bytes_of Null = []
bytes_of (Value v) = v

abbrev pub value_cell : Field Cell
value_cell = made Value bytes_of text

abbrev pub is_null : Option ℕ → Bool
is_null (Some b) = b == 0xfb
is_null None = false

abbrev pub mark_of : Cell → Option ℕ
mark_of Null = Some 0xfb
mark_of (Value v) = first (text_bytes v)

-- NULL is fb, any other first byte begins a text
abbrev pub cell_by : Option ℕ → Field Cell
cell_by b = chosen (is_null b) null_cell value_cell

unfoldable pub cell_text : Cell → List ℕ
cell_text Null = 0xfb ∷ []
cell_text (Value v) = text_bytes v

unfoldable pub cell : Field Cell
cell = record {
  Spells = λ v text. (cell_by (first text)).Spells v text;
  read = λ c. (cell_by (first c.rest)).read c;
  Fits = λ v. (cell_by (mark_of v)).Fits v × (first (cell_text v) ≡ mark_of v);
  write = cell_text;
}

-- so many cells
abbrev pub joined : Cell × List Cell → List Cell
joined p = p.0 ∷ p.1

abbrev pub parted : List Cell → Cell × List Cell
parted [] = (Null, [])
parted (v ∷ vs) = (v, vs)

abbrev pub cells : ℕ → Field (List Cell)
cells zero = already []
cells (suc n) = made joined parted (cell ▸ cells n)

unfoldable pub row : ℕ → Form (List Cell)
row n = whole (λ p. p.0) (λ v. (v, tt)) (cells n ▹ nothing)
