-- What is read of a table, payload by payload.
use Rattle.std.specs.Prelude.{◌≡◌, ℕ, ◌==◌, Bool, true, false, List, [], ◌∷◌, ◌++◌, length, Option, Some, None, Result, Ok, Err}
use Rattle.wire_form.specs.Fields.{map_found}
use Rattle.wire_form.specs.Forms.{Form}
use Rattle.wire_form.specs.Payloads.{start}
use Rattle.result_sets.specs.Layout.{column_count, column, ending, row}
use Rattle.result_sets.specs.declared.fault.TableFault.{TableFault}
use Rattle.result_sets.specs.declared.fault.TableFault.TheVariants.{Malformed}
use Rattle.result_sets.specs.declared.reading.Awaited.{Awaited}
use Rattle.result_sets.specs.declared.reading.Awaited.TheVariants.{Count, Columns, Rows, Nothing}
use Rattle.result_sets.specs.declared.reading.Progress.{Progress}
use Rattle.result_sets.specs.declared.table.Column.{Column}
use Rattle.result_sets.specs.declared.table.Cell.{Cell}
use Rattle.result_sets.specs.declared.table.Table.{Table}

-- ## A row, or EOF

abbrev pub SpellsLine : ℕ → Option (List Cell) → List ℕ → Type 0
SpellsLine n (Some cells) text = (row n).Spells cells text
SpellsLine n None text = ending.Spells tt text

-- what is no EOF is read as a row
abbrev pub line_from : Result (Unit {0}) ℕ → Result (List Cell) ℕ → Result (Option (List Cell)) ℕ
line_from (Ok u) found = Ok None
line_from (Err at) found = map_found Some found

abbrev pub LineFits : ℕ → Option (List Cell) → Type 0
LineFits n (Some cells) = (row n).Fits cells
LineFits n None = ending.Fits tt

abbrev pub line_written : ℕ → Option (List Cell) → List ℕ
line_written n (Some cells) = (row n).write cells
line_written n None = ending.write tt

unfoldable pub line : ℕ → Form (Option (List Cell))
line n = record {
  Spells = SpellsLine n;
  read = λ c. line_from (ending.read c) ((row n).read c);
  Fits = LineFits n;
  write = line_written n;
}

-- ## The next payload

abbrev pub nothing_read : Progress
nothing_read = record { columns = []; rows = []; awaited = Count }

abbrev pub with_columns : Progress → ℕ → Progress
with_columns so_far n = record { columns = so_far.columns; rows = so_far.rows; awaited = Columns n }

abbrev pub with_column : Progress → Column → Progress
with_column so_far v = record { columns = so_far.columns ++ v ∷ []; rows = so_far.rows; awaited = so_far.awaited }

abbrev pub with_middle : Progress → Unit {0} → Progress
with_middle so_far u = record { columns = so_far.columns; rows = so_far.rows; awaited = Rows }

abbrev pub with_line : Progress → Option (List Cell) → Progress
with_line so_far (Some cells) = record { columns = so_far.columns; rows = so_far.rows ++ cells ∷ []; awaited = so_far.awaited }
with_line so_far None = record { columns = so_far.columns; rows = so_far.rows; awaited = Nothing }

abbrev pub column_or_middle : Bool → Progress → List ℕ → Result Progress ℕ
column_or_middle true so_far payload = map_found (with_middle so_far) (ending.read (start payload))
column_or_middle false so_far payload = map_found (with_column so_far) (column.read (start payload))

abbrev pub taken_by : Awaited → Progress → List ℕ → Result Progress ℕ
taken_by Count so_far payload = map_found (with_columns so_far) (column_count.read (start payload))
taken_by (Columns n) so_far payload = column_or_middle (length so_far.columns == n) so_far payload
taken_by Rows so_far payload = map_found (with_line so_far) ((line (length so_far.columns)).read (start payload))
taken_by Nothing so_far payload = Err 0

-- the payload that is awaited
unfoldable pub taken : Progress → List ℕ → Result Progress ℕ
taken so_far payload = taken_by so_far.awaited so_far payload

-- ## The end

abbrev pub EndsBy : Awaited → Progress → ℕ → Result Table TableFault → Type 0
EndsBy Nothing so_far size result = result ≡ Ok (record { columns = so_far.columns; rows = so_far.rows })
EndsBy Count so_far size result = result ≡ Err (Malformed size 0)
EndsBy (Columns n) so_far size result = result ≡ Err (Malformed size 0)
EndsBy Rows so_far size result = result ≡ Err (Malformed size 0)

abbrev pub Ends : Progress → ℕ → Result Table TableFault → Type 0
Ends so_far size result = EndsBy so_far.awaited so_far size result
