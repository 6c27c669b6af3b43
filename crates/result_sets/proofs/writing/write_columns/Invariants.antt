use Rattle.std.proofs.Common.{◌≡◌, ◌++◌, take, map, All}
use Rattle.result_sets.specs.Layout.{column, column_text}
use Rattle.result_sets.proofs.writing.write_columns.Given as goal

abbrev pub invariant-loop-column : goal.invariant-loop-column
invariant-loop-column l = record { written : l.payloads ≡ l.initial.payloads ++ map column_text (take l.column-index l.columns); spelled : All (λ v. column.Spells v (column_text v)) (take l.column-index l.columns) }
