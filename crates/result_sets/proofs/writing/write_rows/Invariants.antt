use Rattle.std.proofs.Common.{◌≡◌, ◌++◌, take, map, All}
use Rattle.result_sets.specs.Table.{IsShort, row_text}
use Rattle.result_sets.proofs.writing.write_rows.Given as goal

abbrev pub invariant-loop-row : goal.invariant-loop-row
invariant-loop-row l = record { written : l.payloads ≡ l.initial.payloads ++ map row_text (take l.row-index l.rows); short : All (λ r. All IsShort r) (take l.row-index l.rows) }
