use Rattle.std.proofs.Common.{◌≡◌, take, All}
use Rattle.result_sets.specs.Table.{IsShort, row_text}
use Rattle.result_sets.proofs.writing.write_row.Given as goal

abbrev pub invariant-loop-cell : goal.invariant-loop-cell
invariant-loop-cell l = record { written : l.out ≡ row_text (take l.cell-index l.cells); short : All IsShort (take l.cell-index l.cells) }
