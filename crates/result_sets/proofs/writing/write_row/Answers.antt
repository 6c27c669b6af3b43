use Rattle.result_sets.specs.Layout.{cell_text}
use Rattle.result_sets.specs.Table.{IsShort}
use Rattle.result_sets.proofs.Steps.{all_step, flat_step}
use Rattle.result_sets.proofs.writing.write_row.Goals as goal

pub loop-cell-preserved : goal.loop-cell-preserved
loop-cell-preserved c = record {
  written = flat_step c.args.cells.now c.loop-cell.cell-index c.cell-item.result c.loop-cell-test.true c.cell-item.is cell_text
      c.loop-cell.out c.write_cell.new.out c.loop-cell.invariant.written c.in_ok-write_cell.ensures.ok;
  short = all_step c.args.cells.now c.loop-cell.cell-index c.cell-item.result c.loop-cell-test.true c.cell-item.is
      IsShort c.loop-cell.invariant.short c.write_cell.ensures.short;
}
