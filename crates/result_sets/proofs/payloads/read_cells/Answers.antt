use Rattle.std.proofs.Common.{arith}
use Rattle.result_sets.proofs.Cells.{none_found, one_more_found, no_cells, handed_on, all_found}
use Rattle.result_sets.proofs.payloads.read_cells.Goals as goal

pub loop-init : goal.loop-init
loop-init c = none_found c.args.count c.args.reader.now c.new-found.result c.new-found.ensures

pub loop-preserved : goal.loop-preserved
loop-preserved c = one_more_found c.args.count c.args.reader.now c.loop.reader c.read_cell.new.reader c.loop.found c.push.new.self c.in_ok-cell.cell c.loop.counter
    c.loop.invariant c.loop-test.true c.in_ok-cell.ensures c.in_ok-push.ensures.ok

pub returns-in_err-cell : goal.returns-in_err-cell
returns-in_err-cell c =
    handed_on c.read_cell.new.reader _ _ _ c.from_residual.ensures.1
    (no_cells c.args.count c.args.reader.now c.loop.reader c.loop.found c.loop.counter _ c.loop.invariant c.loop-test.true c.in_err-cell.ensures)

pub returns : goal.returns
returns c = all_found c.args.count c.args.reader.now c.loop.reader c.loop.found c.loop.counter c.loop.invariant
    (omega (arith, c.loop-test.false, c.loop.auto.counter-end))
