use Rattle.result_sets.proofs.Cells.{FoundSoFar}
use Rattle.result_sets.proofs.payloads.read_cells.Given as goal

abbrev pub invariant-loop : goal.invariant-loop
invariant-loop l = FoundSoFar l.count l.initial.reader l.found l.reader l.counter
