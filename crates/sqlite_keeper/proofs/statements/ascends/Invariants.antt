-- From the row at hand on the keys have to rise above the last one that was seen: then all rows ascend.
use Rattle.std.proofs.Common.{length}
use Rattle.lg_outside.specs.Keeping.{Ascend, RiseAbove}
use Rattle.sqlite_keeper.proofs.statements.ascends.Given as goal

abbrev pub invariant-rows : goal.invariant-rows
invariant-rows l = RiseAbove l.low l.left → Ascend l.fn.rows

abbrev pub decreases-rows : goal.decreases-rows
decreases-rows l = length l.left
