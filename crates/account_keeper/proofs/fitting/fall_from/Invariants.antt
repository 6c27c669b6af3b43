use Rattle.std.proofs.Common.{length}
use Rattle.account_keeper.specs.Record.{FallFrom}
use Rattle.account_keeper.proofs.fitting.fall_from.Given as goal

abbrev pub invariant-loop-left : goal.invariant-loop-left
invariant-loop-left l = record {
  onward : FallFrom l.latest l.past → FallFrom l.before l.left;
  back : FallFrom l.before l.left → FallFrom l.latest l.past;
}

abbrev pub decreases-loop-left : goal.decreases-loop-left
decreases-loop-left l = length l.left
