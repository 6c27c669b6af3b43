use Rattle.std.proofs.Common.{◌≡◌, ◌+◌, ◌-◌, ◌≤◌, length}
use Rattle.loginctl.specs.Input.{Held}
use Rattle.loginctl.proofs.input.read_all.Given as goal

abbrev pub invariant-loop-piece : goal.invariant-loop-piece
invariant-loop-piece g l = record {
  piece : length l.piece ≡ 4096;
  held : Held (g.S.Source.left l.fn.input) (g.S.Source.left l.input) l.held.items;
  room : length l.held.items ≤ l.limit + 4096;
  rising : g.S.Source.fault_count l.fn.input ≤ g.S.Source.fault_count l.input;
}

abbrev pub decreases-loop-piece : goal.decreases-loop-piece
decreases-loop-piece g l = l.limit + 1 - length l.held.items
