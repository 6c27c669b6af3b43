use Rattle.std.proofs.Common.{◌+◌, ◌≤◌, length}
use Rattle.script_text.proofs.Standing.{Stands}
use Rattle.script_text.proofs.read_lines.Given as goal

abbrev pub invariant-lines : goal.invariant-lines
invariant-lines l = record {
  stands : Stands l.text l.rest l.said l.number;
  bound : l.number + length l.rest ≤ length l.text + 1;
}

abbrev pub decreases-lines : goal.decreases-lines
decreases-lines l = length l.rest
