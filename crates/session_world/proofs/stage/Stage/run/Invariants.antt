use Rattle.std.proofs.Common.{◌≤◌}
use Rattle.session_world.specs.Replays.{Replay}
use Rattle.session_world.specs.Staged.{Stands}
use Rattle.session_world.proofs.Turnwise.{Went}
use Rattle.session_world.proofs.stage.Stage.run.Given as goal

-- what came of the turns so far
abbrev pub invariant-turns : goal.invariant-turns
invariant-turns l = record {
  within : l._turn ≤ 24;
  went : (r : Replay) → Stands l.fn.self r → Went r l.number l._turn l.self l.fn.out l.out;
}
