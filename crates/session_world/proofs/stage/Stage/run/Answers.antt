use Rattle.std.proofs.Common.{◌∙◌, arith}
use Rattle.session_world.specs.Replays.{task}
use Rattle.session_world.proofs.Staging.{leaves_as}
use Rattle.session_world.proofs.Turnwise.{running_is, went_all, went_none, went_on}
use Rattle.session_world.proofs.stage.Stage.run.Goals as goal

pub turns-init : goal.turns-init
turns-init c = record {
  within = omega (arith);
  went = λ r m. went_none r c.args.number c.args.self.now c.args.out.now m;
}

pub turns-preserved : goal.turns-preserved
turns-preserved c = record {
  within = omega (arith, c.turns-test.true);
  went = λ r m. went_on r c.args.number c.turns._turn c.turns.self c.args.out.now c.turns.out c.turn.new.self c.turn.new.out
      (c.turns.invariant.went r m) c.turns-test.true (λ s t. c.in_ok-turn.ensures {u = tt} s t);
}

pub returns : goal.returns
returns c r m =
    leaves_as _ _ _ _ _ (running_is r c.args.number (task r c.args.number) (λ rests. c.in_default.not-Rests (c.task.ensures r m ∙ rests)))
    (went_all r c.args.number c.turns._turn c.turns.self c.args.out.now c.turns.out (c.turns.invariant.went r m) (λ few. omega (arith, few, c.turns-test.false)))
