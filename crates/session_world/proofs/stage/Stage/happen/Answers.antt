use Rattle.std.proofs.Common.{ap, sym, append-nil}
use Rattle.session_world.proofs.Giving.{on_ok}
use Rattle.session_world.proofs.Staging.{leaves_as}
use Rattle.session_world.specs.Replays.{happens}
use Rattle.session_world.proofs.stage.Stage.happen.Goals as goal

pub returns-in-Clock : goal.returns-in-Clock
returns-in-Clock c r m = leaves_as _ _ _ _ _ (ap (happens r) c.in-Clock.is) (record { stands = c.set_clock.ensures r m; printed = sym (append-nil c.args.out.now) })

pub returns-in-FailKeeper : goal.returns-in-FailKeeper
returns-in-FailKeeper c r m =
    on_ok c.fail_keeper.result (c.fail_keeper.ensures r m)
    (λ stands. leaves_as _ _ _ _ _ (ap (happens r) c.in-FailKeeper.is) (record { stands = stands; printed = sym (append-nil c.args.out.now) }))
