use Rattle.std.proofs.Common.{ap}
use Rattle.session_world.specs.Replays.{tells_if}
use Rattle.session_world.proofs.Giving.{on_ok}
use Rattle.session_world.proofs.Staging.{alters_so}
use Rattle.session_world.proofs.stage.Stage.hand_down.Goals as goal

pub returns : goal.returns
returns c r b =
    on_ok c.keep.result (c.keep.ensures r.clients b.clients)
    (λ now. alters_so r c.args.number _ _ _ _ _ _ _ b.common b.places now (c.in_ok-held.ensures {u = tt}).client
    (ap (tells_if c.args.number) (c.in_ok-held.ensures {u = tt}).told) (c.in_ok-print_if_told.ensures {u = tt}))
