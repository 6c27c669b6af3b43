use Rattle.session_world.proofs.Giving.{on_ok}
use Rattle.session_world.proofs.Happening.{put_back}
use Rattle.session_world.proofs.state.State.rest.Goals as goal
use Rattle.std.proofs.Common.{refl}

pub returns-clause-left : goal.returns-clause-left
returns-clause-left c places place beside is at = on_ok c.keep.result (c.keep.ensures places place beside at)
    (λ now. record { common_is = refl; are_at = put_back c.args.number c.keep.new.sessions places place is now })
