use Rattle.session_world.proofs.Administering.{put_administered}
use Rattle.session_world.proofs.Giving.{on_ok}
use Rattle.session_world.proofs.state.State.administer.Goals as goal

pub returns-clause-left : goal.returns-clause-left
returns-clause-left c places at = on_ok c.administer.result c.administer.ensures.common (λ is. record { common_is = is; are_at = at })

pub returns-clause-printed : goal.returns-clause-printed
returns-clause-printed c places =
    on_ok c.administer.result c.administer.ensures.printed (λ is. put_administered c.args.self.now.table c.args.statement.now c.args.out.now _ is)
