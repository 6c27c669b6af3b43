use Rattle.session_world.proofs.Giving.{on_ok}
use Rattle.session_world.proofs.Happening.{all_beside, follows_so}
use Rattle.session_world.specs.Sessions.{world_of}
use Rattle.session_world.specs.Worlds as world
use Rattle.session_world.proofs.state.State.open.Goals as goal
use Rattle.std.proofs.Common.{ap, Option}

pub returns-in_ok-held-in-None-clause-left : goal.returns-in_ok-held-in-None-clause-left
returns-in_ok-held-in-None-clause-left c places at =
    follows_so _ _ c.keep.result _ _ (ap (λ (o : Option world.Place). world.moved (world_of c.args.self.now.table places) (world.opening (world_of c.args.self.now.table places) c.args.number o)) (c.in-None.ensures places at).1)
    (on_ok c.keep.result
    (c.keep.ensures places _ (all_beside c.args.number c.take.new.sessions places (c.in-None.ensures places at).0 (c.in-None.ensures places at).1) (c.in_ok-held-in-None.ensures {u = tt}).there)
    (λ now. record { common_is = (c.in_ok-held-in-None.ensures {u = tt}).common; are_at = now }))
