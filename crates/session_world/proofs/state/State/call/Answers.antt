use Rattle.session_world.proofs.Happening.{called_goes, called_rests, follows_so, printed_so, waits_there}
use Rattle.session_world.specs.Sessions.{world_of}
use Rattle.session_world.proofs.state.State.call.Goals as goal

pub returns-then-waits_for_call-clause-left : goal.returns-then-waits_for_call-clause-left
returns-then-waits_for_call-clause-left c places at =
    follows_so _ _ c.resume.result _ _
    (called_goes (world_of c.args.self.now.table places) c.args.number c.args.calls (places c.args.number) (c.in-Some.ensures places at).1.0 (c.in-Some.ensures places at).1.1
    (waits_there c.args.number (c.in-Some.ensures places at).1.0 c.in-Some.held _ _ (c.in-Some.ensures places at).1.2 c.waits_for_call.ensures c.if-waits_for_call.true))
    (c.resume.ensures.left places (c.in-Some.ensures places at).1.0 (c.in-Some.ensures places at).0 (c.in-Some.ensures places at).1.2)

pub returns-else-waits_for_call-clause-left : goal.returns-else-waits_for_call-clause-left
returns-else-waits_for_call-clause-left c places at =
    follows_so _ _ c.rest.result _ _
    (called_rests (world_of c.args.self.now.table places) c.args.number c.args.calls (places c.args.number) (c.in-Some.ensures places at).1.0 (c.in-Some.ensures places at).1.1
    (waits_there c.args.number (c.in-Some.ensures places at).1.0 c.in-Some.held _ _ (c.in-Some.ensures places at).1.2 c.waits_for_call.ensures c.if-waits_for_call.false))
    (c.rest.ensures.left places (c.in-Some.ensures places at).1.0 (c.in-Some.ensures places at).0 (c.in-Some.ensures places at).1.1 (c.in-Some.ensures places at).1.2)

pub returns-then-waits_for_call-clause-printed : goal.returns-then-waits_for_call-clause-printed
returns-then-waits_for_call-clause-printed c places at =
    printed_so _ _ c.resume.result _ _
    (called_goes (world_of c.args.self.now.table places) c.args.number c.args.calls (places c.args.number) (c.in-Some.ensures places at).1.0 (c.in-Some.ensures places at).1.1
    (waits_there c.args.number (c.in-Some.ensures places at).1.0 c.in-Some.held _ _ (c.in-Some.ensures places at).1.2 c.waits_for_call.ensures c.if-waits_for_call.true))
    (c.resume.ensures.printed places (c.in-Some.ensures places at).1.0 (c.in-Some.ensures places at).1.2)
