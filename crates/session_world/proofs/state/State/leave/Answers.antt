use Rattle.session_world.proofs.Happening.{follows_so, is_there_there, left_goes, left_rests, printed_so}
use Rattle.session_world.specs.Sessions.{world_of}
use Rattle.session_world.specs.Worlds.{Place}
use Rattle.session_world.proofs.state.State.leave.Goals as goal

left : Place → goal.After-resume → Place
left place c = record place { peer = c.args.peer }

pub returns-then-is_peer_there-clause-left : goal.returns-then-is_peer_there-clause-left
unfolding left
returns-then-is_peer_there-clause-left c places at =
    follows_so _ _ c.resume.result _ _
    (left_goes (world_of c.args.self.now.table places) c.args.number c.args.peer (places c.args.number) (c.in-Some.ensures places at).1.0 (c.in-Some.ensures places at).1.1
    (is_there_there c.args.number (c.in-Some.ensures places at).1.0 c.in-Some.held _ _ (c.in-Some.ensures places at).1.2 c.is_peer_there.ensures c.if-is_peer_there.true))
    (c.resume.ensures.left places (left (c.in-Some.ensures places at).1.0 c) (c.in-Some.ensures places at).0
    (c.with_peer.ensures c.args.number (c.in-Some.ensures places at).1.0 (c.in-Some.ensures places at).1.2))

pub returns-then-is_peer_there-clause-printed : goal.returns-then-is_peer_there-clause-printed
unfolding left
returns-then-is_peer_there-clause-printed c places at =
    printed_so _ _ c.resume.result _ _
    (left_goes (world_of c.args.self.now.table places) c.args.number c.args.peer (places c.args.number) (c.in-Some.ensures places at).1.0 (c.in-Some.ensures places at).1.1
    (is_there_there c.args.number (c.in-Some.ensures places at).1.0 c.in-Some.held _ _ (c.in-Some.ensures places at).1.2 c.is_peer_there.ensures c.if-is_peer_there.true))
    (c.resume.ensures.printed places (left (c.in-Some.ensures places at).1.0 c)
    (c.with_peer.ensures c.args.number (c.in-Some.ensures places at).1.0 (c.in-Some.ensures places at).1.2))

pub returns-else-is_peer_there-clause-left : goal.returns-else-is_peer_there-clause-left
returns-else-is_peer_there-clause-left c places at =
    follows_so _ _ c.rest.result _ _
    (left_rests (world_of c.args.self.now.table places) c.args.number c.args.peer (places c.args.number) (c.in-Some.ensures places at).1.0 (c.in-Some.ensures places at).1.1
    (is_there_there c.args.number (c.in-Some.ensures places at).1.0 c.in-Some.held _ _ (c.in-Some.ensures places at).1.2 c.is_peer_there.ensures c.if-is_peer_there.false))
    (c.rest.ensures.left places (c.in-Some.ensures places at).1.0 (c.in-Some.ensures places at).0 (c.in-Some.ensures places at).1.1 (c.in-Some.ensures places at).1.2)
