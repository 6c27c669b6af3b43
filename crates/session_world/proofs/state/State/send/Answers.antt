use Rattle.session_world.proofs.Happening.{follows_so, is_there_there, printed_so, sent_goes, sent_rests}
use Rattle.session_world.specs.Sessions.{world_of}
use Rattle.session_world.specs.Worlds.{more_at}
use Rattle.session_world.proofs.state.State.send.Goals as goal

pub returns-in_ok-held-in-Some-clause-left : goal.returns-in_ok-held-in-Some-clause-left
returns-in_ok-held-in-Some-clause-left c places at =
    follows_so _ _ c.resume.result _ _
    (sent_goes (world_of c.args.self.now.table places) c.args.number c.args.bytes.now (places c.args.number) (c.in-Some.ensures places at).1.0 (c.in-Some.ensures places at).1.1
    (is_there_there c.args.number (c.in-Some.ensures places at).1.0 c.in-Some.held _ _ (c.in-Some.ensures places at).1.2 c.is_peer_there.ensures c.if-is_peer_there.true))
    (c.resume.ensures.left places (more_at (c.in-Some.ensures places at).1.0 c.args.bytes.now) (c.in-Some.ensures places at).0
    (c.in_ok-held-in-Some.ensures {u = tt} c.args.number (c.in-Some.ensures places at).1.0 (c.in-Some.ensures places at).1.2))

pub returns-in_ok-held-in-Some-clause-printed : goal.returns-in_ok-held-in-Some-clause-printed
returns-in_ok-held-in-Some-clause-printed c places at =
    printed_so _ _ c.resume.result _ _
    (sent_goes (world_of c.args.self.now.table places) c.args.number c.args.bytes.now (places c.args.number) (c.in-Some.ensures places at).1.0 (c.in-Some.ensures places at).1.1
    (is_there_there c.args.number (c.in-Some.ensures places at).1.0 c.in-Some.held _ _ (c.in-Some.ensures places at).1.2 c.is_peer_there.ensures c.if-is_peer_there.true))
    (c.resume.ensures.printed places (more_at (c.in-Some.ensures places at).1.0 c.args.bytes.now)
    (c.in_ok-held-in-Some.ensures {u = tt} c.args.number (c.in-Some.ensures places at).1.0 (c.in-Some.ensures places at).1.2))

pub returns-else-is_peer_there-clause-left : goal.returns-else-is_peer_there-clause-left
returns-else-is_peer_there-clause-left c places at =
    follows_so _ _ c.rest.result _ _
    (sent_rests (world_of c.args.self.now.table places) c.args.number c.args.bytes.now (places c.args.number) (c.in-Some.ensures places at).1.0 (c.in-Some.ensures places at).1.1
    (is_there_there c.args.number (c.in-Some.ensures places at).1.0 c.in-Some.held _ _ (c.in-Some.ensures places at).1.2 c.is_peer_there.ensures c.if-is_peer_there.false))
    (c.rest.ensures.left places (c.in-Some.ensures places at).1.0 (c.in-Some.ensures places at).0 (c.in-Some.ensures places at).1.1 (c.in-Some.ensures places at).1.2)
