use Rattle.session_serve.proofs.Goes.{frame_ends}
use Rattle.session_serve.specs.Standing.{stands_of}
use Rattle.session_serve.proofs.reading.break_off.Goals as goal

pub unreachable-requires : goal.unreachable-requires
unreachable-requires g c =
    frame_ends (stands_of c.args.session.now) (stands_of c.give.new.session) c.args.fault (g.L.Link.told c.args.link.now) (g.L.Link.told c.give.new.link) _ c.requires.live c.requires.answers
    c.in-Ok.ensures.said
