use Rattle.std.proofs.Common.{◌∙◌, refl}
use Rattle.lg_outside.specs.Faults.{Rose}
use Rattle.serve_talk.specs.Paths.{Halts}
use Rattle.session_serve.specs.Saying.{Broke, Said}
use Rattle.session_serve.specs.Standing.{GoesOn, point_of, stands_of}
use Rattle.session_talk.specs.declared.inputs.Input.TheVariants as input
use Rattle.session_serve.proofs.Goes.{broke_from, expected, if_err, if_ok, packet_broke, packet_goes_on, ready_answered, rose_from, stops_closed, stops_failed, stops_faulty, stops_unread}
use Rattle.session_serve.proofs.reading.hear.Goals as goal

pub give-requires-clause-answers : goal.give-requires-clause-answers
give-requires-clause-answers g c = (ready_answered c.args.session.now c.args.frames.now c.args.held.now c.args.want c.requires.ready (input.Packet c.in-Ok.packet) refl).0

pub give-requires-clause-asked : goal.give-requires-clause-asked
give-requires-clause-asked g c = (ready_answered c.args.session.now c.args.frames.now c.args.held.now c.args.want c.requires.ready (input.Packet c.in-Ok.packet) refl).1

pub break_off-requires-clause-answers : goal.break_off-requires-clause-answers
break_off-requires-clause-answers g c = (ready_answered c.args.session.now c.args.frames.now c.args.held.now c.args.want c.requires.ready (input.Frame c.in-Err-Faulty.fault) refl).0

pub break_off-requires-clause-asked : goal.break_off-requires-clause-asked
break_off-requires-clause-asked g c = (ready_answered c.args.session.now c.args.frames.now c.args.held.now c.args.want c.requires.ready (input.Frame c.in-Err-Faulty.fault) refl).1

pub returns-in-Ok-clause-goes_on : goal.returns-in-Ok-clause-goes_on
returns-in-Ok-clause-goes_on g c begun side keeps =
    if_ok (Said (stands_of c.args.session.now) (input.Packet c.in-Ok.packet) (stands_of c.give.new.session) (g.L.Link.told c.read_packet.new.link) (g.L.Link.told c.give.new.link))
    (GoesOn begun (point_of c.args.session.now c.args.frames.now c.args.held.now (g.L.Link.told c.args.link.now) side) c.give.new.session c.read_packet.new.frames c.read.new.self (g.L.Link.told c.give.new.link) side)
    c.give.result
    (λ next said. packet_goes_on c.args.session.now c.args.frames.now c.args.held.now (g.L.Link.told c.args.link.now) side c.args.want c.requires.ready c.read.new.self c.read.ensures (g.L.Link.told c.read_packet.new.link) c.in-Ok.packet c.read_packet.new.frames
    (c.in-Ok.ensures.packet c.args.want c.args.frames.now.start (c.expect.ensures ∙ (expected c.args.frames.now c.requires.ready.id c.args.want c.requires.ready.reader).1)) c.give.new.session (g.L.Link.told c.give.new.link) begun next keeps said)
    c.give.ensures.said

pub returns-in-Ok-clause-halts : goal.returns-in-Ok-clause-halts
returns-in-Ok-clause-halts g c side =
    if_err (Broke (stands_of c.args.session.now) (input.Packet c.in-Ok.packet) (g.L.Link.told c.read_packet.new.link) (g.L.Link.told c.give.new.link) (Rose (g.L.Link.fault_count c.read_packet.new.link) (g.L.Link.fault_count c.give.new.link)))
    (Halts (point_of c.args.session.now c.args.frames.now c.args.held.now (g.L.Link.told c.args.link.now) side) (record { link = g.L.Link.told c.give.new.link; side = side }) (Rose (g.L.Link.fault_count c.args.link.now) (g.L.Link.fault_count c.give.new.link)))
    c.give.result
    (λ how broke. packet_broke c.args.session.now c.args.frames.now c.args.held.now (g.L.Link.told c.args.link.now) side c.args.want c.requires.ready c.read.new.self c.read.ensures (g.L.Link.told c.read_packet.new.link) c.in-Ok.packet c.read_packet.new.frames
    (c.in-Ok.ensures.packet c.args.want c.args.frames.now.start (c.expect.ensures ∙ (expected c.args.frames.now c.requires.ready.id c.args.want c.requires.ready.reader).1)) (g.L.Link.told c.give.new.link) (Rose (g.L.Link.fault_count c.args.link.now) (g.L.Link.fault_count c.give.new.link)) how
    (broke_from (Rose (g.L.Link.fault_count c.read_packet.new.link) (g.L.Link.fault_count c.give.new.link)) (Rose (g.L.Link.fault_count c.args.link.now) (g.L.Link.fault_count c.give.new.link)) (λ rose. rose_from (g.L.Link.fault_count c.args.link.now) (g.L.Link.fault_count c.read_packet.new.link) (g.L.Link.fault_count c.give.new.link) c.in-Ok.ensures.rising rose)
    (stands_of c.args.session.now) (input.Packet c.in-Ok.packet) (g.L.Link.told c.read_packet.new.link) (g.L.Link.told c.give.new.link) how broke))
    c.give.ensures.broke

pub returns-in-Err-Faulty-clause-halts : goal.returns-in-Err-Faulty-clause-halts
returns-in-Err-Faulty-clause-halts g c side =
    stops_faulty c.args.session.now c.args.frames.now c.args.held.now (g.L.Link.told c.args.link.now) side c.args.want c.requires.ready (g.L.Link.told c.read_packet.new.link) (g.L.Link.told c.break_off.new.link) (Rose (g.L.Link.fault_count c.args.link.now) (g.L.Link.fault_count c.read_packet.new.link)) (Rose (g.L.Link.fault_count c.args.link.now) (g.L.Link.fault_count c.break_off.new.link))
    c.in-Err-Faulty.fault c.break_off.result c.in-Err-Faulty.field-0 (c.in-Err-Faulty.ensures.stops c.args.want c.args.frames.now.start (c.expect.ensures ∙ (expected c.args.frames.now c.requires.ready.id c.args.want c.requires.ready.reader).1)) c.in-Err-Faulty.field-0-is
    (broke_from (Rose (g.L.Link.fault_count c.read_packet.new.link) (g.L.Link.fault_count c.break_off.new.link)) (Rose (g.L.Link.fault_count c.args.link.now) (g.L.Link.fault_count c.break_off.new.link)) (λ rose. rose_from (g.L.Link.fault_count c.args.link.now) (g.L.Link.fault_count c.read_packet.new.link) (g.L.Link.fault_count c.break_off.new.link) c.in-Err-Faulty.ensures.rising rose)
    (stands_of c.args.session.now) (input.Frame c.in-Err-Faulty.fault) (g.L.Link.told c.read_packet.new.link) (g.L.Link.told c.break_off.new.link) c.break_off.result c.break_off.ensures.broke)

pub returns-in-Err-Closed-clause-halts : goal.returns-in-Err-Closed-clause-halts
returns-in-Err-Closed-clause-halts g c side =
    stops_closed c.args.session.now c.args.frames.now c.args.held.now (g.L.Link.told c.args.link.now) side c.args.want c.requires.ready (g.L.Link.told c.read_packet.new.link) (Rose (g.L.Link.fault_count c.args.link.now) (g.L.Link.fault_count c.read_packet.new.link)) c.in-Err-Closed.cut c.in-Err-Closed.field-0
    (c.in-Err-Closed.ensures.stops c.args.want c.args.frames.now.start (c.expect.ensures ∙ (expected c.args.frames.now c.requires.ready.id c.args.want c.requires.ready.reader).1)) c.in-Err-Closed.field-0-is

pub returns-in-Err-Failed-clause-halts : goal.returns-in-Err-Failed-clause-halts
returns-in-Err-Failed-clause-halts g c side =
    stops_failed c.args.session.now c.args.frames.now c.args.held.now (g.L.Link.told c.args.link.now) side c.args.want c.requires.ready (g.L.Link.told c.read_packet.new.link) (Rose (g.L.Link.fault_count c.args.link.now) (g.L.Link.fault_count c.read_packet.new.link)) c.in-Err-Failed.field-0
    (c.in-Err-Failed.ensures.stops c.args.want c.args.frames.now.start (c.expect.ensures ∙ (expected c.args.frames.now c.requires.ready.id c.args.want c.requires.ready.reader).1)) c.in-Err-Failed.field-0-is

pub returns-in-Err-Memory-clause-halts : goal.returns-in-Err-Memory-clause-halts
returns-in-Err-Memory-clause-halts g c side =
    stops_unread c.args.session.now c.args.frames.now c.args.held.now (g.L.Link.told c.args.link.now) side c.args.want c.requires.ready (g.L.Link.told c.read_packet.new.link) (Rose (g.L.Link.fault_count c.args.link.now) (g.L.Link.fault_count c.read_packet.new.link)) c.in-Err-Memory.field-0
    (c.in-Err-Memory.ensures.stops c.args.want c.args.frames.now.start (c.expect.ensures ∙ (expected c.args.frames.now c.requires.ready.id c.args.want c.requires.ready.reader).1)) c.in-Err-Memory.field-0-is
