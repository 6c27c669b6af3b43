use Rattle.std.proofs.Common.{subst, sym, ap, not}
use Rattle.session_engine.specs.Standing.{next_of, talk_of_session}
use Rattle.session_world.specs.Leading.{Leads, Rests}
use Rattle.packet_stream.specs.Inbox.{Takes}
use Rattle.packet_stream.specs.declared.inbox.Found.{Found}
use Rattle.session_world.specs.declared.calls.Peer.{Peer}
use Rattle.session_world.proofs.Turned.{closed_leads, failed_leads, fault_leads, packet_leads, waits_rests}
use Rattle.session_world.proofs.turns.read.Goals as goal

pub returns-in_ok-act-in-Packet-clause-leads : goal.returns-in_ok-act-in-Packet-clause-leads
returns-in_ok-act-in-Packet-clause-leads c calls d =
    packet_leads _ _ _ _ _ _ _ _ calls d _ _ c.args.want c.in-Packet.packet c.requires.begun c.requires.asked
    (subst (λ (f : Found). Takes c.args.want c.args.seat.now.inbox c.take.new.self f) c.in-Packet.is (c.in_ok-packet.ensures {u = tt}).ok)
    (c.in_ok-act-in-Packet.ensures {u = tt}).acted

pub returns-in_ok-act-in-Fault-clause-leads : goal.returns-in_ok-act-in-Fault-clause-leads
returns-in_ok-act-in-Fault-clause-leads c calls d =
    fault_leads _ _ _ _ _ _ _ _ calls d _ _ c.args.want c.in-Fault.fault c.requires.begun c.requires.asked
    (subst (λ (f : Found). Takes c.args.want c.args.seat.now.inbox c.take.new.self f) c.in-Fault.is (c.in_ok-packet.ensures {u = tt}).ok)
    (c.in_ok-act-in-Fault.ensures {u = tt}).acted

pub returns-in-Open-clause-rests : goal.returns-in-Open-clause-rests
returns-in-Open-clause-rests c calls d =
    subst (λ (p : Peer). Rests c.args.seat.now.number p c.args.out.now d (next_of c.args.seat.now.session) (talk_of_session c.args.seat.now.session) c.take.new.self
    c.args.out.now calls d (next_of c.args.seat.now.session) (talk_of_session c.args.seat.now.session) c.args.seat.now.inbox) (sym c.in-Open.is)
    (waits_rests _ calls d _ _ _ _ c.args.want _ c.requires.begun c.requires.asked (subst (λ (f : Found). Takes c.args.want c.args.seat.now.inbox c.take.new.self f) c.in-Nothing.is (c.in_ok-packet.ensures {u = tt}).ok))

pub returns-in_ok-act-in-Closed-clause-leads : goal.returns-in_ok-act-in-Closed-clause-leads
returns-in_ok-act-in-Closed-clause-leads c calls d =
    subst (λ (p : Peer). Leads c.args.seat.now.number p c.act-in-Closed.new.out calls d (next_of c.act-in-Closed.new.session) (talk_of_session c.act-in-Closed.new.session) c.take.new.self
    c.args.out.now calls d (next_of c.args.seat.now.session) (talk_of_session c.args.seat.now.session) c.args.seat.now.inbox) (sym c.in-Closed.is)
    (closed_leads _ _ _ _ _ _ _ calls d _ _ c.args.want _ c.requires.begun c.requires.asked (subst (λ (f : Found). Takes c.args.want c.args.seat.now.inbox c.take.new.self f) c.in-Nothing.is (c.in_ok-packet.ensures {u = tt}).ok) (ap not c.is_empty-cut.ensures) (c.in_ok-act-in-Closed.ensures {u = tt}).acted)

pub returns-in_ok-act-in-Failed-clause-leads : goal.returns-in_ok-act-in-Failed-clause-leads
returns-in_ok-act-in-Failed-clause-leads c calls d =
    subst (λ (p : Peer). Leads c.args.seat.now.number p c.act-in-Failed.new.out calls d (next_of c.act-in-Failed.new.session) (talk_of_session c.act-in-Failed.new.session) c.take.new.self
    c.args.out.now calls d (next_of c.args.seat.now.session) (talk_of_session c.args.seat.now.session) c.args.seat.now.inbox) (sym c.in-Failed.is)
    (failed_leads _ _ _ _ _ _ _ calls d _ _ c.args.want c.requires.begun c.requires.asked (subst (λ (f : Found). Takes c.args.want c.args.seat.now.inbox c.take.new.self f) c.in-Nothing.is (c.in_ok-packet.ensures {u = tt}).ok) (c.in_ok-act-in-Failed.ensures {u = tt}).acted)
