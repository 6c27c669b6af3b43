use Rattle.std.proofs.Common.{ap, sym, ◌∙◌, subst, ℕ, List, Option, Some, arith}
use Rattle.lg_outside.specs.Faults.{Rose}
use Rattle.login_client.specs.Acting.{Acts}
use Rattle.login_client.specs.Clients.{talk_of}
use Rattle.login_client.specs.Exchange.{EndsAs}
use Rattle.login_client.specs.declared.ends.LoginEnd.{LoginEnd}
use Rattle.packet_stream.specs.Sent.{id_behind}
use Rattle.login_client.specs.declared.ends.ClientAct.{ClientAct}
use Rattle.login_client.proofs.Turns.{heard-done, heard-fails, heard-nothing, heard-says, heard-waits, held-between, stop-ends}
use Rattle.login_client.proofs.logins.turn.Goals as goal

pub returns-in-Err-clause-ends : goal.returns-in-Err-clause-ends
returns-in-Err-clause-ends g c id place n is h =
    subst (λ (end : LoginEnd). EndsAs (talk_of c.args.client.now) id place (g.L.Link.told c.args.link.now) (g.L.Link.told c.read_packet.new.link) (Rose (g.L.Link.fault_count c.args.link.now) (g.L.Link.fault_count c.read_packet.new.link)) end)
    (sym c.end_of_read.ensures) (stop-ends _ id place _ _ _ c.in-Err.end c.requires.waits (c.in-Err.ensures.stops id place is))

pub returns-in-Err-on-clause-ends : goal.returns-in-Err-on-clause-ends
returns-in-Err-on-clause-ends g c id place n is h = heard-nothing _ id place _ _ c.in-Ok.packet _ _ c.requires.waits (c.in-Ok.ensures.packet id place is)

pub returns-in-None-clause-goes_on : goal.returns-in-None-clause-goes_on
returns-in-None-clause-goes_on g c id place n is h =
    heard-waits n _ id place _ _ c.in-Ok.packet _ _ c.requires.waits h (c.in-Ok.ensures.packet id place is)
    (subst (λ (act : Option ClientAct). Acts (talk_of c.args.client.now) c.in-Ok.packet act (talk_of c.on.new.self)) c.in-None.is c.in-Ok-on.ensures.acts)

pub returns-in-Some-Done-clause-ends : goal.returns-in-Some-Done-clause-ends
returns-in-Some-Done-clause-ends g c id place n is h =
    heard-done n _ id place _ _ c.in-Ok.packet _ _ c.in-Some-Done.end (talk_of c.on.new.self) c.requires.waits h (c.in-Ok.ensures.packet id place is)
    (subst (λ (act : Option ClientAct). Acts (talk_of c.args.client.now) c.in-Ok.packet act (talk_of c.on.new.self))
    (c.in-Some-Done.is ∙ ap (λ (act : ClientAct). Some act) c.in-Some-Done.field-0-is) c.in-Ok-on.ensures.acts)

pub expect-requires : goal.expect-requires
expect-requires g c =
    let (id, place, is, small) = c.requires.begun in
    let read = c.in-Ok.ensures.packet id place is in
    held-between c.read_packet.new.frames _ _ read.now_is

pub returns-in-Ok-write_packets-clause-goes_on : goal.returns-in-Ok-write_packets-clause-goes_on
returns-in-Ok-write_packets-clause-goes_on g c id place n is h =
    heard-says n _ id place _ (g.L.Link.told c.read_packet.new.link) _ c.in-Ok.packet c.read_packet.new.frames _ c.in-Some-Send.first c.in-Some-Send.payload (talk_of c.on.new.self) c.id_behind-next.result
    c.requires.waits h (c.in-Ok.ensures.packet id place is)
    (subst (λ (act : Option ClientAct). Acts (talk_of c.args.client.now) c.in-Ok.packet act (talk_of c.on.new.self))
    (c.in-Some-Send.is ∙ ap (λ (act : ClientAct). Some act) c.in-Some-Send.field-0-is) c.in-Ok-on.ensures.acts)
    c.in-Ok-write_packets.ensures.sent
    (c.id_behind-next.ensures ∙ ap (λ (payload : List ℕ). id_behind c.in-Some-Send.first payload) c.as_slice.ensures)
    c.expect.ensures

pub returns-clause-ends : goal.returns-clause-ends
returns-clause-ends g c id place n is h =
    subst (λ (end : LoginEnd). EndsAs (talk_of c.args.client.now) id place (g.L.Link.told c.args.link.now) (g.L.Link.told c.write_packets.new.link) (Rose (g.L.Link.fault_count c.args.link.now) (g.L.Link.fault_count c.write_packets.new.link)) end)
    (sym c.end_of_write.ensures)
    (heard-fails _ id place _ (g.L.Link.told c.read_packet.new.link) _ c.in-Ok.packet c.read_packet.new.frames c.in-Some-Send.first c.in-Some-Send.payload (talk_of c.on.new.self)
    (Rose (g.L.Link.fault_count c.read_packet.new.link) (g.L.Link.fault_count c.write_packets.new.link)) _ c.in-Err-write_packets.end
    c.requires.waits (c.in-Ok.ensures.packet id place is)
    (subst (λ (act : Option ClientAct). Acts (talk_of c.args.client.now) c.in-Ok.packet act (talk_of c.on.new.self))
    (c.in-Some-Send.is ∙ ap (λ (act : ClientAct). Some act) c.in-Some-Send.field-0-is) c.in-Ok-on.ensures.acts)
    (λ rises. omega (arith, rises, c.read_packet.ensures.rising))
    c.in-Err-write_packets.ensures.cut)
