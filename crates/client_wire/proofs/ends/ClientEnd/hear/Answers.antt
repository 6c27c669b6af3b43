use Rattle.std.proofs.Common.{◌≡◌, ap, sym, ◌∙◌, subst, List, ℕ, Option, Some, ◌++◌}
use Rattle.packet_stream.specs.Sent.{id_behind}
use Rattle.login_client.specs.Acting.{Acts}
use Rattle.login_client.specs.Clients.{talk_of}
use Rattle.login_client.specs.declared.ends.ClientAct.{ClientAct}
use Rattle.client_wire.specs.Ends.{LeadsTo, Standing, heard_by, standing_of}
use Rattle.packet_stream.specs.Packing.{packet_text}
use Rattle.client_wire.proofs.Turning.{ends-on, hears-on, says-on}
use Rattle.client_wire.proofs.ends.ClientEnd.hear.Goals as goal

pub returns-in-None-clause-leads : goal.returns-in-None-clause-leads
unfolding standing_of
returns-in-None-clause-leads c =
    (hears-on c.args.self.now.next c.args.self.now.client c.on.new.self c.args.self.now.ended c.args.packet.now c.args.self.now.inbox c.args.out.now c.requires
    (subst (λ (act : Option ClientAct). Acts (talk_of c.args.self.now.client) c.args.packet.now act (talk_of c.on.new.self)) c.in-None.is c.in_ok-act.ensures.acts)).0

pub returns-in_ok-self-in-Some-Send-clause-leads : goal.returns-in_ok-self-in-Some-Send-clause-leads
unfolding standing_of
returns-in_ok-self-in-Some-Send-clause-leads c =
    (says-on c.args.self.now.next c.args.self.now.client c.on.new.self c.args.self.now.ended c.args.packet.now c.args.self.now.inbox c.args.out.now
    c.in-Some-Send.first _ c.in-Some-Send.payload _ c.requires
    (subst (λ (act : Option ClientAct). Acts (talk_of c.args.self.now.client) c.args.packet.now act (talk_of c.on.new.self))
    (c.in-Some-Send.is ∙ ap (λ (act : ClientAct). Some act) c.in-Some-Send.field-0-is) c.in_ok-act.ensures.acts)
    (subst (λ (payload : List ℕ). c.add_packet.new.out ≡ c.args.out.now ++ packet_text c.in-Some-Send.first payload) c.as_slice.ensures c.in_ok-self-in-Some-Send.ensures.text)
    (subst (λ (payload : List ℕ). c.in_ok-self-in-Some-Send.field-0 ≡ id_behind c.in-Some-Send.first payload) c.as_slice.ensures c.in_ok-self-in-Some-Send.ensures.next)).0

pub returns-in-Some-Done-clause-leads : goal.returns-in-Some-Done-clause-leads
unfolding standing_of
returns-in-Some-Done-clause-leads c =
    subst (λ (s : Standing). LeadsTo (heard_by c.args.packet.now (standing_of c.args.self.now)) s c.args.out.now c.args.out.now) (sym c.end.ensures.over)
    (ends-on c.args.self.now.next c.args.self.now.client c.on.new.self c.args.self.now.ended c.args.packet.now c.args.self.now.inbox c.args.out.now c.in-Some-Done.end c.requires
    (subst (λ (act : Option ClientAct). Acts (talk_of c.args.self.now.client) c.args.packet.now act (talk_of c.on.new.self))
    (c.in-Some-Done.is ∙ ap (λ (act : ClientAct). Some act) c.in-Some-Done.field-0-is) c.in_ok-act.ensures.acts))
