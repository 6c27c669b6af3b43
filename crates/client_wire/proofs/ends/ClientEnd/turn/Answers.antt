use Rattle.std.proofs.Common.{subst, sym}
use Rattle.client_wire.specs.Ends.{LeadsTo, Standing, standing_of}
use Rattle.packet_stream.specs.Inbox.{Takes}
use Rattle.packet_stream.specs.declared.inbox.Found.{Found}
use Rattle.client_wire.proofs.Turning.{leads-from, leads-same, on_ok, took-fault, took-nothing, took-packet}
use Rattle.client_wire.proofs.ends.ClientEnd.turn.Goals as goal

pub returns-in-Packet-clause-leads : goal.returns-in-Packet-clause-leads
unfolding standing_of
returns-in-Packet-clause-leads c =
    on_ok c.hear.result c.hear.ensures.leads
    (leads-from (standing_of c.args.self.now) _ (standing_of c.hear.new.self) c.args.out.now c.hear.new.out
    (took-packet c.args.self.now.next _ c.args.self.now.inbox c.take.new.self c.requires c.in-Packet.packet
    (subst (λ (f : Found). Takes c.args.self.now.next c.args.self.now.inbox c.take.new.self f) c.in-Packet.is c.in_ok-packet.ensures.ok)))

pub returns-in-Nothing-clause-comes : goal.returns-in-Nothing-clause-comes
unfolding standing_of
returns-in-Nothing-clause-comes c = (
  c.requires,
  took-nothing c.args.self.now.next _ c.args.self.now.inbox c.take.new.self c.requires
      (subst (λ (f : Found). Takes c.args.self.now.next c.args.self.now.inbox c.take.new.self f) c.in-Nothing.is c.in_ok-packet.ensures.ok),
)

pub returns-in-Fault-clause-leads : goal.returns-in-Fault-clause-leads
unfolding standing_of
returns-in-Fault-clause-leads c =
    subst (λ (s : Standing). LeadsTo (standing_of c.args.self.now) s c.args.out.now c.args.out.now) (sym c.end.ensures.over)
    (leads-same _ _ c.args.out.now
    (took-fault c.args.self.now.next _ c.args.self.now.inbox c.take.new.self c.requires c.in-Fault.fault
    (subst (λ (f : Found). Takes c.args.self.now.next c.args.self.now.inbox c.take.new.self f) c.in-Fault.is c.in_ok-packet.ensures.ok)))
