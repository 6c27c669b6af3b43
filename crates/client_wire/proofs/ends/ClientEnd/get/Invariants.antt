use Rattle.std.proofs.Common.{length}
use Rattle.client_wire.specs.Ends.{LeadsTo, standing_of, with_bytes}
use Rattle.login_client.specs.Talk.{IsWaiting}
use Rattle.client_wire.proofs.ends.ClientEnd.get.Given as goal

abbrev pub invariant-turns : goal.invariant-turns
invariant-turns l = record {
  leads : LeadsTo (with_bytes (standing_of l.fn.self) l.fn.bytes) (standing_of l.self) l.fn.out l.out;
  waits : IsWaiting (standing_of l.self).at;
}

abbrev pub decreases-turns : goal.decreases-turns
decreases-turns l = length l.self.inbox.bytes
