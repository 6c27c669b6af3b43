use Rattle.std.proofs.Common.{◌≡◌, ◌++◌, subst}
use Rattle.client_wire.specs.Ends.{ComesTo, got_by, standing_of, stands_at, with_bytes}
use Rattle.client_wire.specs.declared.ends.Turn.{Turn}
use Rattle.client_wire.proofs.Turning.{all-came, leads-on, over-rests}
use Rattle.client_wire.proofs.ends.ClientEnd.get.Goals as goal

all : (c : goal.In-Ends) → (standing_of c.turn.new.self ≡ stands_at (got_by (with_bytes (standing_of c.args.self.now) c.args.bytes.now)))
    × (c.turn.new.out ≡ c.args.out.now ++ (got_by (with_bytes (standing_of c.args.self.now) c.args.bytes.now)).sent)
all c =
    all-came _ (standing_of c.turn.new.self) c.args.out.now c.turn.new.out
    (leads-on _ (standing_of c.turns.self) (standing_of c.turn.new.self) c.args.out.now c.turns.out c.turn.new.out c.turns.invariant.leads c.in_ok-turn.ensures.leads)
    (over-rests (standing_of c.turn.new.self) c.in-Ends.end
    (subst (λ (t : Turn). ComesTo t (standing_of c.turns.self) (standing_of c.turn.new.self)) c.in-Ends.is c.in_ok-turn.ensures.comes))

pub returns-in-Ends-clause-stands : goal.returns-in-Ends-clause-stands
returns-in-Ends-clause-stands c = (all c).0

pub returns-in-Ends-clause-sent : goal.returns-in-Ends-clause-sent
returns-in-Ends-clause-sent c = (all c).1
