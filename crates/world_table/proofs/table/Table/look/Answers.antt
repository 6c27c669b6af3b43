use Rattle.world_table.proofs.Counted.{after_look}
use Rattle.world_table.proofs.table.Table.look.Goals as goal

pub invariant_of-self : goal.invariant_of-self
invariant_of-self c =
    after_look c.self.inside.accounts c.observed.new.self c.self.inside.entries c.self.inside.opened c.self.inside.refused c.self.inside.faults c.self.inside.keeper.plan.faults c.in_ok-entries.entries
    c.self.invariant (c.in_ok-entries.ensures {u = tt}) c.args.who.now c.in_ok-look.look c.observed.ensures
