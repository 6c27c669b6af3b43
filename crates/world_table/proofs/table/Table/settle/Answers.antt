use Rattle.std.proofs.Common.{ap, ◌∙◌, ◌+◌, Bool, cond, not}
use Rattle.world_table.proofs.Counted.{after_attempt}
use Rattle.world_table.proofs.table.Table.settle.Goals as goal

pub invariant_of-self : goal.invariant_of-self
invariant_of-self c =
    after_attempt c.self.inside.accounts c.attempt_here-reply.new.self c.self.inside.entries c.self.inside.opened c.self.inside.refused c.self.inside.faults
    c.self.inside.keeper.plan.faults c.in_ok-entries.entries c.self.invariant (c.in_ok-entries.ensures {u = tt}) _ c.more_where-self-inside.result
    c.more_where-self-inside-2.result c.attempt_here-reply.ensures.entry
    (c.more_where-self-inside.ensures ∙ ap (λ (b : Bool). c.self.inside.opened + cond b 1 0) c.opens-opened.ensures)
    (c.more_where-self-inside-2.ensures ∙ ap (λ (b : Bool). c.self.inside.refused + cond (not b) 1 0) c.opens-opened.ensures)

pub invariant_of-self-2 : goal.invariant_of-self-2
invariant_of-self-2 c =
    after_attempt c.self.inside.accounts c.attempt_here-reply.new.self c.self.inside.entries c.self.inside.opened c.self.inside.refused c.self.inside.faults
    c.self.inside.keeper.plan.faults c.in_ok-entries.entries c.self.invariant (c.in_ok-entries.ensures {u = tt}) _ c.more_where-self-inside.result
    c.more_where-self-inside-2.result c.attempt_here-reply.ensures.entry
    (c.more_where-self-inside.ensures ∙ ap (λ (b : Bool). c.self.inside.opened + cond b 1 0) c.opens-opened.ensures)
    (c.more_where-self-inside-2.ensures ∙ ap (λ (b : Bool). c.self.inside.refused + cond (not b) 1 0) c.opens-opened.ensures)
