use Rattle.std.proofs.Common.{◌≡◌, refl, ap, sym, ◌∙◌, subst, ℕ, ◌+◌, ◌++◌, if◌then◌else◌}
use Rattle.account_history.specs.declared.entries.Entry.TheVariants.{Executed}
use Rattle.account_history.specs.Histories.{history, noted}
use Rattle.account_history.specs.declared.entries.Log.{Log}
use Rattle.account_machine.specs.Committing.{execution_of}
use Rattle.world_table.specs.Printing.{statement_line}
use Rattle.world_table.specs.Statements.{executed, with_execution}
use Rattle.world_table.specs.Table.{Common, next_number}
use Rattle.world_table.proofs.AsTold.{WentAsTold, is_left_so, is_printed_so, is_reply}
use Rattle.world_table.proofs.Counted.{after_execution}
use Rattle.world_table.proofs.table.Table.execute.Goals as goal

pub invariant_of-self-in_err-test_keeper : goal.invariant_of-self-in_err-test_keeper
invariant_of-self-in_err-test_keeper c =
    after_execution c.self.inside.accounts c.commit_here.new.self c.self.inside.entries c.self.inside.opened c.self.inside.refused c.self.inside.faults c.self.inside.keeper.plan.faults
    c.in_ok-entries.entries c.self.invariant (c.in_ok-entries.ensures {u = tt}) _ c.faults-count.result c.commit_here.new.keeper.plan.faults
    (c.in_ok-reply.ensures {u = tt}).entry c.faults-count.ensures refl

pub invariant_of-self-in_err-print_statement : goal.invariant_of-self-in_err-print_statement
invariant_of-self-in_err-print_statement c =
    after_execution c.self.inside.accounts c.commit_here.new.self c.self.inside.entries c.self.inside.opened c.self.inside.refused c.self.inside.faults c.self.inside.keeper.plan.faults
    c.in_ok-entries.entries c.self.invariant (c.in_ok-entries.ensures {u = tt}) _ c.faults-count.result c.commit_here.new.keeper.plan.faults
    (c.in_ok-reply.ensures {u = tt}).entry c.faults-count.ensures refl

pub invariant_of-self-2 : goal.invariant_of-self-2
invariant_of-self-2 c =
    after_execution c.self.inside.accounts c.commit_here.new.self c.self.inside.entries c.self.inside.opened c.self.inside.refused c.self.inside.faults c.self.inside.keeper.plan.faults
    c.in_ok-entries.entries c.self.invariant (c.in_ok-entries.ensures {u = tt}) _ c.faults-count.result c.commit_here.new.keeper.plan.faults
    (c.in_ok-reply.ensures {u = tt}).entry c.faults-count.ensures refl

-- the table as it was
abbrev before : goal.In_ok-print_statement → Common
before d = record { log = d.self.inside.accounts; clock = d.self.inside.clock; drawn = d.self.inside.drawn; fails = d.self.inside.fails }

went : (d : goal.In_ok-print_statement) →
    WentAsTold (before d) d.args.statement.now d.args.actor d.faults-count.result d.in_ok-reply.reply d.was_called-called.result d.is_keeper_fault-failed.result
went d = record {
  replied = (d.in_ok-reply.ensures {u = tt}).reply;
  called_is = d.was_called-called.ensures;
  failed_is = d.is_keeper_fault-failed.ensures;
  as_told = (d.in_ok-test_keeper.ensures {u = tt}).told;
  counted = (d.in_ok-test_keeper.ensures {u = tt}).counted
      ∙ ap (λ (n : ℕ). if d.is_keeper_fault-failed.result then n + 1 else n) d.self.invariant.faults_are;
}

pub returns-clause-reply : goal.returns-clause-reply
returns-clause-reply c =
    subst (λ (v : Common). c.in_ok-reply.reply ≡ (executed v c.args.statement.now c.args.salt.now c.args.actor).reply) c.self.view_is
    (is_reply (before c) c.args.statement.now c.args.salt.now c.args.actor c.faults-count.result c.in_ok-reply.reply c.was_called-called.result
    c.is_keeper_fault-failed.result (went c))

-- the log with the entry of a statement, after which the keeper has this count
abbrev counted_as : goal.In_ok-print_statement → ℕ → Log
counted_as d count = noted d.self.inside.accounts (Executed (execution_of (history d.self.inside.accounts) d.args.statement.now d.args.salt.now d.args.actor
    d.self.inside.clock count d.in_ok-reply.reply))

pub returns-clause-entry : goal.returns-clause-entry
returns-clause-entry c =
    subst
    (λ (v : Common). record { log = c.commit_here.new.self; clock = c.self.inside.clock; drawn = c.self.inside.drawn; fails = c.is_left-self-inside.result }
    ≡ with_execution v (executed v c.args.statement.now c.args.salt.now c.args.actor)) c.self.view_is
    (is_left_so (before c) c.args.statement.now c.args.salt.now c.args.actor c.faults-count.result c.in_ok-reply.reply c.was_called-called.result
    c.is_keeper_fault-failed.result (went c) c.commit_here.new.self c.is_left-self-inside.result
    ((c.in_ok-reply.ensures {u = tt}).entry ∙ ap (counted_as c) (sym c.faults-count.ensures)) c.is_left-self-inside.ensures)

pub returns-clause-printed : goal.returns-clause-printed
returns-clause-printed c =
    subst
    (λ (v : Common). c.print_statement.new.out ≡ c.args.out.now ++ statement_line (next_number v) (executed v c.args.statement.now c.args.salt.now c.args.actor).reply)
    c.self.view_is
    (is_printed_so (before c) c.args.statement.now c.args.salt.now c.args.actor c.faults-count.result c.in_ok-reply.reply c.was_called-called.result
    c.is_keeper_fault-failed.result (went c) c.args.out.now c.print_statement.new.out c.in_ok-entries.entries (c.in_ok-print_statement.ensures {u = tt})
    ((c.in_ok-entries.ensures {u = tt}) ∙ ap (λ (n : ℕ). n + 1) c.self.invariant.entries_are))
