use Rattle.std.proofs.Common.{arith, refl}
use Rattle.account_history.specs.Histories.{history}
use Rattle.account_history.specs.declared.entries.StmtReply.TheVariants.{Refused}
use Rattle.account_machine.specs.Committing.{execution_of}
use Rattle.account_machine.proofs.Committed.{count-after, count-noted}
use Rattle.account_machine.proofs.machine.Accounts.commit_here.Goals as goal

pub returns-in-Ok-Some-clause-count : goal.returns-in-Ok-Some-clause-count
returns-in-Ok-Some-clause-count g c =
    let last = count-noted c.args.self.now c.refuse.new.self
    (execution_of (history c.args.self.now) c.args.statement.now c.args.salt.now c.args.actor c.args.reading c.faults-count.result (Refused c.in-Ok-Some.code))
    c.refuse.ensures.entry in
    let count = c.faults-count.ensures in
    omega (arith, last, count)

pub returns-in-Ok-None-clause-count : goal.returns-in-Ok-None-clause-count
returns-in-Ok-None-clause-count g c =
    count-after c.carry_out.result c.args.self.now c.carry_out.new.self (g.K.Keeper.fault_count c.args.keeper.now) (g.K.Keeper.fault_count c.carry_out.new.keeper)
    (λ reply. execution_of (history c.args.self.now) c.args.statement.now c.args.salt.now c.args.actor c.args.reading (g.K.Keeper.fault_count c.carry_out.new.keeper) reply)
    (λ reply. refl) c.carry_out.ensures.entry c.carry_out.ensures.err c.requires.count c.carry_out.ensures.rising
