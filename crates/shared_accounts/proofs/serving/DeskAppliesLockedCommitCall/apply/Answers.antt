use Rattle.std.proofs.Common.{refl}
use Rattle.shared_accounts.proofs.Desked.{rows-after, run-legal, start-after}
use Rattle.shared_accounts.proofs.serving.DeskAppliesLockedCommitCall.apply.Goals as goal

pub invariant_of-self : goal.invariant_of-self
invariant_of-self g c =
    let desk = c.args.self.now in
    let call = c.args.call.now in
    let e = c.commit_here.ensures in
    let log = desk.accounts in
    let log' = c.commit_here.new.self in
    let count = g.K.Keeper.fault_count c.commit_here.new.keeper in record {
      start = start-after log log' call.statement.now call.salt.now call.actor call.reading count c.commit_here.result desk.begun.value.log.start e.entry e.err desk.start;
      counted = e.count;
      recorded = λ began. rows-after log log' call.statement.now call.salt.now call.actor call.reading count c.commit_here.result (g.K.Keeper.told_rows desk.keeper) (g.K.Keeper.told_rows c.commit_here.new.keeper)
          e.entry e.err e.rows e.err_rows c.is_legal.ensures.rising (desk.recorded began);
    }

pub returns-clause-answered : goal.returns-clause-answered
returns-clause-answered g c =
    let desk = c.args.self.now in
    let call = c.args.call.now in (
      refl,
      run-legal desk.begun.value desk.accounts desk.start c.commit_here.new.self call.statement.now call.salt.now call.actor call.reading (record { reply = c.in_ok-reply.reply; count = c.faults-count.result })
          (g.K.Keeper.fault_count c.commit_here.new.keeper) c.faults-count.ensures c.in_ok-reply.ensures.entry c.is_legal-2.ensures.legal,
    )
