use Rattle.std.proofs.Common.{refl}
use Rattle.shared_accounts.specs.Calls.{attempt_of}
use Rattle.shared_accounts.proofs.Desked.{same-count, same-rows, same-start}
use Rattle.shared_accounts.proofs.serving.DeskAppliesLockedAttemptCall.apply.Goals as goal

pub invariant_of-self : goal.invariant_of-self
invariant_of-self g c =
    let log = c.args.self.now.accounts in
    let log' = c.attempt_here-reply.new.self in
    let call = c.args.call.now in
    let entry = attempt_of call.user.now call.evidences.now call.flags call.reading c.attempt_here-reply.result in
    let n = c.attempt_here-reply.ensures.entry in record {
      start = same-start log log' entry n c.args.self.now.begun.value.log.start c.args.self.now.start;
      counted = same-count log log' entry n (g.K.Keeper.fault_count c.args.self.now.keeper) refl c.args.self.now.counted;
      recorded = λ began. same-rows log log' entry n (g.K.Keeper.told_rows c.args.self.now.keeper) refl (c.args.self.now.recorded began);
    }
