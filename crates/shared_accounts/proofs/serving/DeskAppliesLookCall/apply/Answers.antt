use Rattle.std.proofs.Common.{refl}
use Rattle.account_history.specs.declared.entries.Entry.TheVariants.{Observed}
use Rattle.shared_accounts.proofs.Desked.{same-count, same-rows, same-start}
use Rattle.shared_accounts.proofs.serving.DeskAppliesLookCall.apply.Goals as goal

pub invariant_of-self : goal.invariant_of-self
invariant_of-self g c =
    let log = c.args.self.now.accounts in
    let entry = Observed c.args.call.now.who.now c.in_ok-look.look in record {
      start = same-start log c.observed.new.self entry c.observed.ensures c.args.self.now.begun.value.log.start c.args.self.now.start;
      counted = same-count log c.observed.new.self entry c.observed.ensures (g.K.Keeper.fault_count c.args.self.now.keeper) refl c.args.self.now.counted;
      recorded = λ began. same-rows log c.observed.new.self entry c.observed.ensures (g.K.Keeper.told_rows c.args.self.now.keeper) refl (c.args.self.now.recorded began);
    }
