use Rattle.std.proofs.Common.{refl, ap, sym, ◌∙◌}
use Rattle.account_history.specs.Histories.{history}
use Rattle.account_history.specs.Stamps.{stamp}
use Rattle.account_history.specs.declared.entries.Who.TheVariants.{Login}
use Rattle.shared_accounts.specs.Calls.{attempt_on}
use Rattle.shared_accounts.proofs.Desked.{agrees-now, late-now, same-count, same-rows, same-start}
use Rattle.shared_accounts.proofs.serving.DeskAppliesAttemptCall.apply.Goals as goal

pub returns-then-stamp-clause-answered : goal.returns-then-stamp-clause-answered
returns-then-stamp-clause-answered g c =
    let desk = c.args.self.now in
    let call = c.args.call.now in (
      refl,
      late-now desk.begun.value desk.accounts desk.start (Login call.checked.now.look.user) call.checked.now.look c.requires.can c.stamp-stamp.result (c.stamp-stamp.ensures ∙ ap (stamp (history desk.accounts)) (c.as_slice.ensures ∙ ap (λ l. l.user) c.look.ensures))
          (attempt_on call.checked.now call.flags call.reading) (λ e. c.if-stamp.true (e ∙ sym c.stamp.ensures)) c.is_legal.ensures.legal,
    )

pub attempt-reply-requires : goal.attempt-reply-requires
attempt-reply-requires g c =
    let desk = c.args.self.now in
    let call = c.args.call.now in
    agrees-now desk.begun.value desk.accounts desk.start (Login call.checked.now.look.user) call.checked.now.look c.requires.can c.stamp-stamp.result (c.stamp-stamp.ensures ∙ ap (stamp (history desk.accounts)) (c.as_slice.ensures ∙ ap (λ l. l.user) c.look.ensures))
    (c.if-stamp.false ∙ c.stamp.ensures) c.is_legal.ensures.rising

pub invariant_of-self : goal.invariant_of-self
invariant_of-self g c =
    let log = c.args.self.now.accounts in
    let log' = c.attempt-reply.new.self in
    let call = c.args.call.now in
    let entry = attempt_on call.checked.now call.flags call.reading c.attempt-reply.result in
    let n = c.attempt-reply.ensures.entry in record {
      start = same-start log log' entry n c.args.self.now.begun.value.log.start c.args.self.now.start;
      counted = same-count log log' entry n (g.K.Keeper.fault_count c.args.self.now.keeper) refl c.args.self.now.counted;
      recorded = λ began. same-rows log log' entry n (g.K.Keeper.told_rows c.args.self.now.keeper) refl (c.args.self.now.recorded began);
    }
