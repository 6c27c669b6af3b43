use Rattle.std.proofs.Common.{◌≡◌, refl, ap, sym, ◌∙◌}
use Rattle.account_history.specs.Histories.{history}
use Rattle.account_history.specs.Preparing.{who_of}
use Rattle.account_history.specs.Stamps.{stamp}
use Rattle.shared_accounts.specs.Beginnings.{history_of}
use Rattle.shared_accounts.specs.Calls.{run_on}
use Rattle.shared_accounts.proofs.Desked.{agrees-now, current, late-now, rows-after, run-legal, start-after}
use Rattle.shared_accounts.proofs.serving.DeskAppliesCommitCall.apply.Goals as goal

pub returns-then-stamp-look-clause-answered : goal.returns-then-stamp-look-clause-answered
returns-then-stamp-look-clause-answered g c =
    let desk = c.args.self.now in
    let call = c.args.call.now in
    let its = ap (λ l. l.stamp) c.look-look.ensures in (
      refl,
      late-now desk.begun.value desk.accounts desk.start (who_of call.actor call.prepared.now.statement) call.prepared.now.look c.requires.can.0 c.stamp-stamp.result (c.stamp-stamp.ensures ∙ ap (stamp (history desk.accounts)) (c.as_slice.ensures ∙ ap (λ l. l.user) c.look-look.ensures))
          (run_on (history_of desk.begun.value desk.accounts.entries) call.prepared.now call.actor call.reading) (λ e. c.if-stamp-look.true (e ∙ sym its)) c.is_legal.ensures.legal,
    )

pub commit-requires-clause-look : goal.commit-requires-clause-look
commit-requires-clause-look g c =
    let desk = c.args.self.now in
    let call = c.args.call.now in
    let its = ap (λ l. l.stamp) c.look-look.ensures in
    agrees-now desk.begun.value desk.accounts desk.start (who_of call.actor call.prepared.now.statement) call.prepared.now.look c.requires.can.0 c.stamp-stamp.result (c.stamp-stamp.ensures ∙ ap (stamp (history desk.accounts)) (c.as_slice.ensures ∙ ap (λ l. l.user) c.look-look.ensures))
    (c.if-stamp-look.false ∙ its) c.is_legal.ensures.rising

pub invariant_of-self : goal.invariant_of-self
invariant_of-self g c =
    let desk = c.args.self.now in
    let call = c.args.call.now in
    let e = c.commit.ensures in
    let log = desk.accounts in
    let log' = c.commit.new.self in
    let count = g.K.Keeper.fault_count c.commit.new.keeper in record {
      start = start-after log log' call.prepared.now.statement call.prepared.now.salt call.actor call.reading count c.commit.result desk.begun.value.log.start e.entry e.err desk.start;
      counted = e.count;
      recorded = λ began. rows-after log log' call.prepared.now.statement call.prepared.now.salt call.actor call.reading count c.commit.result (g.K.Keeper.told_rows desk.keeper) (g.K.Keeper.told_rows c.commit.new.keeper)
          e.entry e.err e.rows e.err_rows c.is_legal.ensures.rising (desk.recorded began);
    }

pub returns-clause-answered : goal.returns-clause-answered
returns-clause-answered g c =
    let desk = c.args.self.now in
    let call = c.args.call.now in
    let its = ap (λ l. l.stamp) c.look-look.ensures in
    let found : c.stamp-stamp.result ≡ stamp (history_of desk.begun.value desk.accounts.entries) call.prepared.now.look.user =
    current desk.begun.value desk.accounts desk.start call.prepared.now.look.user c.stamp-stamp.result (c.stamp-stamp.ensures ∙ ap (stamp (history desk.accounts)) (c.as_slice.ensures ∙ ap (λ l. l.user) c.look-look.ensures)) in (
      refl,
      (
        run-legal desk.begun.value desk.accounts desk.start c.commit.new.self call.prepared.now.statement call.prepared.now.salt call.actor call.reading (record { reply = c.in_ok-reply.reply; count = c.faults-count.result })
            (g.K.Keeper.fault_count c.commit.new.keeper) c.faults-count.ensures c.in_ok-reply.ensures.entry c.is_legal-2.ensures.legal,
        sym found ∙ (c.if-stamp-look.false ∙ its),
      ),
    )
