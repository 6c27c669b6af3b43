use Rattle.std.proofs.Common.{◌≡◌, ◌∙◌, ap, sym, refl, max}
use Rattle.account_history.specs.Answers.{reply_for}
use Rattle.account_history.specs.Histories.{history, moment}
use Rattle.account_history.specs.Records.{in_force, records}
use Rattle.account_history.specs.declared.entries.Attempt.{Attempt}
use Rattle.account_machine.proofs.Attempts.{max-moved, stands-attempted}
use Rattle.account_machine.proofs.Digested.{digests-noted}
use Rattle.account_machine.proofs.machine.Accounts.attempt_here.Goals as goal

pub invariant_of-self : goal.invariant_of-self
invariant_of-self c =
    let t : Attempt = record { user = c.args.user.now; evidences = c.args.evidences.now; flags = c.args.flags; reading = c.args.reading; reply = c.attempt_on-reply.result } in
    let h = history c.self.inside.log.value in
    let now : c.max-now.result ≡ max c.args.reading (moment (history c.self.inside.log.value)) =
    c.max-now.ensures ∙ max-moved c.self.inside.moment c.args.reading (moment (history c.self.inside.log.value)) c.self.invariant.0.same_moment in (
      stands-attempted c.self.inside.log.value t c.self.inside.rows.items c.attempt_on-reply.new.rows.items c.self.inside.settings c.self.inside.moment c.max-now.result c.self.inside.numbers c.self.inside.stamps c.self.inside.changes c.of.result.value
          c.self.invariant.0 c.of.ensures
          (c.attempt_on-reply.ensures.rows h t c.self.invariant.0.same_rows c.self.invariant.1 c.self.invariant.0.rising (sym now) refl refl refl)
          c.max-now.ensures
          (c.attempt_on-reply.ensures.reply h c.self.invariant.0.same_rows c.self.invariant.1 c.self.invariant.0.same_settings
          ∙ ap (λ n. reply_for (history c.self.inside.log.value) (in_force (records (history c.self.inside.log.value)) c.args.user.now) c.args.evidences.now c.args.flags n) now),
      digests-noted c.attempt_on-reply.new.digests c.self.inside.log.value t c.of.result.value
          (c.attempt_on-reply.ensures.digests h t c.self.invariant.0.same_rows c.self.invariant.1 refl refl refl) c.of.ensures,
    )
