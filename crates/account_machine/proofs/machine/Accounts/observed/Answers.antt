use Rattle.std.proofs.Common.{◌∙◌, ap, sym}
use Rattle.account_history.specs.declared.entries.Log.{Log}
use Rattle.account_history.specs.Answers.{look_of}
use Rattle.account_history.specs.Histories.{history}
use Rattle.account_machine.proofs.Attempts.{stands-observed}
use Rattle.account_machine.proofs.Digested.{digests-observed}
use Rattle.account_machine.proofs.machine.Accounts.observed.Goals as goal

pub invariant_of-self : goal.invariant_of-self
invariant_of-self c = (
  stands-observed c.self.inside.log.value c.args.who.now c.args.look.now c.self.inside.rows.items c.self.inside.settings c.self.inside.moment c.self.inside.numbers c.self.inside.stamps c.self.inside.changes c.of.result.value
      c.self.invariant.0 c.of.ensures (c.requires ∙ ap (λ (l : Log). look_of (history l) c.args.who.now) (sym c.self.view_is)),
  digests-observed c.self.inside.digests c.self.inside.log.value c.args.who.now c.args.look.now c.of.result.value c.self.invariant.1 c.of.ensures,
)
