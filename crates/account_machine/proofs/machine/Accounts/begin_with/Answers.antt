use Rattle.std.proofs.Common.{◌∙◌, ap}
use Rattle.account_history.specs.declared.entries.Log.{Log}
use Rattle.account_machine.proofs.Digested.{digests-counted}
use Rattle.account_machine.proofs.Starts.{stands-counted}
use Rattle.account_machine.proofs.machine.Accounts.begin_with.Goals as goal

pub invariant_of-self : goal.invariant_of-self
invariant_of-self c = (
  stands-counted c.self.inside.rows.items c.self.inside.settings c.self.inside.moment c.self.inside.numbers c.self.inside.stamps c.self.inside.changes
      c.self.inside.log.value c.of.result.value c.args.count (ap (λ (l : Log). l.entries) c.self.view_is ∙ c.requires) c.self.invariant.0 c.of.ensures,
  digests-counted c.self.inside.digests c.self.inside.log.value c.of.result.value c.args.count (ap (λ (l : Log). l.entries) c.self.view_is ∙ c.requires)
      c.self.invariant.1 c.of.ensures,
)
