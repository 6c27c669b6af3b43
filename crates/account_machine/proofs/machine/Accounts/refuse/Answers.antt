use Rattle.std.proofs.Common.{◌∙◌, ap, sym, subst, max}
use Rattle.account_history.specs.declared.entries.Log.{Log}
use Rattle.account_history.specs.declared.entries.StmtReply.TheVariants.{Refused}
use Rattle.account_history.specs.Histories.{history, moment}
use Rattle.account_history.specs.Legal.{IsExecuted}
use Rattle.account_machine.specs.Committing.{execution_of}
use Rattle.account_machine.proofs.Committed.{stands-refused}
use Rattle.account_machine.proofs.Digested.{digests-refused}
use Rattle.account_machine.proofs.machine.Accounts.refuse.Goals as goal

pub invariant_of-self : goal.invariant_of-self
invariant_of-self c = (
  stands-refused c.self.inside.log.value c.args.statement.now c.args.salt.now c.args.actor c.args.reading c.args.count c.args.code
      c.self.inside.rows.items c.self.inside.settings c.self.inside.moment c.moment_at-self-inside.result c.self.inside.numbers c.self.inside.stamps c.self.inside.changes c.of.result.value
      c.self.invariant.0
      (subst (λ (l : Log). IsExecuted (history l) (execution_of (history l) c.args.statement.now c.args.salt.now c.args.actor c.args.reading c.args.count (Refused c.args.code)))
      (sym c.self.view_is) c.requires)
      (c.moment_at-self-inside.ensures ∙ ap (λ (l : Log). max c.args.reading (moment (history l))) (sym c.self.view_is))
      c.of.ensures,
  digests-refused c.self.inside.digests c.self.inside.log.value c.args.statement.now c.args.salt.now c.args.actor c.args.reading c.args.count c.args.code
      c.of.result.value c.self.invariant.1 c.of.ensures,
)
