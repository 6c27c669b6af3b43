use Rattle.std.proofs.Common.{subst, IfOk, IsTrue}
use Rattle.lg_outside.specs.Faults.{Rose}
use Rattle.stmt_rules.specs.declared.statement.Statement.{Statement}
use Rattle.account_history.specs.Histories.{history}
use Rattle.account_history.specs.Legal.{changes_accounts}
use Rattle.account_machine.specs.Committing.{has_failed}
use Rattle.account_machine.proofs.machine.Accounts.commit.Goals as goal

pub returns-clause-cause : goal.returns-clause-cause
returns-clause-cause g c =
    subst (λ (st : Statement). IfOk c.commit_here.result (λ reply. IsTrue (has_failed (history c.args.self.now) st c.args.actor c.args.reading reply)
    → IsTrue (changes_accounts st) × Rose (g.K.Keeper.fault_count c.args.keeper.now) (g.K.Keeper.fault_count c.commit_here.new.keeper)))
    c.statement.ensures.statement c.commit_here.ensures.cause
