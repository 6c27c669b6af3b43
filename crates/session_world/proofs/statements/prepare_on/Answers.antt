use Rattle.session_world.proofs.Committing.{prepare_leads}
use Rattle.session_world.proofs.Giving.{on_ok}
use Rattle.session_world.proofs.statements.prepare_on.Goals as goal

pub returns-clause-leads : goal.returns-clause-leads
returns-clause-leads c calls d = on_ok c.act.result c.act.ensures.acted
    (λ acted. prepare_leads _ _ _ _ _ _ _ _ calls d _ c.args.look c.args.statement c.args.salt c.args.actor c.in_ok-prepared.prepared c.requires.begun c.requires.asked
    (c.in_ok-prepared.ensures {u = tt}) acted)
