use Rattle.session_world.proofs.Giving.{on_ok}
use Rattle.session_world.proofs.Turned.{check_leads}
use Rattle.session_world.proofs.turns.check_evidence.Goals as goal

pub returns-clause-leads : goal.returns-clause-leads
returns-clause-leads c calls d = on_ok c.act.result c.act.ensures.acted
    (λ acted. check_leads _ _ _ _ _ _ _ _ calls d _ c.args.look c.args.evidences c.check-checked.result c.requires.begun c.requires.asked c.check-checked.ensures acted)
