use Rattle.session_world.proofs.Giving.{on_ok}
use Rattle.session_world.proofs.Turned.{draw_leads}
use Rattle.session_world.proofs.turns.draw.Goals as goal

pub returns-clause-leads : goal.returns-clause-leads
returns-clause-leads c calls = on_ok c.act.result c.act.ensures.acted
    (λ acted. draw_leads _ _ _ _ _ _ _ _ calls _ _ _ c.in_ok-nonce.nonce c.requires.begun c.requires.asked
    (c.in_ok-nonce.ensures {u = tt}).nonce (c.in_ok-nonce.ensures {u = tt}).drawn acted)
