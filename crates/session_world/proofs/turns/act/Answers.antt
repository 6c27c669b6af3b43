use Rattle.std.proofs.Common.{◌≡◌, false, true}
use Rattle.session_world.proofs.Bounded.{acted_steps}
use Rattle.session_world.proofs.turns.act.Goals as goal

untrue : false ≡ true → ⊥
untrue e = absurd (cc)

pub returns-clause-steps : goal.returns-clause-steps
returns-clause-steps c =
    acted_steps _ _ c.args.input c.requires.answers (λ failed. untrue ((c.in_ok-first.ensures {u = tt}).stays failed)) (c.in_ok-first.ensures {u = tt}).acts.goes_on
