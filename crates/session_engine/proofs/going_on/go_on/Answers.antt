use Rattle.std.proofs.Common.{◌≡◌, subst}
use Rattle.interaction.specs.Talk.{Over}
use Rattle.session_engine.proofs.Found.{stage_lasts}
use Rattle.session_engine.proofs.going_on.go_on.Goals as goal
use Rattle.session_engine.specs.Standing.{talk_of}
use Rattle.session_engine.specs.declared.phases.Phase.{Phase}
use Rattle.session_talk.specs.declared.ends.SessionEnd.TheVariants as end

pub returns-in-Executing-clause-stays : goal.returns-in-Executing-clause-stays
unfolding talk_of
returns-in-Executing-clause-stays c = λ e.
    absurd (stage_lasts c.in-Executing.opened c.in-Executing.stage (subst (λ (p : Phase). talk_of p ≡ Over end.Memory) c.in-Executing.is e))
