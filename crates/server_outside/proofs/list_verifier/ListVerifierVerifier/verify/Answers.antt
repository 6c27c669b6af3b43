use Rattle.std.proofs.Common.{ap, subst, true, false}
use Rattle.lg_outside.specs.PlanOf.{Plan}
use Rattle.server_outside.proofs.Soundness.{stays_sound}
use Rattle.server_outside.specs.Judges.{Judge, never_fails}
use Rattle.server_outside.specs.Verdicts.{StaysSound}
use Rattle.server_outside.proofs.list_verifier.ListVerifierVerifier.verify.Goals as goal

pub returns-then-next_fails-clause-sound : goal.returns-then-next_fails-clause-sound
returns-then-next_fails-clause-sound c =
    subst (λ (p : Plan). StaysSound (never_fails p) (never_fails c.next_fails.new.self) p.faults c.next_fails.new.self.faults false)
    (ap (λ (j : Judge). j.plan) c.self.view_is)
    (stays_sound c.self.inside.plan c.next_fails.new.self true c.if-next_fails.ensures.answer c.if-next_fails.ensures.after)

pub returns-clause-sound : goal.returns-clause-sound
returns-clause-sound c =
    subst (λ (p : Plan). StaysSound (never_fails p) (never_fails c.next_fails.new.self) p.faults c.next_fails.new.self.faults true)
    (ap (λ (j : Judge). j.plan) c.self.view_is)
    (stays_sound c.self.inside.plan c.next_fails.new.self false c.if-next_fails.ensures.answer c.if-next_fails.ensures.after)
