-- Steps of a client.
use Rattle.std.proofs.Common.{◌≡◌, refl, sym, subst, ℕ, List, Option, Some, None}
use Rattle.packet_frame.specs.declared.packets.Packet.{Packet}
use Rattle.login_client.specs.Acting.{Acts, Does}
use Rattle.login_client.specs.Phases.{StandsBy, StepsAt, act_of, done_if, end_of, talk_at}
use Rattle.login_client.specs.declared.claims.Claim.{Claim}
use Rattle.login_client.specs.declared.phases.Phase.{Phase}
use Rattle.login_client.specs.declared.phases.Phase.TheVariants.{Connected, Responded, Answered, Factors, Ended}
use Rattle.login_client.specs.declared.phases.Step.{Step}
use Rattle.login_client.specs.declared.ends.ClientAct.{ClientAct}
use Rattle.login_client.specs.Talk.{Talk, Hears, Says, Over, IsWaiting, hearing}

-- it stands by what is said and what is heard then
pub stands_said : (said : List ℕ) (rest talk : Talk) → IsWaiting rest → Says said (hearing rest) ≡ talk → StandsBy (Some said) rest talk
stands_said said (Hears k) talk h e = e
stands_said said (Says more k) talk h e = absurd h
stands_said said (Over end) talk h e = absurd h

says-does : (said : List ℕ) (rest talk : Talk) (last : ℕ) → StandsBy (Some said) rest talk → Does talk last (act_of (Some said) Connected last) rest
says-does said (Hears k) talk last e =
    subst (λ (t : Talk). Does t last (act_of (Some said) Connected last) (Hears k)) e (refl, refl, refl)
says-does said (Says more k) talk last h = absurd h
says-does said (Over end) talk last h = absurd h

waits-does : (claim : Claim) (phase : Phase) (last : ℕ) → Does (talk_at claim phase) last (done_if (end_of phase)) (talk_at claim phase)
waits-does claim Connected last = refl
waits-does claim (Responded method) last = refl
waits-does claim (Answered method) last = refl
waits-does claim (Factors next) last = refl
waits-does claim (Ended end) last = (refl, refl)

does : (says : Option (List ℕ)) (claim : Claim) (phase : Phase) (talk : Talk) (last : ℕ) → StandsBy says (talk_at claim phase) talk
    → Does talk last (act_of says phase last) (talk_at claim phase)
does (Some said) claim phase talk last h = says-does said (talk_at claim phase) talk last h
does None claim phase talk last e =
    subst (λ (t : Talk). Does t last (done_if (end_of phase)) (talk_at claim phase)) e (waits-does claim phase last)

-- a step makes an act
pub step_acts : (claim : Claim) (talk : Talk) (packet : Packet) (step : Step) (act : Option ClientAct) → StepsAt claim talk packet.payload step
    → act ≡ act_of step.says step.phase packet.last → Acts talk packet act (talk_at claim step.phase)
step_acts claim talk packet step act at is = record {
  heard = at.heard;
  is_heard = at.is_heard;
  does = subst (λ (a : Option ClientAct). Does (hearing talk at.heard) packet.last a (talk_at claim step.phase)) (sym is) (does step.says claim step.phase (hearing talk at.heard) packet.last at.stands);
}
