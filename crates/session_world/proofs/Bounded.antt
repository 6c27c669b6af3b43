-- A session reads a packet or rests after at most nine turns, wherever it stands.
use Rattle.std.proofs.Common.{◌≡◌, ◌<◌, sym, refl, subst, ℕ, zero, suc, ◌-◌, Bool, true, false, IsTrue, List, arith}
use Rattle.factor_chain.specs.CheckedOf.{CheckedOf}
use Rattle.factor_chain.specs.declared.evidence_list.Evidence.{Evidence}
use Rattle.packet_frame.specs.declared.packets.FrameFault.{FrameFault}
use Rattle.packet_frame.specs.declared.packets.FrameFault.TheVariants.{TooLarge, OutOfOrder, Memory as NoMemory}
use Rattle.interaction.specs.Talk.{Says, Hears, Asks, Over}
use Rattle.session_engine.specs.Standing.{stage_talk, talk_of, talk_of_session}
use Rattle.session_engine.specs.declared.phases.Phase.{Phase}
use Rattle.session_engine.specs.declared.phases.Phase.TheVariants as phase
use Rattle.session_engine.specs.declared.session.Session.{Session}
use Rattle.session_engine.specs.declared.stages.Stage.{Stage}
use Rattle.session_engine.specs.declared.stages.Stage.TheVariants as stage
use Rattle.session_talk.specs.Bounds.{Within}
use Rattle.session_talk.specs.Logins.{after_stale, claimed, commands_left, decided, faulted, heard_by, is_named, outcome, settling_or}
use Rattle.session_talk.specs.Statements as stating
use Rattle.session_talk.specs.Talk.{SessionTalk, on_start}
use Rattle.session_talk.specs.Turns.{heard, is_answer, rest}
use Rattle.session_talk.specs.declared.attempts.Attempting.{Attempting}
use Rattle.session_talk.specs.declared.ends.SessionEnd.{SessionEnd}
use Rattle.session_talk.specs.declared.ends.SessionEnd.TheVariants as end
use Rattle.session_talk.specs.declared.inputs.Input.{Input}
use Rattle.session_talk.specs.declared.inputs.Input.TheVariants as input
use Rattle.session_talk.specs.declared.open_session.OpenSession.{OpenSession}
use Rattle.session_talk.proofs.Bounding.{answered_within, checking_within, claimed_within, clear_within, command_within, commands_within, committing_locked_within, committing_within, late_within, locking_within, looking_again_within, looking_at_within, preparing_within, ran_within, renewing_within, salting_within, sessions_are_bounded, switched_within}
use Rattle.session_talk.proofs.Words.{drawn_all, look_all, ran_locked_all, settled_all, switched_to}
use Rattle.session_world.specs.Lasting.{Lasts, Steps, StepsOn}

-- ## What is left of a session

-- settlings, and what a stale answer leads to

settling_within : (n : ℕ) (stale : SessionTalk) → Within n stale → (a : Attempting) (checked : CheckedOf) → Within (suc n) (settling_or stale a checked)
settling_within n stale within a checked = settled_all (Within n) tt stale (outcome a) within (λ reply. answered_within n (decided a reply))

stale_within : (n : ℕ) (again : Bool) (a : Attempting) (evidences : List Evidence) → Within (suc (suc (suc (suc n)))) (after_stale again a evidences)
stale_within n false a evidences = renewing_within n a evidences
stale_within n true a evidences = locking_within (suc (suc (suc n))) a evidences

-- statements

module _ (opened : OpenSession) where
  abbrev goes_on : OpenSession → SessionTalk
  goes_on = commands_left opened.left

  all : (n : ℕ) (later : OpenSession) → Within n (goes_on later)
  all n later = commands_within opened.left n later

  stage_within : (s : Stage) → Within 8 (stage_talk opened s)
  unfolding stage_talk
  stage_within (stage.Looking statement) = looking_at_within goes_on all 0 opened statement
  stage_within (stage.Salting look statement) = salting_within goes_on all 1 opened look statement
  stage_within (stage.Preparing again look statement salt) =
      preparing_within goes_on all 6 (stating.after_stale goes_on again opened statement.value salt) (late_within goes_on all 2 again opened statement.value salt)
      opened look.value statement.value salt
  stage_within (stage.Committing again salt prepared) =
      committing_within goes_on all 7 (stating.after_stale goes_on again opened prepared.value.statement salt)
      (late_within goes_on all 3 again opened prepared.value.statement salt) opened prepared.value
  stage_within (stage.Renewing statement salt) = looking_again_within goes_on all 4 opened statement salt
  stage_within (stage.Locking statement salt) = committing_locked_within goes_on all 7 opened statement.value salt
  stage_within (stage.Plain statement) = ran_locked_all (Within 7) tt (stating.ran goes_on opened) (ran_within goes_on all 7 opened)

phase_lasts : (p : Phase) → Lasts 9 (talk_of p)
unfolding talk_of on_start heard_by
phase_lasts (phase.Fresh id) = sessions_are_bounded id
phase_lasts (phase.Greeted nonce) = sessions_are_bounded 0 (input.Start nonce)
phase_lasts (phase.Looking a claim) =
    look_all (Within 7) tt (λ look. claimed a claim look (is_named claim look)) (λ look. claimed_within a claim look (is_named claim look))
phase_lasts (phase.Switching a look) = drawn_all (Within 7) tt (switched_to a look) (switched_within a look)
phase_lasts (phase.Switched a look nonce) = switched_within a look nonce
phase_lasts (phase.Clearing a look) = clear_within a look
phase_lasts (phase.Checking a again look evidences) = checking_within 6 (after_stale again a evidences.value) (stale_within 2 again a evidences.value) a look.value evidences.value
phase_lasts (phase.Settling a again checked) =
    settling_within 7 (after_stale again a checked.value.evidences) (stale_within 3 again a checked.value.evidences) a checked.value
phase_lasts (phase.Renewing a evidences) = renewing_within 4 a evidences
phase_lasts (phase.Locking a evidences) = locking_within 7 a evidences.value
phase_lasts (phase.Commanding opened) = command_within opened.left opened
phase_lasts (phase.Executing opened stage) = stage_within opened stage
phase_lasts (phase.Over how) = tt

-- a session takes at most nine turns until it reads a packet or rests
pub session_lasts : (s : Session) → Lasts 9 (talk_of_session s)
session_lasts s = phase_lasts s.phase

-- ## A turn

rest_within : (n : ℕ) (t : SessionTalk) → Within n t → Within n (rest t)
unfolding rest
rest_within n (Says payload t) within = rest_within n t within
rest_within n (Hears anew k) within = within
rest_within n (Asks q k) within = within
rest_within n (Over how) within = within

-- one of the turns that are left is taken by a question
one_less : (n : ℕ) (t : SessionTalk) → Within n t → (0 < suc (suc n)) × Lasts (suc (suc n) - 1) (rest t)
one_less n t within =
    let same : suc n ≡ suc (suc n) - 1 = omega arith in
    (omega arith, subst (λ (m : ℕ). Lasts m (rest t)) same (rest_within n t within))

-- and by an end
over_last : (n : ℕ) (how : SessionEnd) → Lasts n (Over how)
over_last zero how = tt
over_last (suc n) how = tt

ended_less : (n : ℕ) (how : SessionEnd) → (0 < suc n) × Lasts (suc n - 1) (Over how)
ended_less n how = (omega arith, over_last (suc n - 1) how)

faulted_less : (n : ℕ) (fault : FrameFault) → (0 < suc n) × Lasts (suc n - 1) (rest (faulted fault))
unfolding rest
faulted_less n (TooLarge at) = ended_less n _
faulted_less n (OutOfOrder at want got) = ended_less n _
faulted_less n NoMemory = ended_less n _

steps_on : (given : Input) (t after : SessionTalk) → Steps t after → StepsOn given t after
steps_on (input.Packet packet) t after steps = tt
steps_on _ t after steps = steps

-- an input that answers a session that hasn't failed takes a turn
given_steps : (t : SessionTalk) (given : Input) → IsTrue (is_answer t given) → (t ≡ Over end.Memory → ⊥) → StepsOn given t (rest (heard t given))
unfolding is_answer heard rest
given_steps (Hears anew k) (input.Packet packet) answers fine = tt
given_steps (Hears anew k) (input.Frame fault) answers fine = steps where
  steps : Steps (Hears anew k) (rest (faulted fault))
  steps zero lasts = absurd lasts
  steps (suc n) lasts = faulted_less n fault
given_steps (Hears anew k) (input.End cut) answers fine = steps where
  steps : Steps (Hears anew k) (Over (end.PeerClosed cut))
  steps zero lasts = absurd lasts
  steps (suc n) lasts = ended_less n _
given_steps (Hears anew k) input.LinkFailed answers fine = steps where
  steps : Steps (Hears anew k) (Over end.LinkFault)
  steps zero lasts = absurd lasts
  steps (suc n) lasts = ended_less n _
given_steps (Asks q k) given answers fine = steps_on given (Asks q k) (rest (k given)) steps where
  steps : Steps (Asks q k) (rest (k given))
  steps zero lasts = absurd lasts
  steps (suc zero) lasts = absurd lasts
  steps (suc (suc n)) lasts = one_less n (k given) (lasts given)
given_steps (Over end.Memory) given answers fine = absurd (fine refl)
given_steps _ _ answers fine = absurd (cc)

pub acted_steps : (t after : SessionTalk) (given : Input) → IsTrue (is_answer t given) → (t ≡ Over end.Memory → ⊥) → after ≡ rest (heard t given) → StepsOn given t after
acted_steps t after given answers fine is = subst (λ (u : SessionTalk). StepsOn given t u) (sym is) (given_steps t given answers fine)
