-- The talk that each phase of a session stands for.
use Rattle.std.specs.Prelude.{◌≡◌, ℕ, Bool, true, false, Option, Some, None}
use Rattle.packet_frame.specs.declared.packets.FrameFault.TheVariants.{Memory as NoMemory}
use Rattle.interaction.specs.Talk.{Over}
use Rattle.session_engine.specs.declared.phases.Phase.{Phase}
use Rattle.session_engine.specs.declared.phases.Phase.TheVariants as phase
use Rattle.session_engine.specs.declared.session.Session.{Session}
use Rattle.session_engine.specs.declared.stages.Stage.{Stage}
use Rattle.session_engine.specs.declared.stages.Stage.TheVariants as stage
use Rattle.session_engine.specs.declared.steps.Step.{Step}
use Rattle.session_talk.specs.declared.ends.SessionEnd.TheVariants as end
use Rattle.session_talk.specs.declared.inputs.Input.{Input}
use Rattle.session_talk.specs.declared.inputs.Input.TheVariants as input
use Rattle.session_talk.specs.declared.open_session.OpenSession.{OpenSession}
use Rattle.session_talk.specs.Logins as login
use Rattle.session_talk.specs.Statements as stating
use Rattle.session_talk.specs.Talk.{SessionTalk}
use Rattle.session_talk.specs.Turns.{IsBegun, question, rest, said}
use Rattle.stmt_syntax.specs.declared.SyntaxFault.{SyntaxFault}
use Rattle.stmt_syntax.specs.declared.SyntaxFault.TheVariants as syntax

-- the talk at the question of a statement
unfoldable pub stage_talk : OpenSession → Stage → SessionTalk
stage_talk opened (stage.Looking statement) = stating.looking_at (login.commands_left opened.left) opened statement
stage_talk opened (stage.Salting look statement) = stating.salting (login.commands_left opened.left) opened look statement
stage_talk opened (stage.Preparing again look statement salt) =
    stating.preparing (login.commands_left opened.left) again opened look.value statement.value salt
stage_talk opened (stage.Committing again salt prepared) =
    stating.committing_or (login.commands_left opened.left)
    (stating.after_stale (login.commands_left opened.left) again opened prepared.value.statement salt) opened prepared.value
stage_talk opened (stage.Renewing statement salt) = stating.looking_again (login.commands_left opened.left) opened statement salt
stage_talk opened (stage.Locking statement salt) = stating.committing_locked (login.commands_left opened.left) opened statement.value salt
stage_talk opened (stage.Plain statement) = stating.committing_plain (login.commands_left opened.left) opened statement.value

-- the talk at the question that was asked
unfoldable pub talk_of : Phase → SessionTalk
talk_of (phase.Fresh id) = login.session id
talk_of (phase.Greeted nonce) = login.greeted nonce
talk_of (phase.Looking a claim) = login.looking a claim
talk_of (phase.Switching a look) = login.switching a look
talk_of (phase.Switched a look nonce) = login.switched a look nonce
talk_of (phase.Clearing a look) = login.clearing a look
talk_of (phase.Checking a again look evidences) = login.checking again a look.value evidences.value
talk_of (phase.Settling a again checked) = login.settling again a checked.value
talk_of (phase.Renewing a evidences) = login.renewing a evidences
talk_of (phase.Locking a evidences) = login.locking a evidences.value
talk_of (phase.Commanding opened) = login.commands opened
talk_of (phase.Executing opened stage) = stage_talk opened stage
talk_of (phase.Over how) = Over how

-- a step does what a talk says, up to its next question
pub record Stands (step : Step) (t : SessionTalk) : Type 0 where
  pub sends : step.send ≡ said t
  pub asks : step.ask ≡ question (rest t)
  pub goes_on : talk_of step.phase ≡ rest t
  pub begun : IsBegun (rest t)

-- the talk that a session stands for
abbrev pub talk_of_session : Session → SessionTalk
talk_of_session session = talk_of session.phase

-- the sequence id of a session's next packet
abbrev pub next_of : Session → ℕ
next_of session = session.next

-- there was no memory to read a packet
abbrev pub had_no_memory : Input → Bool
had_no_memory (input.Frame NoMemory) = true
had_no_memory _ = false

-- for want of memory
abbrev pub HasFailed : Session → Type 0
HasFailed session = talk_of session.phase ≡ Over end.Memory

-- the place of a fault of syntax
abbrev pub syntax_at : SyntaxFault → Option ℕ
syntax_at (syntax.At place) = Some place
syntax_at syntax.Memory = None
