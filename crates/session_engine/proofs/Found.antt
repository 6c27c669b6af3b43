-- What reading a message found, as the reader on lists.
use Rattle.std.proofs.Common.{◌≡◌, refl, T, arith, sym, ap, ◌∙◌, subst, ℕ, zero, suc, ◌-◌, List, [], ◌∷◌, ◌++◌, length, Result, Ok, Err, IfOk, Option, Some, None, Bool, true, false, ◌&&◌}
use Rattle.std.proofs.Math.Dec.{eqb→eq}
use Rattle.factor_chain.specs.Checking.{known_fits_of}
use Rattle.account_history.specs.Preparing.{PreparedOf}
use Rattle.factor_chain.specs.declared.credentials.InForce.{InForce}
use Rattle.factor_chain.specs.declared.credentials.Look.{Look}
use Rattle.wire_form.specs.Payloads.{Gives, IsReadAs, start}
use Rattle.auth_packets.specs.Commands.{command}
use Rattle.auth_packets.specs.Faults.{malformed_at}
use Rattle.auth_packets.specs.Handshake.{response}
use Rattle.auth_packets.specs.declared.fault.PacketFault.{PacketFault}
use Rattle.auth_packets.specs.declared.commands.Command.{Command}
use Rattle.auth_packets.specs.declared.handshake.Response.{Response}
use Rattle.auth_packets.proofs.CommandLaws.{command-lawful}
use Rattle.auth_packets.proofs.HandshakeLaws.{response-lawful}
use Rattle.session_talk.proofs.Reading.{gives}
use Rattle.session_talk.specs.Logins.{commanded, commands_left, next_command, responded, with_left, without_zero}
use Rattle.session_talk.specs.Statements.{after_stale, committing_or, preparing, queried, queried_for, read_to, statement_in}
use Rattle.session_talk.specs.Talk.{SessionTalk, on_prepared}
use Rattle.session_talk.specs.declared.open_session.OpenSession.{OpenSession}
use Rattle.stmt_rules.specs.declared.statement.Statement.{Statement}
use Rattle.stmt_syntax.specs.Reading.{Reads}
use Rattle.stmt_syntax.specs.declared.SyntaxFault.{SyntaxFault}
use Rattle.stmt_syntax.specs.declared.SyntaxFault.TheVariants as syntax
use Rattle.session_engine.specs.Standing.{Stands, stage_talk, syntax_at}
use Rattle.session_engine.specs.declared.stages.Stage.{Stage}
use Rattle.session_engine.specs.declared.stages.Stage.TheVariants as stage
use Rattle.session_talk.specs.Turns.{IsAsked, heard, wanted_by}
use Rattle.session_talk.specs.declared.ends.SessionEnd.TheVariants as end
use Rattle.session_talk.specs.declared.inputs.Input.{Input}
use Rattle.session_talk.specs.declared.inputs.Input.TheVariants as input
use Rattle.interaction.specs.Talk.{Over}
use Rattle.session_engine.specs.declared.steps.Step.{Step}

pub response_found : (payload : List ℕ) (result : Result Response PacketFault) →
    IsReadAs malformed_at response.Spells payload result → Gives malformed_at result (response.read (start payload))
response_found = gives response response-lawful malformed_at

pub command_found : (payload : List ℕ) (result : Result Command PacketFault) →
    IsReadAs malformed_at command.Spells payload result → Gives malformed_at result (command.read (start payload))
command_found = gives command command-lawful malformed_at

both : (a b : Bool) → (a && b) ≡ true → a ≡ true
both true b e = refl
both false b e = absurd (cc)

-- a response that fits a digest has 32 bytes
pub known_has_32 : (account : Option InForce) (nonce response : List ℕ) → known_fits_of account nonce response ≡ true → length response ≡ 32
known_has_32 None nonce answer e = absurd (cc)
known_has_32 (Some account) nonce answer e = eqb→eq (length answer) 32 (subst T (sym (both _ _ e)) tt)

-- a step that does what follows a reading, does what follows what was found
pub responds : (nonce payload : List ℕ) (found : Result Response ℕ) (step : Step) → response.read (start payload) ≡ found →
    Stands step (responded nonce found) → Stands step (responded nonce (response.read (start payload)))
responds nonce payload found step e stands = subst (λ (r : Result Response ℕ). Stands step (responded nonce r)) (sym e) stands

pub obeys : (payload : List ℕ) (goes_on : OpenSession → SessionTalk) (opened : OpenSession) (found : Result Command ℕ) (step : Step) →
    command.read (start payload) ≡ found → Stands step (commanded found goes_on opened) → Stands step (commanded (command.read (start payload)) goes_on opened)
obeys payload goes_on opened found step e stands = subst (λ (r : Result Command ℕ). Stands step (commanded r goes_on opened)) (sym e) stands

-- what reading a statement found, and what a step does that follows it
pub statement_found : (text : List ℕ) (result : Result Statement SyntaxFault) → Reads text result → Gives syntax_at result (statement_in text)
statement_found text (Ok statement) e = ap (read_to (length text)) e
statement_found text (Err (syntax.At place)) (rest, e, at) = ap (read_to (length text)) e ∙ ap Err (sym at)
statement_found text (Err syntax.Memory) e = tt

pub queries : (text : List ℕ) (goes_on : OpenSession → SessionTalk) (opened : OpenSession) (found : Result Statement ℕ) (step : Step) →
    statement_in text ≡ found → Stands step (queried_for goes_on opened found) → Stands step (queried goes_on opened text)
queries text goes_on opened found step e stands = subst (λ (r : Result Statement ℕ). Stands step (queried_for goes_on opened r)) (sym e) stands

-- a text that ends in 00, and one that doesn't
pub with_ending : (front : List ℕ) (b : ℕ) → ¬ (b ≡ 0) → without_zero (front ++ b ∷ []) ≡ front ++ b ∷ []
with_ending [] zero some = absurd (some refl)
with_ending [] (suc b) some = refl
with_ending (a ∷ []) zero some = absurd (some refl)
with_ending (a ∷ []) (suc b) some = refl
with_ending (a ∷ c ∷ front) b some = ap (λ (bytes : List ℕ). a ∷ bytes) (with_ending (c ∷ front) b some)

pub without_ending : (front : List ℕ) → without_zero (front ++ 0 ∷ []) ≡ front
without_ending [] = refl
without_ending (b ∷ []) = refl
without_ending (b ∷ c ∷ front) = ap (λ (bytes : List ℕ). b ∷ bytes) (without_ending (c ∷ front))

-- a command is done where one is left
pub counted_down : (left : ℕ) (opened : OpenSession) (payload : List ℕ) (step : Step) → ¬ (left ≡ 0) →
    Stands step (commanded (command.read (start payload)) (commands_left (left - 1)) (with_left (left - 1) opened)) →
    Stands step (next_command left opened payload)
unfolding next_command
counted_down zero opened payload step some stands = absurd (some refl)
counted_down (suc left) opened payload step some stands =
    subst (λ (n : ℕ). Stands step (commanded (command.read (start payload)) (commands_left n) (with_left n opened))) one_less stands
  where
    one_less : suc left - 1 ≡ left
    one_less = omega arith

-- no packet is waited for in the execution of a statement
pub next_of_stage : (next : ℕ) (opened : OpenSession) (at : Stage) → next ≡ wanted_by next (stage_talk opened at)
unfolding stage_talk wanted_by
next_of_stage next opened (stage.Looking statement) = refl
next_of_stage next opened (stage.Salting look statement) = refl
next_of_stage next opened (stage.Preparing again look statement salt) = refl
next_of_stage next opened (stage.Committing again salt prepared) = refl
next_of_stage next opened (stage.Renewing statement salt) = refl
next_of_stage next opened (stage.Locking statement salt) = refl
next_of_stage next opened (stage.Plain statement) = refl

-- what was prepared is what was asked about
pub commits_made : {E : Type 0} (r : Result Step E) (goes_on : OpenSession → SessionTalk) (again : Bool) (opened : OpenSession) (look : Look) (statement : Statement) (salt : List ℕ) (given : Input) (made : PreparedOf) →
    given ≡ input.Prepared made → IsAsked (preparing goes_on again opened look statement salt) given →
    IfOk r (λ step. Stands step (committing_or goes_on (after_stale goes_on again opened made.statement salt) opened made)) →
    IfOk r (λ step. Stands step (heard (preparing goes_on again opened look statement salt) given))
unfolding heard on_prepared IsAsked
commits_made r goes_on again opened look statement salt given made is asked done =
    subst (λ (i : Input). IsAsked (preparing goes_on again opened look statement salt) i →
    IfOk r (λ step. Stands step (heard (preparing goes_on again opened look statement salt) i))) (sym is)
    (λ fits. subst (λ (p : PreparedOf). IfOk r (λ step. Stands step (committing_or goes_on (after_stale goes_on again opened p.statement salt) opened p))) fits done) asked

-- the execution of a statement is no end
pub stage_lasts : (opened : OpenSession) (at : Stage) → stage_talk opened at ≡ Over end.Memory → ⊥
unfolding stage_talk
stage_lasts opened (stage.Looking statement) e = absurd (cc)
stage_lasts opened (stage.Salting look statement) e = absurd (cc)
stage_lasts opened (stage.Preparing again look statement salt) e = absurd (cc)
stage_lasts opened (stage.Committing again salt prepared) e = absurd (cc)
stage_lasts opened (stage.Renewing statement salt) e = absurd (cc)
stage_lasts opened (stage.Locking statement salt) e = absurd (cc)
stage_lasts opened (stage.Plain statement) e = absurd (cc)
