use Rattle.std.proofs.Common.{refl, sym, ◌∙◌, List, ℕ, subst}
use Rattle.loginctl.proofs.Dues.{due-told, printed-as, wrote-nothing}
use Rattle.loginctl.specs.Replayed.{IsDue}
use Rattle.loginctl.specs.Tool.{frames, generated, no_memory, other, ran, source_fault}
use Rattle.loginctl.proofs.tool.run_tool.Goals as goal

pub returns-then-is_frames-clause-answer : goal.returns-then-is_frames-clause-answer
returns-then-is_frames-clause-answer g c = frames c.print_frames.result (sym c.is_frames.ensures ∙ c.if-is_frames.true) refl c.print_frames.ensures.answer

pub returns-in-Some-clause-answer : goal.returns-in-Some-clause-answer
returns-in-Some-clause-answer g c =
    generated c.print_generated.result c.in-Some.number (sym c.generated_by.ensures ∙ c.in-Some.is) refl refl c.print_generated.ensures.answer

pub returns-then-not-is_replay-clause-answer : goal.returns-then-not-is_replay-clause-answer
returns-then-not-is_replay-clause-answer g c =
    other c.login_or_usage.result (sym c.is_replay.ensures ∙ c.if-not-is_replay.true) (sym c.generated_by.ensures ∙ c.in_default.is) (sym c.is_frames.ensures ∙ c.if-is_frames.false) refl c.login_or_usage.ensures.answer

pub returns-in-Err-Fault-clause-answer : goal.returns-in-Err-Fault-clause-answer
returns-in-Err-Fault-clause-answer g c =
    source_fault (sym c.is_replay.ensures ∙ c.if-not-is_replay.false) refl (c.in-Err-Fault.ensures.cause c.in-Err-Fault.field-0-is) (wrote-nothing _)

pub returns-in-Err-Memory-clause-answer : goal.returns-in-Err-Memory-clause-answer
returns-in-Err-Memory-clause-answer g c =
    no_memory (sym c.is_replay.ensures ∙ c.if-not-is_replay.false) refl (wrote-nothing _)

pub returns-in-Ok-due_for-clause-answer : goal.returns-in-Ok-due_for-clause-answer
returns-in-Ok-due_for-clause-answer g c =
    ran c.print.result c.in-Ok-due_for.due.status c.in-Ok-due_for.due.text (sym c.is_replay.ensures ∙ c.if-not-is_replay.false) refl
    (due-told c.in-Ok.text.items _ _ c.in-Ok-due_for.due.status c.in-Ok-due_for.due.text c.in-Ok.ensures.held c.in-Ok.ensures.whole
    (subst (λ (input : List ℕ). IsDue input c.in-Ok-due_for.due.status c.in-Ok-due_for.due.text) c.as_slice.ensures.value c.in-Ok-due_for.ensures))
    (printed-as _ _ _ c.in-Ok-due_for.due.status _ _ c.print.result c.as_slice-in-Ok-due_for.ensures c.print.ensures.printed)

pub returns-clause-answer : goal.returns-clause-answer
returns-clause-answer g c =
    no_memory (sym c.is_replay.ensures ∙ c.if-not-is_replay.false) refl (wrote-nothing _)
