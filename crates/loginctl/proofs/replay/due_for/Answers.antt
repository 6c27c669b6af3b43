use Rattle.std.proofs.Common.{sym, subst, ℕ, List, arith, Err}
use Rattle.script_text.specs.Grammar.{Accepts}
use Rattle.script_text.specs.Reading.{Reads}
use Rattle.script_text.specs.declared.ScriptFault.{ScriptFault}
use Rattle.loginctl.specs.Replayed.{IsDue, overlong, refused, replayed}
use Rattle.loginctl.proofs.Dues.{due-refused}
use Rattle.loginctl.specs.declared.status.Status.TheVariants.{Done}
use Rattle.loginctl.proofs.replay.due_for.Goals as goal

pub returns-then-input-gt-LONGEST_SCRIPT : goal.returns-then-input-gt-LONGEST_SCRIPT
returns-then-input-gt-LONGEST_SCRIPT c =
    due-refused c.args.input.now c.refused.result 0 (overlong c.if-input-gt-LONGEST_SCRIPT.true) c.refused.ensures.status c.refused.ensures.line

pub returns-in_ok-replayed-in-Ok : goal.returns-in_ok-replayed-in-Ok
returns-in_ok-replayed-in-Ok c =
    subst (λ (text : List ℕ). IsDue c.args.input.now Done text) (sym (c.in_ok-replayed-in-Ok.ensures {u = tt}))
    (replayed c.in-Ok.script (let short = c.if-input-gt-LONGEST_SCRIPT.false in omega (arith, short)) (c.in-Ok.ensures {u = tt}).accepts.0
    (c.histories_are_legal.ensures c.in-Ok.script.setup.accounts c.in-Ok.script.setup.settings c.in-Ok.script.events)
    (c.sessions_are_transcripts.ensures c.in-Ok.script.setup.accounts c.in-Ok.script.setup.settings c.in-Ok.script.events)
    (c.replies_are_told.ensures c.in-Ok.script.setup.accounts c.in-Ok.script.setup.settings c.in-Ok.script.events))

pub returns-in-Err-BadLine : goal.returns-in-Err-BadLine
returns-in-Err-BadLine c =
    due-refused c.args.input.now c.refused-in-Err-BadLine.result c.in-Err-BadLine.line
    (refused c.in-Err-BadLine.line (let short = c.if-input-gt-LONGEST_SCRIPT.false in omega (arith, short))
    (subst (λ (f : ScriptFault). Accepts c.args.input.now (Err f)) c.in-Err-BadLine.field-0-is (c.in-Err-BadLine.ensures {u = tt}).accepts)
    (subst (λ (f : ScriptFault). Reads c.args.input.now (Err f)) c.in-Err-BadLine.field-0-is (c.in-Err-BadLine.ensures {u = tt}).reads))
    c.refused-in-Err-BadLine.ensures.status c.refused-in-Err-BadLine.ensures.line
