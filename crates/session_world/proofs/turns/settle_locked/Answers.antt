use Rattle.std.proofs.Common.{ap, ◌∙◌, ℕ, List, ◌++◌}
use Rattle.world_table.specs.Table.{attempted, next_number, replied, with_entry}
use Rattle.world_table.specs.Printing.{entry_line}
use Rattle.session_world.proofs.Giving.{on_ok, printed_so}
use Rattle.session_world.proofs.Turned.{locked_leads}
use Rattle.session_world.proofs.turns.settle_locked.Goals as goal

pub returns-clause-leads : goal.returns-clause-leads
returns-clause-leads c calls some = on_ok c.act.result c.act.ensures.acted
    (λ acted. locked_leads _ _ _ _ _ _ _ _ calls _ _ _ c.args.user.now c.args.evidences.now c.args.flags c.in_ok-reply.reply (record { lines = c.settle.new.out; sent = c.args.out.now.sent }) some c.requires.begun c.requires.asked
    ((c.in_ok-reply.ensures {u = tt}).reply ∙ ap (λ (u : List ℕ). replied c.args.table.now u c.args.evidences.now c.args.flags) c.as_slice.ensures)
    ((c.in_ok-reply.ensures {u = tt}).entry ∙ ap (λ (u : List ℕ). with_entry c.args.table.now (attempted c.args.table.now u c.args.evidences.now c.args.flags)) c.as_slice.ensures)
    (printed_so c.args.out.now _ _
    ((c.in_ok-reply.ensures {u = tt}).printed
    ∙ ap (λ (u : List ℕ). c.args.out.now.lines ++ entry_line (next_number c.args.table.now) (attempted c.args.table.now u c.args.evidences.now c.args.flags)) c.as_slice.ensures))
    acted)
