use Rattle.std.proofs.Common.{sym, ap, ◌∙◌, ◌≡◌, ℕ, List, ◌++◌}
use Rattle.world_table.specs.Table.{attempted, is_stale, next_number, replied, with_entry}
use Rattle.factor_chain.specs.declared.credentials.Look.{Look}
use Rattle.factor_chain.specs.declared.evidence_list.Evidence.{Evidence}
use Rattle.world_table.specs.Printing.{entry_line}
use Rattle.session_world.proofs.Giving.{on_ok, printed_so}
use Rattle.session_world.proofs.Turned.{settle_leads, stale_leads}
use Rattle.session_world.proofs.turns.settle.Goals as goal

pub returns-then-is_stale-clause-leads : goal.returns-then-is_stale-clause-leads
returns-then-is_stale-clause-leads c calls some = on_ok c.act.result c.act.ensures.acted
    (λ acted. stale_leads _ _ _ _ _ _ _ _ calls _ _ c.args.checked c.args.flags c.into_evidences.result (record { lines = c.print_stale.new.out; sent = c.args.out.now.sent }) some c.requires.begun c.requires.asked
    (sym (c.is_stale.ensures ∙ ap (λ (l : Look). is_stale c.args.table.now l) c.look.ensures) ∙ c.if-is_stale.true) c.into_evidences.ensures (printed_so c.args.out.now _ _ (c.in_ok-print_stale.ensures {u = tt})) acted)

pub returns-clause-leads : goal.returns-clause-leads
returns-clause-leads c calls some = on_ok c.act-2.result c.act-2.ensures.acted
    (λ acted. settle_leads _ _ _ _ _ _ _ _ calls _ _ _ c.args.checked c.args.flags c.in_ok-reply.reply (record { lines = c.settle.new.out; sent = c.args.out.now.sent }) some c.requires.begun c.requires.asked
    (sym (c.is_stale.ensures ∙ ap (λ (l : Look). is_stale c.args.table.now l) c.look.ensures) ∙ c.if-is_stale.false)
    ((c.in_ok-reply.ensures {u = tt}).reply ∙ same_for c (λ u e. replied c.args.table.now u e c.args.flags))
    ((c.in_ok-reply.ensures {u = tt}).entry ∙ same_for c (λ u e. with_entry c.args.table.now (attempted c.args.table.now u e c.args.flags)))
    (printed_so c.args.out.now _ _
    ((c.in_ok-reply.ensures {u = tt}).printed ∙ same_for c (λ u e. c.args.out.now.lines ++ entry_line (next_number c.args.table.now) (attempted c.args.table.now u e c.args.flags))))
    acted)
  where
    same_for : (d : goal.After-drop-checked-inside-6) {X : Type 0} (f : List ℕ → List Evidence → X) →
        f d.as_slice.result.now d.evidences.result.now ≡ f d.args.checked.look.user d.args.checked.evidences
    same_for d f = ap (λ (u : List ℕ). f u d.evidences.result.now) (d.as_slice.ensures ∙ ap (λ (l : Look). l.user) d.look-2.ensures)
        ∙ ap (λ (e : List Evidence). f d.args.checked.look.user e) d.evidences.ensures
