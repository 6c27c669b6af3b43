use Rattle.std.proofs.Common.{ℕ, List, [], ◌∷◌, ◌++◌, All, ap, ◌∙◌, subst}
use Rattle.result_sets.specs.declared.table.Cell.{Cell}
use Rattle.result_sets.specs.Table.{IsShort, row_text}
use Rattle.result_sets.proofs.Steps.{all_step, map_step}
use Rattle.result_sets.proofs.writing.write_rows.Goals as goal

pub loop-row-preserved : goal.loop-row-preserved
loop-row-preserved c = record {
  written = map_step c.args.rows.now c.loop-row.row-index c.row-item.result c.loop-row-test.true c.row-item.is row_text
      c.args.payloads.now c.loop-row.payloads c.push.new.self c.loop-row.invariant.written
      (c.in_ok-push.ensures.ok ∙ ap (λ (p : List ℕ). c.loop-row.payloads ++ p ∷ []) c.in_ok-payload.ensures.ok
      ∙ ap (λ (r : List Cell). c.loop-row.payloads ++ row_text r ∷ []) c.as_slice.ensures);
  short = all_step c.args.rows.now c.loop-row.row-index c.row-item.result c.loop-row-test.true c.row-item.is
      (λ r. All IsShort r) c.loop-row.invariant.short (subst (λ (r : List Cell). All IsShort r) c.as_slice.ensures c.in_ok-payload.ensures.short);
}
