use Rattle.std.proofs.Common.{ℕ, List, [], ◌∷◌, ◌++◌, ap, ◌∙◌}
use Rattle.result_sets.specs.Layout.{column, column_text}
use Rattle.result_sets.proofs.Steps.{all_step, map_step}
use Rattle.result_sets.proofs.writing.write_columns.Goals as goal

pub loop-column-preserved : goal.loop-column-preserved
loop-column-preserved c = record {
  written = map_step c.args.columns.now c.loop-column.column-index c.column-item.result c.loop-column-test.true c.column-item.is column_text
      c.args.payloads.now c.loop-column.payloads c.push.new.self c.loop-column.invariant.written
      (c.in_ok-push.ensures.ok ∙ ap (λ (p : List ℕ). c.loop-column.payloads ++ p ∷ []) c.in_ok-payload.ensures.ok);
  spelled = all_step c.args.columns.now c.loop-column.column-index c.column-item.result c.loop-column-test.true c.column-item.is
      (λ v. column.Spells v (column_text v)) c.loop-column.invariant.spelled c.write_column.ensures.spelled;
}
