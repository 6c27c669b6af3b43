use Rattle.std.proofs.Common.{◌∙◌, ap, sym, ◌<◌, ◌++◌, length, List, map, take, drop, true, slice_set, slice_index_or, arith}
use Rattle.std.proofs.Math.Numerals.{add-one}
use Rattle.login_lock.specs.declared.Tally.{Tally}
use Rattle.account_machine.specs.Executing.{row_with}
use Rattle.account_machine.specs.declared.rows.Row.{Row}
use Rattle.account_machine.proofs.Replaced.{mapped-more}
use Rattle.account_machine.proofs.executing.clear_rows.Goals as goal

pub rows-preserved : goal.rows-preserved
rows-preserved c =
    let f : Row → Row = row_with true (λ a. a) in
    let short : c.rows.row-index < length c.args.rows.now = omega arith in
    ap (λ (t : Tally). slice_set c.rows.rows c.rows.row-index (record { account = (slice_index_or c.rows.rows c.rows.row-index c.row-item.result).account; tally = t })) c.clear.ensures.value
    ∙ ap (λ (rows : List Row). slice_set rows c.rows.row-index (f (slice_index_or rows c.rows.row-index c.row-item.result))) c.rows.invariant
    ∙ mapped-more f c.args.rows.now c.rows.row-index c.row-item.result short
    ∙ ap (λ n. map f (take n c.args.rows.now) ++ drop n c.args.rows.now) (sym (add-one c.rows.row-index))
