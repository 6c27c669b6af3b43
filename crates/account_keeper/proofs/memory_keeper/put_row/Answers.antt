use Rattle.std.proofs.Common.{List, Ok, sym, subst}
use Rattle.lg_outside.specs.Keeping.{Ascend}
use Rattle.lg_outside.specs.declared.keepers.Row.{Row}
use Rattle.account_keeper.specs.Shelf.{IsPlace}
use Rattle.account_keeper.proofs.RowLaws.{put_over, put_ascends}
use Rattle.account_keeper.proofs.memory_keeper.put_row.Goals as goal

pub returns-in-Ok-clause-ok : goal.returns-in-Ok-clause-ok
returns-in-Ok-clause-ok c = put_over c.args.row.key c.in-Ok.place c.args.row.bytes c.args.rows.now.items (subst (λ (rows : List Row). IsPlace c.args.row.key rows (Ok c.in-Ok.place)) c.deref.ensures.value c.in-Ok.ensures)

pub returns-in-Ok-clause-ascend : goal.returns-in-Ok-clause-ascend
returns-in-Ok-clause-ascend c =
    subst Ascend (sym (put_over c.args.row.key c.in-Ok.place c.args.row.bytes c.args.rows.now.items (subst (λ (rows : List Row). IsPlace c.args.row.key rows (Ok c.in-Ok.place)) c.deref.ensures.value c.in-Ok.ensures)))
    (put_ascends c.args.row.key c.args.row.bytes c.args.rows.now.items c.requires)
