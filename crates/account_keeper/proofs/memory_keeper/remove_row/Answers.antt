use Rattle.std.proofs.Common.{List, Ok, sym, ◌∙◌, subst}
use Rattle.lg_outside.specs.Keeping.{Ascend}
use Rattle.lg_outside.specs.declared.keepers.Row.{Row}
use Rattle.account_keeper.specs.Shelf.{IsPlace}
use Rattle.account_keeper.proofs.RowLaws.{removed, remove_ascends}
use Rattle.account_keeper.proofs.memory_keeper.remove_row.Goals as goal

pub returns-in-Ok-clause-ascend : goal.returns-in-Ok-clause-ascend
returns-in-Ok-clause-ascend c =
    subst Ascend (sym (c.remove.ensures.items ∙ removed c.args.key c.in-Ok.place c.args.rows.now.items (subst (λ (rows : List Row). IsPlace c.args.key rows (Ok c.in-Ok.place)) c.deref.ensures.value c.in-Ok.ensures)))
    (remove_ascends c.args.key c.args.rows.now.items c.requires)
