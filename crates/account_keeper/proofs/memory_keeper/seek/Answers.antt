use Rattle.account_keeper.proofs.RowLaws.{there_at, absent_at, absent_behind}
use Rattle.account_keeper.proofs.memory_keeper.seek.Goals.{else-place-rows-via-then-place-rows+else-rows-place, else-place-rows-via-else-place-rows}
use Rattle.account_keeper.proofs.memory_keeper.seek.Goals as goal

pub returns-then-rows-place : goal.returns-then-rows-place
returns-then-rows-place c =
    there_at c.args.key c.place_of-place.result c.args.rows.now c.index-rows-place.result c.requires c.place_of-place.ensures
    c.if-place-rows.true c.if-rows-place.true

pub returns : goal.returns
returns c = elim c.else-place-rows.branch [
  | else-place-rows-via-then-place-rows+else-rows-place w ↦
      absent_at c.args.key c.place_of-place.result c.args.rows.now w.index-rows-place.result c.requires c.place_of-place.ensures w.if-rows-place.false
  | else-place-rows-via-else-place-rows w ↦
      absent_behind c.args.key c.place_of-place.result c.args.rows.now c.requires c.place_of-place.ensures w.if-place-rows.false
]
