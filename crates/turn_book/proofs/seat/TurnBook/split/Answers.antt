use Rattle.std.proofs.Common.{rules, ◌≡◌, ◌<◌, [], ◌∷◌, length, ap, sym, ◌∙◌, subst, arith}
use Rattle.turn_book.specs.declared.view.Stage.TheVariants.{Idle}
use Rattle.turn_book.specs.Views.{branch, mine, next_number, right}
use Rattle.turn_book.proofs.Entries.{made_none}
use Rattle.turn_book.proofs.Moves.{splits, unmakes}
use Rattle.turn_book.proofs.Turning.{idle_is}
use Rattle.turn_book.proofs.seat.TurnBook.split.Goals as goal

pub load-requires : goal.load-requires
load-requires g c = (
  c.requires.own.0,
  (let n = c.args.self.now.counts.0 in omega arith),
  unmakes g.O.Object.start g.O.Object.entries g.O.Object.opening _ _ c.args.seat.now.place.me c.requires.own.1,
)

pub split_seat-requires : goal.split_seat-requires
split_seat-requires g c =
    let same = c.load.ensures.2.0 in
    let idle : c.load.new.seat.me.0.stage ≡ Idle = ap (λ m. m.0.stage) same ∙ idle_is c.args.seat.now.place.me.0.stage c.args.seat.now.idle in
    let some_number : 0 < length c.load.new.seat.me.0.carried = subst (λ m. 0 < length m.0.carried) (sym same) c.requires.own.1 in (
      c.load.ensures.0 ∙ c.requires.own.0,
      (let n = c.args.self.now.counts.0 in omega arith),
      splits g.O.Object.start g.O.Object.entries g.O.Object.opening 0 c.load.new.seat.id c.load.new.seat.me idle some_number,
    )

pub returns-clause-unmade : goal.returns-clause-unmade
returns-clause-unmade g c =
    let v = c.args.seat.now.place.me.0 in
    let is : c.split_seat.result.me.0 ≡ right v = search rules in
    ap mine is ∙ made_none 0 (branch (next_number v.carried) 0 ∷ []) v.seen c.load.ensures.2.1
