use Rattle.std.proofs.Common.{ap, ◌∙◌, subst, arith}
use Rattle.turn_book.specs.Steps.{Meeting}
use Rattle.turn_book.proofs.Moves.{joins, tells}
use Rattle.turn_book.proofs.Turning.{joined_of}
use Rattle.turn_book.proofs.seat.TurnBook.join.Goals as goal

pub join_seat-requires : goal.join_seat-requires
join_seat-requires g c =
    let one = c.requires.one in
    let two = c.requires.two in (
      one.0,
      two.0,
      two.2,
      (let n = c.args.self.now.counts.0 in omega arith),
      joins g.O.Object.start g.O.Object.entries g.O.Object.opening 0 c.args.place.now.id c.args.place.now.me c.args.other.id c.args.other.me.0 one.1 two.1 one.3,
    )

pub load-requires : goal.load-requires
load-requires g c = (
  c.join_seat.ensures.0 ∙ c.requires.one.0,
  (let n = c.args.self.now.counts.0 in omega arith),
  tells g.O.Object.start g.O.Object.entries g.O.Object.opening _ _ c.join_seat.new.seat.me,
)

pub returns-clause-joined : goal.returns-clause-joined
returns-clause-joined g c =
    let j = c.join_seat.ensures.2 in
    let l = c.load.ensures.2 in
    joined_of c.args.place.now.me.0 c.args.other.me.0 c.load.new.seat.me.0 (ap (λ m. m.0) (l.0 ∙ j)) (subst (λ m. Meeting m.0.one m.0.two) j l.1)
