use Rattle.std.proofs.Common.{arith}
use Rattle.turn_book.proofs.Moves.{passes}
use Rattle.turn_book.proofs.seat.TurnBook.pass.Goals as goal

pub store-requires : goal.store-requires
store-requires g c =
    let h = c.requires.held in (
      c.requires.table,
      (let n = c.args.self.now.counts.0 in omega arith),
      passes g.O.Object.start g.O.Object.entries g.O.Object.opening _ _ c.args.place.now.me c.args.ticket h.0 h.2.3.0 h.1 h.2.0 h.2.1 h.2.2 h.2.3.1,
    )
