use Rattle.turn_book.specs.Book.{IsOf}
use Rattle.turn_book.proofs.tests.write_all.Given as goal

abbrev pub invariant-loop-i : goal.invariant-loop-i
invariant-loop-i g l = IsOf g.O.Object.start l.book l.seat
