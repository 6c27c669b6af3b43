use Rattle.turn_book.specs.Book.{IsOf}
use Rattle.turn_probe.proofs.take_turns.Given as goal

abbrev pub invariant-loop : goal.invariant-loop
invariant-loop g l = IsOf g.O.Object.start l.book l.seat
