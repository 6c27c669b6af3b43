use Rattle.std.proofs.Common.{◌≡◌, ◌≢◌, ◌≤◌, ◌^◌, []}
use Rattle.turn_book.specs.Views.{finished}
use Rattle.turn_book.proofs.seat.TurnBook.draw.Given as goal

abbrev pub invariant-loop : goal.invariant-loop
invariant-loop g l =
    (l.place.table_id ≡ l.fn.place.table_id) × (l.place.me.1 ≡ []) × (l.next ≤ 2 ^ 62)
    × (l.next ≡ 2 ^ 62 → l.place.me.0 ≡ finished l.fn.place.me.0) × (l.next ≢ 2 ^ 62 → l.place.me.0 ≡ l.fn.place.me.0)
