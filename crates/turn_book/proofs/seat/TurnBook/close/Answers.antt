use Rattle.std.proofs.Common.{refl, ap, subst, arith}
use Rattle.atomic_table.specs.Table.{Final, Seen}
use Rattle.std.specs.Slots.{slots_items}
use Rattle.turn_book.specs.Rule.{Kept}
use Rattle.turn_book.proofs.Moves.{hands}
use Rattle.turn_book.proofs.Turning.{idle_is}
use Rattle.turn_book.proofs.Closing.{open_turn, object_stands, object_began, object_whole, never_open, ended_drawn}
use Rattle.turn_book.proofs.seat.TurnBook.close.Goals as goal

pub split_seat-hand-requires : goal.split_seat-hand-requires
split_seat-hand-requires g c = (
  c.requires.own.0,
  (let n = c.args.self.counts.0 in omega arith),
  hands g.O.Object.start g.O.Object.entries g.O.Object.opening 0 c.args.seat.now.place.id c.args.seat.now.place.me (idle_is c.args.seat.now.place.me.0.stage c.args.seat.now.idle),
)

pub returns-then-next-serving-clause-some : goal.returns-then-next-serving-clause-some
returns-then-next-serving-clause-some g c =
    let v = c.args.seat.now.place.me.0 in
    let ws = slots_items c.close_with-closed.result.words in
    let xs = slots_items c.close_with-closed.result.slots in
    let hand = c.split_seat-hand.result in
    let end = subst (λ w. Final (Seen (Kept g.O.Object.start g.O.Object.entries g.O.Object.opening) hand.id w) ws xs) (ap (λ m. m.0) c.split_seat-hand.ensures.4) c.close_with-closed.ensures.values.2 in (
      object_stands g.O.Object.start g.O.Object.entries g.O.Object.opening hand.id v ws xs end c.word-next.result c.word-serving.result c.word-next.ensures c.word-serving.ensures c.take-object.result c.take-object.ensures.value c.if-next-serving.true,
      object_began g.O.Object.start g.O.Object.entries g.O.Object.opening hand.id v ws xs end c.word-next.result c.word-serving.result c.word-next.ensures c.word-serving.ensures c.take-object.result _ c.take-object.ensures.value c.if-next-serving.true c.requires.own.1 c.requires.own.2,
    )

pub returns-then-next-serving-clause-all : goal.returns-then-next-serving-clause-all
returns-then-next-serving-clause-all g c all =
    let v = c.args.seat.now.place.me.0 in
    let ws = slots_items c.close_with-closed.result.words in
    let xs = slots_items c.close_with-closed.result.slots in
    let hand = c.split_seat-hand.result in
    let end = subst (λ w. Final (Seen (Kept g.O.Object.start g.O.Object.entries g.O.Object.opening) hand.id w) ws xs) (ap (λ m. m.0) c.split_seat-hand.ensures.4) c.close_with-closed.ensures.values.2 in
    (refl, object_whole g.O.Object.start g.O.Object.entries g.O.Object.opening hand.id v ws xs end c.word-next.result c.word-serving.result c.word-next.ensures c.word-serving.ensures c.take-object.result c.take-object.ensures.value c.if-next-serving.true all)

pub returns-then-next-serving-clause-drawn : goal.returns-then-next-serving-clause-drawn
returns-then-next-serving-clause-drawn g c all ended =
    let v = c.args.seat.now.place.me.0 in
    let ws = slots_items c.close_with-closed.result.words in
    let xs = slots_items c.close_with-closed.result.slots in
    let hand = c.split_seat-hand.result in
    let end = subst (λ w. Final (Seen (Kept g.O.Object.start g.O.Object.entries g.O.Object.opening) hand.id w) ws xs) (ap (λ m. m.0) c.split_seat-hand.ensures.4) c.close_with-closed.ensures.values.2 in
    ended_drawn g.O.Object.start g.O.Object.entries g.O.Object.opening hand.id v ws xs end c.word-next.result c.word-serving.result c.word-next.ensures c.word-serving.ensures all ended

pub returns-else-next-serving-clause-none : goal.returns-else-next-serving-clause-none
returns-else-next-serving-clause-none g c =
    let v = c.args.seat.now.place.me.0 in
    let ws = slots_items c.close_with-closed.result.words in
    let xs = slots_items c.close_with-closed.result.slots in
    let hand = c.split_seat-hand.result in
    let end = subst (λ w. Final (Seen (Kept g.O.Object.start g.O.Object.entries g.O.Object.opening) hand.id w) ws xs) (ap (λ m. m.0) c.split_seat-hand.ensures.4) c.close_with-closed.ensures.values.2 in
    open_turn g.O.Object.start g.O.Object.entries g.O.Object.opening hand.id v ws xs end c.word-next.result c.word-serving.result c.word-next.ensures c.word-serving.ensures c.if-next-serving.false

pub returns-else-next-serving-clause-all : goal.returns-else-next-serving-clause-all
returns-else-next-serving-clause-all g c all =
    let v = c.args.seat.now.place.me.0 in
    let ws = slots_items c.close_with-closed.result.words in
    let xs = slots_items c.close_with-closed.result.slots in
    let hand = c.split_seat-hand.result in
    let end = subst (λ w. Final (Seen (Kept g.O.Object.start g.O.Object.entries g.O.Object.opening) hand.id w) ws xs) (ap (λ m. m.0) c.split_seat-hand.ensures.4) c.close_with-closed.ensures.values.2 in
    absurd (c.if-next-serving.false (never_open g.O.Object.start g.O.Object.entries g.O.Object.opening hand.id v ws xs end c.word-next.result c.word-serving.result c.word-next.ensures c.word-serving.ensures all (idle_is v.stage c.args.seat.now.idle)))

pub returns-else-next-serving-clause-drawn : goal.returns-else-next-serving-clause-drawn
returns-else-next-serving-clause-drawn g c all ended =
    let v = c.args.seat.now.place.me.0 in
    let ws = slots_items c.close_with-closed.result.words in
    let xs = slots_items c.close_with-closed.result.slots in
    let hand = c.split_seat-hand.result in
    let end = subst (λ w. Final (Seen (Kept g.O.Object.start g.O.Object.entries g.O.Object.opening) hand.id w) ws xs) (ap (λ m. m.0) c.split_seat-hand.ensures.4) c.close_with-closed.ensures.values.2 in
    ended_drawn g.O.Object.start g.O.Object.entries g.O.Object.opening hand.id v ws xs end c.word-next.result c.word-serving.result c.word-next.ensures c.word-serving.ensures all ended
