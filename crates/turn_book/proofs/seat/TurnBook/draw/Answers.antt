use Rattle.std.proofs.Common.{◌≡◌, ◌+◌, length, refl, sym, ap, ◌∙◌, arith}
use Rattle.std.proofs.lemmas.Grind.{common_steps}
use Rattle.turn_book.specs.Views.{finished, waiting}
use Rattle.turn_book.proofs.Moves.{finds, draws_ticket}
use Rattle.turn_book.proofs.seat.TurnBook.draw.Goals as goal

pub load-next-requires : goal.load-next-requires
load-next-requires g c = (
  c.requires.ready.0,
  (let n = c.args.self.now.counts.0 in omega arith),
  finds g.O.Object.start g.O.Object.entries g.O.Object.opening _ _ c.args.place.now.me,
)

pub loop-init : goal.loop-init
loop-init g c =
    let e = c.load-next.ensures.2 in
    (c.load-next.ensures.0, e.0 ∙ c.requires.ready.2, e.1, (λ z. e.2 z), λ z. e.3 z)

pub returns-then-next-eq-END-clause-table : goal.returns-then-next-eq-END-clause-table
returns-then-next-eq-END-clause-table g c = c.loop.invariant.0

pub returns-then-next-eq-END-clause-none : goal.returns-then-next-eq-END-clause-none
returns-then-next-eq-END-clause-none g c =
    let i = c.loop.invariant in
    λ k. (i.3 c.if-next-eq-END.true k, i.1 k)

pub overflow_add-next : goal.overflow_add-next
overflow_add-next g c = let i = c.loop.invariant.2 in first_of (omega arith, grind (arith, common_steps))

pub compare_exchange-found-requires : goal.compare_exchange-found-requires
compare_exchange-found-requires g c =
    let i = c.loop.invariant in
    let ne = c.if-next-eq-END.false in
    let low = i.2 in
    let same = i.4 ne in
    let carried : length c.loop.place.me.0.carried ≡ length c.args.place.now.me.0.carried = ap (λ v. length v.carried) same in
    let some_number = c.requires.ready.3 in (
      i.0 ∙ c.requires.ready.0,
      (let n = c.args.self.now.counts.0 in omega arith),
      draws_ticket g.O.Object.start g.O.Object.entries g.O.Object.opening _ _ c.loop.place.me c.loop.next (c.loop.next + 1) (omega arith) refl
          (ap (λ v. v.stage) same ∙ c.requires.ready.1) (omega arith),
    )

pub returns-then-found-next-clause-table : goal.returns-then-found-next-clause-table
returns-then-found-next-clause-table g c = c.compare_exchange-found.ensures.0 ∙ c.loop.invariant.0

pub returns-then-found-next-clause-some : goal.returns-then-found-next-clause-some
returns-then-found-next-clause-some g c =
    let i = c.loop.invariant in
    let ne = c.if-next-eq-END.false in
    let low = i.2 in
    let same = i.4 ne in
    let e = c.compare_exchange-found.ensures.2 in
    let hit = c.if-found-next.true in
    let now = (e.2 hit).0 ∙ ap (λ t. waiting t c.loop.place.me.0) hit ∙ ap (waiting c.loop.next) same in
    let bare = e.0 ∙ i.1 in
    (omega arith, (λ k. (now k, bare k)), ap (λ v. v.ended) (sym same) ∙ (e.2 hit).1)

pub loop-preserved : goal.loop-preserved
loop-preserved g c =
    let i = c.loop.invariant in
    let same = i.4 c.if-next-eq-END.false in
    let e = c.compare_exchange-found.ensures.2 in
    let miss = e.3 c.if-found-next.false in
    (c.compare_exchange-found.ensures.0 ∙ i.0, e.0 ∙ i.1, e.1, (λ z. miss.0 z ∙ ap finished same), λ z. miss.1 z ∙ same)
