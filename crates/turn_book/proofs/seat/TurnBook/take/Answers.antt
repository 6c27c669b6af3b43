use Rattle.std.proofs.Common.{◌≡◌, length, refl, ap, ◌∙◌, subst, arith}
use Rattle.turn_book.specs.Steps.{Took}
use Rattle.turn_book.proofs.Moves.{looks}
use Rattle.turn_book.proofs.seat.TurnBook.take.Goals as goal

pub loop-init : goal.loop-init
loop-init g c = (refl, refl)

pub load-served-requires : goal.load-served-requires
load-served-requires g c =
    let i = c.loop.invariant in
    let carried : length c.loop.place.me.0.carried ≡ length c.args.place.now.me.0.carried = ap (λ m. length m.0.carried) i.1 in
    let some_number = c.requires.waits.2 in (
      i.0 ∙ c.requires.table,
      (let n = c.args.self.now.counts.0 in omega arith),
      looks g.O.Object.start g.O.Object.entries g.O.Object.opening _ _ c.loop.place.me c.args.ticket (ap (λ m. m.0.stage) i.1 ∙ c.requires.waits.0) (ap (λ m. m.1) i.1 ∙ c.requires.waits.1) (omega arith),
    )

pub returns-then-served-ticket-clause-table : goal.returns-then-served-ticket-clause-table
returns-then-served-ticket-clause-table g c = c.load-served.ensures.0 ∙ c.loop.invariant.0

pub returns-then-served-ticket-clause-took : goal.returns-then-served-ticket-clause-took
returns-then-served-ticket-clause-took g c =
    let i = c.loop.invariant in
    subst (λ m. Took g.O.Object.start g.O.Object.entries g.O.Object.opening c.args.ticket m c.load-served.new.seat.me) i.1
    ((c.load-served.ensures.2 c.args.ticket (ap (λ m. m.0.stage) i.1 ∙ c.requires.waits.0)).0 c.if-served-ticket.true)

pub loop-preserved : goal.loop-preserved
loop-preserved g c =
    let i = c.loop.invariant in
    (c.load-served.ensures.0 ∙ i.0, (c.load-served.ensures.2 c.args.ticket (ap (λ m. m.0.stage) i.1 ∙ c.requires.waits.0)).1 c.if-served-ticket.false ∙ i.1)
