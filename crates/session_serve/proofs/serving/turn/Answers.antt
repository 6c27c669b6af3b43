use Rattle.lg_outside.specs.Faults.{Rose}
use Rattle.serve_talk.specs.Paths.{Halts}
use Rattle.session_serve.specs.Saying.{Broke, Said}
use Rattle.session_serve.specs.Siding.{side_of}
use Rattle.session_serve.specs.Standing.{GoesOn, point_of, stands_of}
use Rattle.shared_accounts.specs.Desks.{desk_start}
use Rattle.turn_book.specs.Book.{began, view}
use Rattle.session_serve.proofs.Goes.{fell_halts, if_err, if_ok, is_answered, own_broke, own_goes_on, ready_can, ready_may, ready_own}
use Rattle.session_serve.proofs.serving.turn.Goals as goal

pub answer-requires-clause-kind : goal.answer-requires-clause-kind
answer-requires-clause-kind g c = ready_own c.args.session.now c.args.frames.now c.args.held.now c.args.asks c.requires.ready c.in-None.ensures.none

pub answer-requires-clause-may : goal.answer-requires-clause-may
answer-requires-clause-may g c = ready_may c.args.session.now c.args.frames.now c.args.held.now c.args.asks c.requires.ready

pub answer-requires-clause-can : goal.answer-requires-clause-can
answer-requires-clause-can g c = ready_can c.args.session.now c.args.frames.now c.args.held.now c.args.asks c.requires.ready

pub give-requires-clause-answers : goal.give-requires-clause-answers
give-requires-clause-answers g c = (is_answered c.args.session.now c.args.session.now c.args.frames.now c.args.held.now c.answer.new.held (g.L.Link.told c.args.link.now) (g.L.Link.told c.args.link.now) (side_of (began desk_start c.args.accounts.now.book) (view c.args.seat.now) (g.D.Draws.given c.args.draws.now) (g.C.Clock.given c.args.clock.now)) (side_of (began desk_start c.args.accounts.now.book) (view c.answer.new.seat) (g.D.Draws.given c.answer.new.draws) (g.C.Clock.given c.answer.new.clock)) (began desk_start c.args.accounts.now.book) c.args.asks c.requires.ready (ready_own c.args.session.now c.args.frames.now c.args.held.now c.args.asks c.requires.ready c.in-None.ensures.none) c.in-Ok.given c.in-Ok.ensures.answered).0

pub give-requires-clause-asked : goal.give-requires-clause-asked
give-requires-clause-asked g c = (is_answered c.args.session.now c.args.session.now c.args.frames.now c.args.held.now c.answer.new.held (g.L.Link.told c.args.link.now) (g.L.Link.told c.args.link.now) (side_of (began desk_start c.args.accounts.now.book) (view c.args.seat.now) (g.D.Draws.given c.args.draws.now) (g.C.Clock.given c.args.clock.now)) (side_of (began desk_start c.args.accounts.now.book) (view c.answer.new.seat) (g.D.Draws.given c.answer.new.draws) (g.C.Clock.given c.answer.new.clock)) (began desk_start c.args.accounts.now.book) c.args.asks c.requires.ready (ready_own c.args.session.now c.args.frames.now c.args.held.now c.args.asks c.requires.ready c.in-None.ensures.none) c.in-Ok.given c.in-Ok.ensures.answered).1

pub returns-in-Ok-clause-goes_on : goal.returns-in-Ok-clause-goes_on
returns-in-Ok-clause-goes_on g c =
    if_ok (Said (stands_of c.args.session.now) c.in-Ok.given (stands_of c.give.new.session) (g.L.Link.told c.args.link.now) (g.L.Link.told c.give.new.link))
    (GoesOn (began desk_start c.args.accounts.now.book) (point_of c.args.session.now c.args.frames.now c.args.held.now (g.L.Link.told c.args.link.now) (side_of (began desk_start c.args.accounts.now.book) (view c.args.seat.now) (g.D.Draws.given c.args.draws.now) (g.C.Clock.given c.args.clock.now))) c.give.new.session c.args.frames.now c.answer.new.held (g.L.Link.told c.give.new.link) (side_of (began desk_start c.args.accounts.now.book) (view c.answer.new.seat) (g.D.Draws.given c.answer.new.draws) (g.C.Clock.given c.answer.new.clock)))
    c.give.result (λ next said. own_goes_on c.args.session.now c.give.new.session c.args.frames.now c.args.held.now c.answer.new.held (g.L.Link.told c.args.link.now) (g.L.Link.told c.give.new.link) (side_of (began desk_start c.args.accounts.now.book) (view c.args.seat.now) (g.D.Draws.given c.args.draws.now) (g.C.Clock.given c.args.clock.now)) (side_of (began desk_start c.args.accounts.now.book) (view c.answer.new.seat) (g.D.Draws.given c.answer.new.draws) (g.C.Clock.given c.answer.new.clock)) (began desk_start c.args.accounts.now.book) c.args.asks c.requires.ready (ready_own c.args.session.now c.args.frames.now c.args.held.now c.args.asks c.requires.ready c.in-None.ensures.none) c.in-Ok.given c.in-Ok.ensures.answered next said) c.give.ensures.said

pub returns-in-Ok-clause-halts : goal.returns-in-Ok-clause-halts
returns-in-Ok-clause-halts g c =
    if_err (Broke (stands_of c.args.session.now) c.in-Ok.given (g.L.Link.told c.args.link.now) (g.L.Link.told c.give.new.link) (Rose (g.L.Link.fault_count c.args.link.now) (g.L.Link.fault_count c.give.new.link)))
    (Halts (point_of c.args.session.now c.args.frames.now c.args.held.now (g.L.Link.told c.args.link.now) (side_of (began desk_start c.args.accounts.now.book) (view c.args.seat.now) (g.D.Draws.given c.args.draws.now) (g.C.Clock.given c.args.clock.now))) (record { link = g.L.Link.told c.give.new.link; side = (side_of (began desk_start c.args.accounts.now.book) (view c.answer.new.seat) (g.D.Draws.given c.answer.new.draws) (g.C.Clock.given c.answer.new.clock)) }) (Rose (g.L.Link.fault_count c.args.link.now) (g.L.Link.fault_count c.give.new.link)))
    c.give.result (λ how broke. own_broke c.args.session.now c.give.new.session c.args.frames.now c.args.held.now c.answer.new.held (g.L.Link.told c.args.link.now) (g.L.Link.told c.give.new.link) (side_of (began desk_start c.args.accounts.now.book) (view c.args.seat.now) (g.D.Draws.given c.args.draws.now) (g.C.Clock.given c.args.clock.now)) (side_of (began desk_start c.args.accounts.now.book) (view c.answer.new.seat) (g.D.Draws.given c.answer.new.draws) (g.C.Clock.given c.answer.new.clock)) (began desk_start c.args.accounts.now.book) c.args.asks c.requires.ready (ready_own c.args.session.now c.args.frames.now c.args.held.now c.args.asks c.requires.ready c.in-None.ensures.none) c.in-Ok.given c.in-Ok.ensures.answered (Rose (g.L.Link.fault_count c.args.link.now) (g.L.Link.fault_count c.give.new.link)) how broke) c.give.ensures.broke

pub returns-in-Err-clause-halts : goal.returns-in-Err-clause-halts
returns-in-Err-clause-halts g c =
    fell_halts c.args.session.now c.args.frames.now c.args.held.now (g.L.Link.told c.args.link.now) (side_of (began desk_start c.args.accounts.now.book) (view c.args.seat.now) (g.D.Draws.given c.args.draws.now) (g.C.Clock.given c.args.clock.now)) (side_of (began desk_start c.args.accounts.now.book) (view c.answer.new.seat) (g.D.Draws.given c.answer.new.draws) (g.C.Clock.given c.answer.new.clock)) c.args.asks c.requires.ready (ready_own c.args.session.now c.args.frames.now c.args.held.now c.args.asks c.requires.ready c.in-None.ensures.none)
    (Rose (g.L.Link.fault_count c.args.link.now) (g.L.Link.fault_count c.args.link.now)) c.in-Err.how c.in-Err.ensures.fell
