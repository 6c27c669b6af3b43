use Rattle.std.proofs.Common.{refl}
use Rattle.session_serve.specs.declared.holding.Paper.TheVariants as paper
use Rattle.serve_talk.specs.Fitting.{opened_by}
use Rattle.session_talk.specs.declared.actions.Ask.TheVariants as ask
use Rattle.shared_accounts.specs.Desks.{desk_start}
use Rattle.turn_book.specs.Book.{began, view}
use Rattle.session_serve.proofs.Owning.{end_fell, holds_account, holds_paper, holds_taken, settled_answered, stale_answered}
use Rattle.session_serve.proofs.settling.settle.Goals as goal

pub returns-in-Done-clause-answered : goal.returns-in-Done-clause-answered
returns-in-Done-clause-answered g c draws =
    settled_answered (began desk_start c.args.accounts.now.book) (view c.args.seat.now) (view c.settle.new.seat) c.args.held.now c.settled.new.self draws (g.C.Clock.given c.args.clock.now) (g.C.Clock.given c.now-reading.new.self) c.now-reading.result c.now-reading.ensures.given
    c.args.checked c.args.flags c.in-Done.reply c.in-Done.ensures.settled.0
    (holds_account c.args.held.now c.take_ticket-ticket.new.self c.settled.new.self paper.Nothing (opened_by c.in-Done.reply) (holds_taken c.args.held.now c.take_ticket-ticket.new.self c.take_ticket-ticket.ensures.left) c.settled.ensures)

pub returns-in-Stale-clause-answered : goal.returns-in-Stale-clause-answered
returns-in-Stale-clause-answered g c draws =
    stale_answered (began desk_start c.args.accounts.now.book) (view c.args.seat.now) (view c.settle.new.seat) c.args.held.now c.was_late.new.self draws (g.C.Clock.given c.args.clock.now) (g.C.Clock.given c.now-reading.new.self) c.now-reading.result c.now-reading.ensures.given
    c.args.checked c.args.flags c.take_ticket-ticket.result c.in-Stale.late c.in-Stale.evidences c.take_ticket-ticket.ensures.ticket
    c.in-Stale.ensures.settled.0 c.in-Stale.ensures.settled.1
    (holds_paper c.args.held.now c.take_ticket-ticket.new.self c.was_late.new.self paper.Nothing _ (holds_taken c.args.held.now c.take_ticket-ticket.new.self c.take_ticket-ticket.ensures.left) c.was_late.ensures) c.requires.keeps

pub returns-in-BookEnd-clause-fell : goal.returns-in-BookEnd-clause-fell
returns-in-BookEnd-clause-fell g c draws =
    end_fell (began desk_start c.args.accounts.now.book) (view c.args.seat.now) (view c.settle.new.seat) c.args.held.now c.take_ticket-ticket.new.self draws (g.C.Clock.given c.args.clock.now) (g.C.Clock.given c.now-reading.new.self) c.now-reading.result c.now-reading.ensures.given
    (ask.Settle c.args.checked c.args.flags) refl c.in-BookEnd.ensures.settled
