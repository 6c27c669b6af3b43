use Rattle.std.proofs.Common.{refl}
use Rattle.session_serve.specs.declared.holding.Paper.TheVariants as paper
use Rattle.session_talk.specs.declared.actions.Ask.TheVariants as ask
use Rattle.shared_accounts.specs.Desks.{desk_start}
use Rattle.turn_book.specs.Book.{began, view}
use Rattle.session_serve.proofs.Owning.{committed_answered, end_fell, holds_paper, holds_taken, memory_fell, stale_statement_answered}
use Rattle.session_serve.proofs.statements.commit.Goals as goal

pub returns-in-Done-clause-answered : goal.returns-in-Done-clause-answered
returns-in-Done-clause-answered g c draws =
    committed_answered (began desk_start c.args.accounts.now.book) (view c.args.seat.now) (view c.commit.new.seat) c.args.held.now c.take_ticket-ticket.new.self draws (g.C.Clock.given c.args.clock.now) (g.C.Clock.given c.now-reading.new.self) c.now-reading.result c.now-reading.ensures.given
    c.args.prepared c.args.actor c.in-Done.reply c.in-Done.ensures.committed.0 (holds_taken c.args.held.now c.take_ticket-ticket.new.self c.take_ticket-ticket.ensures.left) c.requires.keeps

pub returns-in-Stale-clause-answered : goal.returns-in-Stale-clause-answered
returns-in-Stale-clause-answered g c draws =
    stale_statement_answered (began desk_start c.args.accounts.now.book) (view c.args.seat.now) (view c.commit.new.seat) c.args.held.now c.was_late.new.self draws (g.C.Clock.given c.args.clock.now) (g.C.Clock.given c.now-reading.new.self) c.now-reading.result c.now-reading.ensures.given
    c.args.prepared c.args.actor c.take_ticket-ticket.result c.in-Stale.late c.in-Stale.statement c.take_ticket-ticket.ensures.ticket
    c.in-Stale.ensures.committed.0 c.in-Stale.ensures.committed.1
    (holds_paper c.args.held.now c.take_ticket-ticket.new.self c.was_late.new.self paper.Nothing _ (holds_taken c.args.held.now c.take_ticket-ticket.new.self c.take_ticket-ticket.ensures.left) c.was_late.ensures) c.requires.keeps

pub returns-in-Memory-clause-fell : goal.returns-in-Memory-clause-fell
returns-in-Memory-clause-fell g c draws =
    memory_fell (began desk_start c.args.accounts.now.book) (view c.args.seat.now) (view c.commit.new.seat) c.args.held.now c.take_ticket-ticket.new.self draws (g.C.Clock.given c.args.clock.now) (g.C.Clock.given c.now-reading.new.self) c.now-reading.result c.now-reading.ensures.given
    (ask.Commit c.args.prepared c.args.actor) refl c.in-Memory.ensures.committed

pub returns-in-BookEnd-clause-fell : goal.returns-in-BookEnd-clause-fell
returns-in-BookEnd-clause-fell g c draws =
    end_fell (began desk_start c.args.accounts.now.book) (view c.args.seat.now) (view c.commit.new.seat) c.args.held.now c.take_ticket-ticket.new.self draws (g.C.Clock.given c.args.clock.now) (g.C.Clock.given c.now-reading.new.self) c.now-reading.result c.now-reading.ensures.given
    (ask.Commit c.args.prepared c.args.actor) refl c.in-BookEnd.ensures.committed
