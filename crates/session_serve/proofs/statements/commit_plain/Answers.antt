use Rattle.std.proofs.Common.{refl}
use Rattle.session_talk.specs.declared.actions.Ask.TheVariants as ask
use Rattle.shared_accounts.specs.Desks.{desk_start}
use Rattle.turn_book.specs.Book.{began, view}
use Rattle.session_serve.proofs.Owning.{committed_plain_answered, end_fell, holds_called, memory_fell}
use Rattle.session_serve.proofs.statements.commit_plain.Goals as goal

pub returns-in-Done-clause-answered : goal.returns-in-Done-clause-answered
returns-in-Done-clause-answered g c draws =
    committed_plain_answered (began desk_start c.args.accounts.now.book) (view c.args.seat.now) (view c.commit_plain.new.seat) c.args.held.now c.call.new.self draws (g.C.Clock.given c.args.clock.now) (g.C.Clock.given c.now-reading.new.self) c.now-reading.result c.now-reading.ensures.given
    c.args.statement c.args.actor c.in-Done.reply c.in-Done.ensures.committed (holds_called c.args.held.now c.call.new.self c.call.ensures) c.requires.keeps

pub returns-in-Memory-clause-fell : goal.returns-in-Memory-clause-fell
returns-in-Memory-clause-fell g c draws =
    memory_fell (began desk_start c.args.accounts.now.book) (view c.args.seat.now) (view c.commit_plain.new.seat) c.args.held.now c.call.new.self draws (g.C.Clock.given c.args.clock.now) (g.C.Clock.given c.now-reading.new.self) c.now-reading.result c.now-reading.ensures.given
    (ask.CommitPlain c.args.statement c.args.actor) refl c.in-Memory.ensures.committed

pub returns-in-BookEnd-clause-fell : goal.returns-in-BookEnd-clause-fell
returns-in-BookEnd-clause-fell g c draws =
    end_fell (began desk_start c.args.accounts.now.book) (view c.args.seat.now) (view c.commit_plain.new.seat) c.args.held.now c.call.new.self draws (g.C.Clock.given c.args.clock.now) (g.C.Clock.given c.now-reading.new.self) c.now-reading.result c.now-reading.ensures.given
    (ask.CommitPlain c.args.statement c.args.actor) refl c.in-BookEnd.ensures.committed
