use Rattle.std.proofs.Common.{refl, subst, ℕ, List}
use Rattle.session_serve.specs.declared.holding.Paper.TheVariants as paper
use Rattle.serve_talk.specs.Fitting.{opened_by}
use Rattle.session_talk.specs.declared.actions.Ask.TheVariants as ask
use Rattle.shared_accounts.specs.Desks.{desk_start}
use Rattle.shared_accounts.specs.Sharing.{Attempts}
use Rattle.turn_book.specs.Book.{began, view}
use Rattle.session_serve.proofs.Owning.{end_fell, holds_account, holds_taken, locked_answered}
use Rattle.session_serve.proofs.settling.settle_locked.Goals as goal

pub returns-in-Done-clause-answered : goal.returns-in-Done-clause-answered
returns-in-Done-clause-answered g c draws =
    locked_answered (began desk_start c.args.accounts.now.book) (view c.args.seat.now) (view c.settle_locked.new.seat) c.args.held.now c.settled.new.self draws (g.C.Clock.given c.args.clock.now) (g.C.Clock.given c.now-reading.new.self) c.now-reading.result c.now-reading.ensures.given
    c.args.user c.args.evidences c.args.flags c.in-Done.reply (subst (λ (user : List ℕ). Attempts (began desk_start c.args.accounts.now.book) (view c.args.seat.now) (view c.settle_locked.new.seat) user c.args.evidences c.args.flags c.now-reading.result c.in-Done.reply) c.as_slice.ensures c.in-Done.ensures.settled)
    (holds_account c.args.held.now c.take_late-late.new.self c.settled.new.self paper.Nothing (opened_by c.in-Done.reply) (holds_taken c.args.held.now c.take_late-late.new.self c.take_late-late.ensures.left) c.settled.ensures)

pub returns-clause-fell : goal.returns-clause-fell
returns-clause-fell g c draws =
    end_fell (began desk_start c.args.accounts.now.book) (view c.args.seat.now) (view c.settle_locked.new.seat) c.args.held.now c.take_late-late.new.self draws (g.C.Clock.given c.args.clock.now) (g.C.Clock.given c.now-reading.new.self) c.now-reading.result c.now-reading.ensures.given
    (ask.SettleLocked c.args.user c.args.evidences c.args.flags) refl c.in-BookEnd.ensures.settled
