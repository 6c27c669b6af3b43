use Rattle.session_serve.specs.Siding.{side_of}
use Rattle.shared_accounts.specs.Desks.{desk_start}
use Rattle.turn_book.specs.Book.{began, view}
use Rattle.session_serve.proofs.Goes.{as_asked, as_asked_one}
use Rattle.session_serve.proofs.answering.answer.Goals as goal

pub returns-in-Draw-clause-answered : goal.returns-in-Draw-clause-answered
returns-in-Draw-clause-answered g c =
    as_asked_one _ _ _ c.in-Draw.is _ _ _ _ _ (c.draw.ensures.answered (began desk_start c.args.accounts.now.book) (view c.args.seat.now) (g.C.Clock.given c.args.clock.now) c.requires.keeps)

pub returns-in-Observe-clause-answered : goal.returns-in-Observe-clause-answered
returns-in-Observe-clause-answered g c = as_asked _ _ _ c.in-Observe.is _ _ _ _ c.observe.result (c.observe.ensures.answered (g.D.Draws.given c.args.draws.now) (g.C.Clock.given c.args.clock.now))

pub returns-in-Renew-clause-answered : goal.returns-in-Renew-clause-answered
returns-in-Renew-clause-answered g c = as_asked _ _ _ c.in-Renew.is _ _ _ _ c.renew.result (c.renew.ensures.answered (g.D.Draws.given c.args.draws.now) (g.C.Clock.given c.args.clock.now))

pub returns-in-Check-clause-answered : goal.returns-in-Check-clause-answered
returns-in-Check-clause-answered g c = as_asked_one _ _ _ c.in-Check.is _ _ _ _ _ (c.check_evidence.ensures (began desk_start c.args.accounts.now.book) (side_of (began desk_start c.args.accounts.now.book) (view c.args.seat.now) (g.D.Draws.given c.args.draws.now) (g.C.Clock.given c.args.clock.now)) c.requires.keeps)

pub returns-in-Prepare-clause-answered : goal.returns-in-Prepare-clause-answered
returns-in-Prepare-clause-answered g c = as_asked _ _ _ c.in-Prepare.is _ _ _ _ c.prepare_on.result (c.prepare_on.ensures.answered (began desk_start c.args.accounts.now.book) (side_of (began desk_start c.args.accounts.now.book) (view c.args.seat.now) (g.D.Draws.given c.args.draws.now) (g.C.Clock.given c.args.clock.now)) c.requires.keeps)

pub returns-in-CommitLocked-clause-answered : goal.returns-in-CommitLocked-clause-answered
returns-in-CommitLocked-clause-answered g c = as_asked _ _ _ c.in-CommitLocked.is _ _ _ _ c.commit_locked.result (c.commit_locked.ensures.answered (g.D.Draws.given c.args.draws.now))

pub returns-in-CommitPlain-clause-answered : goal.returns-in-CommitPlain-clause-answered
returns-in-CommitPlain-clause-answered g c = as_asked _ _ _ c.in-CommitPlain.is _ _ _ _ c.commit_plain.result (c.commit_plain.ensures.answered (g.D.Draws.given c.args.draws.now))
