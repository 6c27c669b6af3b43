use Rattle.std.proofs.Common.{ap, sym, subst}
use Rattle.serve_talk.specs.Fitting as fitting
use Rattle.serve_talk.proofs.Served.{paths_are_served}
use Rattle.serve_talk.proofs.Walked.{leads_none}
use Rattle.session_serve.specs.Holding.{Keeps, held_of}
use Rattle.session_serve.specs.declared.holding.Held.{Held}
use Rattle.shared_accounts.specs.Desks.{desk_start}
use Rattle.turn_book.specs.Book.{began, view}
use Rattle.turn_book.specs.Views.{entries_seen}
use Rattle.session_serve.proofs.Starting.{leads_first, newly_held, ready_first, stands_begin}
use Rattle.session_serve.proofs.sessions.serve.Goals as goal

pub begin-requires-clause-new : goal.begin-requires-clause-new
begin-requires-clause-new g c = (c.args.id, stands_begin c.new-session.result c.args.id c.new-session.ensures.talk c.new-session.ensures.next)

pub serve_on-requires-clause-ready : goal.serve_on-requires-clause-ready
serve_on-requires-clause-ready g c =
    ready_first _ c.args.id _ c.begin.new.session c.new_reader-frames.result c.new-held.result _ _ c.in-Ok.first
    (c.in-Ok.ensures.begins c.args.id (stands_begin c.new-session.result c.args.id c.new-session.ensures.talk c.new-session.ensures.next)
    (began desk_start c.args.accounts.now.book) (view c.args.seat.now) (g.C.Clock.given c.args.clock.now))
    c.new_reader-frames.ensures (newly_held c.new-held.result c.new-held.ensures)

pub serve_on-requires-clause-keeps : goal.serve_on-requires-clause-keeps
serve_on-requires-clause-keeps g c =
    subst (λ (held : fitting.Held). Keeps (began desk_start c.args.accounts.now.book) (entries_seen (view c.args.seat.now)) held)
    (ap (λ (h : Held). held_of h) (sym c.new-held.ensures)) (tt, tt)

pub returns-in-Ok-clause-serves : goal.returns-in-Ok-clause-serves
returns-in-Ok-clause-serves g c =
    c.serve_on.ensures.serves c.args.id _ (g.L.Link.fault_count c.args.link.now) c.in-Ok.ensures.rising
    (leads_first _ c.args.id _ c.begin.new.session c.new_reader-frames.result c.new-held.result _ _ c.in-Ok.first
    (c.in-Ok.ensures.begins c.args.id (stands_begin c.new-session.result c.args.id c.new-session.ensures.talk c.new-session.ensures.next)
    (began desk_start c.args.accounts.now.book) (view c.args.seat.now) (g.C.Clock.given c.args.clock.now))
    c.new_reader-frames.ensures (newly_held c.new-held.result c.new-held.ensures))

pub returns-clause-serves : goal.returns-clause-serves
returns-clause-serves g c =
    paths_are_served.halts c.args.id _ _ _ (g.L.Link.fault_count c.args.link.now) (g.L.Link.fault_count c.begin.new.link) c.in-Err.how (leads_none _)
    (c.in-Err.ensures.halts c.args.id (stands_begin c.new-session.result c.args.id c.new-session.ensures.talk c.new-session.ensures.next)
    (began desk_start c.args.accounts.now.book) (view c.args.seat.now) (g.C.Clock.given c.args.clock.now))
