-- What the session comes to from here, it comes to from where it was.
use Rattle.std.proofs.Common.{◌≡◌, ◌≤◌, false}
use Rattle.serve_talk.specs.Paths.{Leads}
use Rattle.session_serve.specs.Holding.{Keeps, held_of}
use Rattle.session_serve.specs.Siding.{side_of}
use Rattle.session_serve.specs.Standing.{IsReady, point_of}
use Rattle.shared_accounts.specs.Desks.{desk_start}
use Rattle.shared_accounts.specs.Sharing.{Sits}
use Rattle.turn_book.specs.Book.{began, view}
use Rattle.turn_book.specs.Views.{entries_seen}
use Rattle.session_serve.proofs.sessions.serve_on.Given as goal

abbrev pub invariant-turns : goal.invariant-turns
invariant-turns g l = record {
  unfinished : g.L.Link.finished l.link ≡ false;
  own : Sits l.fn.accounts l.seat;
  number : (view l.seat).carried ≡ (view l.fn.seat).carried;
  ready : IsReady l.session l.frames l.held l.asks;
  keeps : Keeps (began desk_start l.fn.accounts.book) (entries_seen (view l.seat)) (held_of l.held);
  leads : Leads
      (point_of l.fn.session l.fn.frames l.fn.held (g.L.Link.told l.fn.link) (side_of (began desk_start l.fn.accounts.book) (view l.fn.seat) (g.D.Draws.given l.fn.draws) (g.C.Clock.given l.fn.clock)))
      (point_of l.session l.frames l.held (g.L.Link.told l.link) (side_of (began desk_start l.fn.accounts.book) (view l.seat) (g.D.Draws.given l.draws) (g.C.Clock.given l.clock)));
  rising : g.L.Link.fault_count l.fn.link ≤ g.L.Link.fault_count l.link;
  clock : g.C.Clock.made_with l.clock ≡ g.C.Clock.made_with l.fn.clock;
  draws : g.D.Draws.made_with l.draws ≡ g.D.Draws.made_with l.fn.draws;
}
