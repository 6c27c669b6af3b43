use Rattle.std.proofs.Common.{◌∙◌, refl, arith}
use Rattle.lg_outside.specs.Faults.{Rose}
use Rattle.serve_talk.proofs.Served.{paths_are_served}
use Rattle.serve_talk.proofs.Walked.{leads_more, leads_none}
use Rattle.session_serve.specs.Siding.{side_of}
use Rattle.session_serve.specs.Standing.{point_of}
use Rattle.shared_accounts.specs.Desks.{desk_start}
use Rattle.turn_book.specs.Book.{began, view}
use Rattle.session_serve.proofs.Goes.{halts_from, rose_from}
use Rattle.session_serve.proofs.sessions.serve_on.Goals as goal

pub turns-init : goal.turns-init
turns-init g c = record {
  unfinished = c.requires.open;
  own = c.requires.own;
  number = refl;
  ready = c.requires.ready;
  keeps = c.requires.keeps;
  leads = leads_none _;
  rising = omega arith;
  clock = refl;
  draws = refl;
}

pub turns-preserved : goal.turns-preserved
turns-preserved g c =
    let inv = c.turns.invariant in
    let next = c.in-Ok.ensures.goes_on in
    record {
      unfinished = c.in-Ok.ensures.stays;
      own = c.in-Ok.ensures.own;
      number = c.in-Ok.ensures.number ∙ inv.number;
      ready = next.ready;
      keeps = next.keeps;
      leads = leads_more _ _ _ next.given inv.leads next.turned;
      rising = omega (arith, inv.rising, c.in-Ok.ensures.rising);
      clock = c.in-Ok.ensures.clock ∙ inv.clock;
      draws = c.in-Ok.ensures.draws ∙ inv.draws;
    }

pub returns-in-Err-clause-serves : goal.returns-in-Err-clause-serves
returns-in-Err-clause-serves g c n x before less leads =
    let inv = c.turns.invariant in
    paths_are_served.halts n x _ (point_of c.turns.session c.turns.frames c.turns.held (g.L.Link.told c.turns.link) (side_of (began desk_start c.args.accounts.now.book) (view c.turns.seat) (g.D.Draws.given c.turns.draws) (g.C.Clock.given c.turns.clock)))
    before (g.L.Link.fault_count c.turn.new.link) c.in-Err.how
    (λ behind z loose path. leads behind z loose (inv.leads behind z loose path))
    (halts_from (Rose (g.L.Link.fault_count c.turns.link) (g.L.Link.fault_count c.turn.new.link)) (Rose before (g.L.Link.fault_count c.turn.new.link))
    (λ rose. rose_from before (g.L.Link.fault_count c.turns.link) (g.L.Link.fault_count c.turn.new.link) (omega (arith, less, inv.rising)) rose) _ _ c.in-Err.how c.in-Err.ensures.halts)
