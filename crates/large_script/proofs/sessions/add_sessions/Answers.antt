use Rattle.std.proofs.Common.{◌∙◌, arith}
use Rattle.large_script.proofs.Growing.{drawn_now, drawn_so_far, no_sessions, session_added}
use Rattle.large_script.proofs.sessions.add_sessions.Goals as goal

pub sessions-init : goal.sessions-init
sessions-init c = record { within = omega arith; drawn = c.new-draws.ensures; made = no_sessions c.args.events.now c.args.number }

pub sessions-preserved : goal.sessions-preserved
sessions-preserved c = record {
  within = let below = c.sessions-test.true in omega (arith, below);
  drawn = c.draw_session-drawn.ensures.state ∙ drawn_so_far c.sessions.count c.args.number c.sessions.draws.state c.sessions.invariant.drawn;
  made = session_added c.args.events.now c.sessions.events c.add_session.new.events c.sessions.count c.args.number c.draw_session-drawn.result
      c.sessions.invariant.made
      (c.draw_session-drawn.ensures.drawn ∙ drawn_now c.sessions.count c.args.number c.sessions.draws.state c.sessions.invariant.drawn)
      c.in_ok-add_session.ensures;
}
