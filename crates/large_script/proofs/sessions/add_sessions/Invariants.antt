use Rattle.std.proofs.Common.{◌≡◌, ◌≤◌, ◌-◌, ◌*◌, ◌++◌}
use Rattle.large_script.specs.Draws.{state_behind}
use Rattle.large_script.specs.Generating.{sessions_events}
use Rattle.large_script.proofs.sessions.add_sessions.Given as goal

-- so many sessions are there, and so many numbers were drawn for them
abbrev pub invariant-sessions : goal.invariant-sessions
invariant-sessions l = record {
  within : l.count ≤ 1000;
  drawn : l.draws.state ≡ state_behind (3 * l.count) l.fn.number;
  made : l.events ≡ l.fn.events ++ sessions_events l.count l.fn.number;
}

abbrev pub decreases-sessions : goal.decreases-sessions
decreases-sessions l = 1000 - l.count
