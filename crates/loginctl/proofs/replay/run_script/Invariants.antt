use Rattle.std.proofs.Common.{◌≡◌, ◌++◌, drop}
use Rattle.session_world.specs.Standing.{Mirrors}
use Rattle.session_world.specs.Replays.{Replay, after_events, text_of}
use Rattle.loginctl.specs.Replayed.{start_of}
use Rattle.loginctl.proofs.replay.run_script.Given as goal

-- the events that are left lead from the replay that is kept to where all events lead from the start, and what was
-- printed and what they print is the text of all
abbrev pub invariant-events : goal.invariant-events
invariant-events l = (w : Replay)
    × Mirrors l.world w
    × (l.out ++ text_of w (drop l.event-index (l.fn.script).events) ≡ text_of (start_of l.fn.script) (l.fn.script).events)
    × (after_events w (drop l.event-index (l.fn.script).events) ≡ after_events (start_of l.fn.script) (l.fn.script).events)
