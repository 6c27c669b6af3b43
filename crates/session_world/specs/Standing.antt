-- What is kept of a world, and the text of a whole replay.
use Rattle.std.specs.Prelude.{◌≡◌, ℕ, false, true, List, ◌++◌, length}
use Rattle.account_history.specs.declared.entries.Opening.{Opening}
use Rattle.account_rules.specs.declared.accounts.Settings.{Settings}
use Rattle.script_text.specs.declared.event.Event.{Event}
use Rattle.world_table.specs.Attempts.{opened_in, refused_in}
use Rattle.world_table.specs.Printing.{end_line, summary_line}
use Rattle.session_world.specs.Replays.{Replay, after_events, new_replay, text_of}
use Rattle.session_world.specs.Staged.{Stands}
use Rattle.session_world.specs.declared.world.World.{World}

-- what is kept is this replay, and no event has failed
unfoldable pub Mirrors : World → Replay → Type 0
Mirrors kept r = (kept.failed ≡ false) × Stands kept.stage r

-- there was no memory for an event
unfoldable pub HasFailed : World → Type 0
HasFailed kept = kept.failed ≡ true

-- the last line, with the number of the entries
abbrev pub last_text : Replay → List ℕ
last_text r = end_line (length r.world.common.log.entries)

-- the line that sums up the history
abbrev pub summary_text : Replay → List ℕ
summary_text r = summary_line (length r.world.common.log.entries) (opened_in r.world.common.log) (refused_in r.world.common.log)

-- what a replay prints: the text of all events from a start, and the last line
abbrev pub replay_text : List Opening → Settings → List Event → List ℕ
replay_text openings settings events =
    text_of (new_replay openings settings) events ++ last_text (after_events (new_replay openings settings) events)
