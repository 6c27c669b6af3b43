-- What holds after any events.
use Rattle.std.specs.Prelude.{◌≡◌, ◌≢◌, ℕ, ◌==◌, if◌then◌else◌, List, [], ◌∷◌, ◌++◌}
use Rattle.account_history.specs.declared.entries.Opening.{Opening}
use Rattle.account_rules.specs.declared.accounts.Settings.{Settings}
use Rattle.script_text.specs.declared.event.Event.{Event}
use Rattle.script_text.specs.declared.event.Event.TheVariants as event
use Rattle.session_world.specs.Replays.{NoStatement, Of, Printed, Replay, Tells, after_events, happens, new_replay, printed_text, task}
use Rattle.session_world.specs.Transcripts.{IsHistory, IsTranscript, all_lines, peer_at, session_bytes, session_lines}
use Rattle.session_world.specs.Worlds.{Doing, after_all}
use Rattle.session_world.specs.declared.running.Task.TheVariants.{Rests}
use Rattle.world_table.specs.Printing.{Idle, Line}

-- ## Over events

-- all that is printed, and all that is done to the world of sessions
abbrev pub all_printed : Replay → List Event → List Printed
all_printed r [] = []
all_printed r (first ∷ events) = (happens r first).printed ++ all_printed (happens r first).replay events

abbrev pub all_doings : Replay → List Event → List Doing
all_doings r [] = []
all_doings r (first ∷ events) = (happens r first).doings ++ all_doings (happens r first).replay events

-- the lines of sessions among what is printed
abbrev pub lines_among : List Printed → List Line
lines_among [] = []
lines_among (Of session line ∷ more) = line ∷ lines_among more
lines_among (Tells session how ∷ more) = lines_among more
lines_among (NoStatement ∷ more) = lines_among more

-- those of one session
abbrev pub lines_for : (number : ℕ) → List Printed → List Line
lines_for number [] = []
lines_for number (Of session line ∷ more) = if number == session then line ∷ lines_for number more else lines_for number more
lines_for number (Tells session how ∷ more) = lines_for number more
lines_for number (NoStatement ∷ more) = lines_for number more

-- ## Laws

-- what events come to is what they do to the world of sessions, one thing after another
pub record AreDone (r : Replay) (events : List Event) : Type 0 where
  pub world_is : (after_events r events).world ≡ after_all r.world (all_doings r events)
  pub lines_are : lines_among (all_printed r events) ≡ all_lines r.world (all_doings r events)
  pub each_is : (number : ℕ) → lines_for number (all_printed r events) ≡ session_lines number r.world (all_doings r events)

abbrev pub EventsAreDone : Type 0
EventsAreDone = (r : Replay) (events : List Event) → AreDone r events

-- The history is legal, and its entries are those that are printed.
abbrev pub HistoriesAreLegal : Type 0
HistoriesAreLegal =
    (openings : List Opening) (settings : Settings) (events : List Event) →
    let r = new_replay openings settings in
    IsHistory openings settings (after_events r events).world.common.log (lines_among (all_printed r events))

-- What is printed of each session is a transcript, over the bytes that came to it from its client or the script: however
-- the sessions are interleaved and their bytes are cut. Under the number 0 stand the entries of the administrator.
abbrev pub SessionsAreTranscripts : Type 0
SessionsAreTranscripts =
    (openings : List Opening) (settings : Settings) (events : List Event) (number : ℕ) → number ≢ 0 →
    let r = new_replay openings settings in
    IsTranscript number (peer_at ((after_events r events).world.places number)) (session_bytes number r.world (all_doings r events))
    (lines_for number (all_printed r events))

-- two replays that are the same at each number
pub record AreSame (r s : Replay) : Type 0 where
  pub world : r.world ≡ s.world
  pub clients : (number : ℕ) → r.clients number ≡ s.clients number

-- An event that prints that it is idle changes nothing.
abbrev pub IdleChangesNothing : Type 0
IdleChangesNothing =
    (r : Replay) (event : Event) (number : ℕ) → printed_text (happens r event).printed ≡ printed_text (Of number Idle ∷ []) →
    AreSame (happens r event).replay r

-- After a run nothing is left that its session and client could go on with.
abbrev pub RunsComeToRest : Type 0
RunsComeToRest =
    (openings : List Opening) (settings : Settings) (events : List Event) (number : ℕ) →
    let r = after_events (new_replay openings settings) events in
    task (happens r (event.Run number)).replay number ≡ Rests
