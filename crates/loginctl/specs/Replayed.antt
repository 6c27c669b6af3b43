-- What `replay` prints for an input.
use Rattle.std.specs.Prelude.{◌≢◌, ℕ, ◌≤◌, ◌<◌, List, [], ◌∷◌, ◌++◌, length, codes, decimal}
use Rattle.script_text.specs.Grammar.{Spells}
use Rattle.script_text.specs.Reading.{Contents, IsBadLine}
use Rattle.session_world.specs.Standing.{replay_text}
use Rattle.session_world.specs.Events.{all_doings, all_printed, lines_among, lines_for}
use Rattle.session_world.specs.Replays.{Replay, after_events, new_replay}
use Rattle.session_world.specs.Replies.{AreTold}
use Rattle.session_world.specs.Transcripts.{IsHistory, IsTranscript, peer_at, session_bytes}
use Rattle.loginctl.specs.declared.status.Status.{Status}
use Rattle.loginctl.specs.declared.status.Status.TheVariants.{BadInput, Done}

-- the most bytes of a script
abbrev pub longest_script : ℕ
longest_script = 16777216

-- the line for an input that is no script: the number of its first line that doesn't fit, or 0 where it is too long
unfoldable pub bad_line : ℕ → List ℕ
bad_line number = codes "bad line " ++ decimal number ++ 10 ∷ []

-- the replay that a script starts with
abbrev pub start_of : Contents → Replay
start_of script = new_replay script.setup.accounts script.setup.settings

-- the replay that it comes to
abbrev pub end_of : Contents → Replay
end_of script = after_events (start_of script) script.events

-- the entries that are printed for a script's events are a legal history
abbrev pub IsLegalRun : Contents → Type 0
IsLegalRun script =
    IsHistory script.setup.accounts script.setup.settings (after_events (start_of script) script.events).world.common.log
    (lines_among (all_printed (start_of script) script.events))

-- what is printed of each session is a transcript of the bytes that came to it from its client or the script, however the
-- sessions are interleaved and their bytes are cut; sessions have numbers from 1 on
abbrev pub AreTranscripts : Contents → Type 0
AreTranscripts script =
    (number : ℕ) → number ≢ 0 →
    IsTranscript number (peer_at ((after_events (start_of script) script.events).world.places number))
    (session_bytes number (start_of script).world (all_doings (start_of script) script.events))
    (lines_for number (all_printed (start_of script) script.events))

-- right behind each attempt and each statement of a session it has sent OK or the error that its reply says
abbrev pub RepliesAreTold : Contents → Type 0
RepliesAreTold script = (number : ℕ) → number ≢ 0 → AreTold (lines_for number (all_printed (start_of script) script.events))

-- the text for a script
abbrev pub script_text : Contents → List ℕ
script_text script = replay_text script.setup.accounts script.setup.settings script.events

-- The status and the text that are due for an input: a script gives the lines of its events, any other input one line.
pub data IsDue (input : List ℕ) : Status → List ℕ → Type 0 where
  replayed : (script : Contents) → length input ≤ longest_script → Spells input script → IsLegalRun script → AreTranscripts script → RepliesAreTold script
      → IsDue input Done (script_text script)
  refused : (line : ℕ) → length input ≤ longest_script → ((script : Contents) → Spells input script → ⊥) → IsBadLine input line
      → IsDue input BadInput (bad_line line)
  overlong : longest_script < length input → IsDue input BadInput (bad_line 0)
