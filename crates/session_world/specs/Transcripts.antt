-- What doings come to: the lines and the bytes of each session, and what holds of them after any doings.
use Rattle.std.specs.Prelude.{◌≡◌, ◌≢◌, ℕ, ◌+◌, ◌==◌, if◌then◌else◌, List, [], ◌∷◌, ◌++◌, Option, Some, None, option_to_list}
use Rattle.account_history.specs.Histories.{history}
use Rattle.account_history.specs.Legal.{IsLegal}
use Rattle.account_history.specs.declared.entries.Entry.{Entry}
use Rattle.account_history.specs.declared.entries.Log.{Log}
use Rattle.account_history.specs.declared.entries.Opening.{Opening}
use Rattle.account_machine.specs.Openings.{opening_start}
use Rattle.account_rules.specs.declared.accounts.Settings.{Settings}
use Rattle.session_talk.specs.Transcript as told
use Rattle.session_talk.specs.Transcript.{Transcript}
use Rattle.session_talk.specs.declared.ends.SessionEnd.{SessionEnd}
use Rattle.session_world.specs.declared.calls.Peer.{Peer}
use Rattle.session_world.specs.declared.calls.Peer.TheVariants.{Open, Closed, Failed}
use Rattle.world_table.specs.Printing.{Line, Idle}
use Rattle.session_world.specs.Lines.{Numbered, ends_in, entries_in, numbered_in, sends_in}
use Rattle.session_world.specs.Worlds.{Doing, Executes, GoesOn, IsIdle, Move, Place, Sets, World, after_all, does, move, new_world}

-- ## Over doings

-- the lines that are printed
abbrev pub lines_in : Move → List Line
lines_in (Sets common) = []
lines_in (Executes did) = did.lines
lines_in (GoesOn number peer bytes g) = g.lines
lines_in (IsIdle number) = Idle ∷ []

abbrev pub all_lines : World → List Doing → List Line
all_lines w [] = []
all_lines w (first ∷ doings) = lines_in (move w first) ++ all_lines (does w first).world doings

-- of them, those of one session
abbrev pub lines_of : (number : ℕ) → Move → List Line
lines_of number (Sets common) = []
lines_of number (Executes did) = if number == 0 then did.lines else []
lines_of number (GoesOn other peer bytes g) = if number == other then g.lines else []
lines_of number (IsIdle other) = if number == other then Idle ∷ [] else []

abbrev pub session_lines : (number : ℕ) → World → List Doing → List Line
session_lines number w [] = []
session_lines number w (first ∷ doings) = lines_of number (move w first) ++ session_lines number (does w first).world doings

-- the bytes that come to one session
abbrev pub bytes_of : (number : ℕ) → Move → List ℕ
bytes_of number (Sets common) = []
bytes_of number (Executes did) = []
bytes_of number (GoesOn other peer bytes g) = if number == other then bytes else []
bytes_of number (IsIdle other) = []

abbrev pub session_bytes : (number : ℕ) → World → List Doing → List ℕ
session_bytes number w [] = []
session_bytes number w (first ∷ doings) = bytes_of number (move w first) ++ session_bytes number (does w first).world doings

-- ## What holds after any doings

-- entries with the numbers from this one on
abbrev pub numbered : (first : ℕ) → List Entry → List Numbered
numbered first [] = []
numbered first (entry ∷ entries) = record { number = first; entry = entry } ∷ numbered (first + 1) entries

-- a legal history after a start, whose entries are those that are printed, by their numbers
pub record IsHistory (openings : List Opening) (settings : Settings) (log : Log) (lines : List Line) : Type 0 where
  pub starts : log.start ≡ opening_start openings settings
  pub printed : numbered_in lines ≡ numbered 1 log.entries
  pub legal : IsLegal (history log)

-- The history is legal, and its entries are those that are printed.
abbrev pub DoingsAreLegal : Type 0
DoingsAreLegal =
    (openings : List Opening) (settings : Settings) (doings : List Doing) →
    let w = new_world openings settings in
    IsHistory openings settings (after_all w doings).common.log (all_lines w doings)

-- how a peer's bytes go on
abbrev pub as_told : Peer → told.Peer
as_told Open = told.Open
as_told Closed = told.Closed
as_told Failed = told.Failed

abbrev pub peer_at : Option Place → Peer
peer_at None = Open
peer_at (Some place) = place.peer

-- what is printed of a session, whose peer stands so and has sent these bytes, is a transcript: the payloads, the
-- entries, and the end, which is printed once
pub record IsTranscript (number : ℕ) (peer : Peer) (bytes : List ℕ) (lines : List Line) : Type 0 where
  pub how : Option SessionEnd
  pub ends : ends_in lines ≡ option_to_list how
  pub is : Transcript number (as_told peer) bytes (entries_in lines) (sends_in lines) how

-- What is printed of each session is a transcript, over the bytes that came to it: however the sessions are interleaved
-- and their bytes are cut. Under the number 0 stand the entries of the administrator.
abbrev pub DoingsAreTranscripts : Type 0
DoingsAreTranscripts =
    (openings : List Opening) (settings : Settings) (doings : List Doing) (number : ℕ) → number ≢ 0 →
    let w = new_world openings settings in
    IsTranscript number (peer_at ((after_all w doings).places number)) (session_bytes number w doings) (session_lines number w doings)

-- What prints that nothing can be done changes nothing.
abbrev pub IdleDoingsChangeNothing : Type 0
IdleDoingsChangeNothing = (w : World) (doing : Doing) → (does w doing).lines ≡ Idle ∷ [] → (does w doing).world ≡ w
