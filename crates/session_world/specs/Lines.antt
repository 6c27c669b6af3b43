-- What is among the lines that are printed of sessions.
use Rattle.std.specs.Prelude.{ℕ, List, [], ◌∷◌}
use Rattle.account_history.specs.declared.entries.Entry.{Entry}
use Rattle.packet_stream.specs.Sent.{Sent}
use Rattle.session_talk.specs.declared.ends.SessionEnd.{SessionEnd}
use Rattle.world_table.specs.Printing.{Line, Sends, Adds, Stale, Ends, Idle}

-- the payloads that are sent
abbrev pub sends_in : List Line → List Sent
sends_in [] = []
sends_in (Sends sent ∷ lines) = sent ∷ sends_in lines
sends_in (Adds number entry ∷ lines) = sends_in lines
sends_in (Stale ∷ lines) = sends_in lines
sends_in (Ends how ∷ lines) = sends_in lines
sends_in (Idle ∷ lines) = sends_in lines

-- the entries that are added
abbrev pub entries_in : List Line → List Entry
entries_in [] = []
entries_in (Sends sent ∷ lines) = entries_in lines
entries_in (Adds number entry ∷ lines) = entry ∷ entries_in lines
entries_in (Stale ∷ lines) = entries_in lines
entries_in (Ends how ∷ lines) = entries_in lines
entries_in (Idle ∷ lines) = entries_in lines

-- the same, with their numbers
pub record Numbered : Type 0 where
  pub number : ℕ
  pub entry : Entry

abbrev pub numbered_in : List Line → List Numbered
numbered_in [] = []
numbered_in (Sends sent ∷ lines) = numbered_in lines
numbered_in (Adds number entry ∷ lines) = record { number = number; entry = entry } ∷ numbered_in lines
numbered_in (Stale ∷ lines) = numbered_in lines
numbered_in (Ends how ∷ lines) = numbered_in lines
numbered_in (Idle ∷ lines) = numbered_in lines

-- the ends
abbrev pub ends_in : List Line → List SessionEnd
ends_in [] = []
ends_in (Sends sent ∷ lines) = ends_in lines
ends_in (Adds number entry ∷ lines) = ends_in lines
ends_in (Stale ∷ lines) = ends_in lines
ends_in (Ends how ∷ lines) = how ∷ ends_in lines
ends_in (Idle ∷ lines) = ends_in lines
