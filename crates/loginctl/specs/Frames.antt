-- What `frames` prints of its input: a line for each packet, and a last line that says how the stream ended.
-- The packets are those of "MySQL Packets" in the MySQL client/server protocol documentation. The lines are
-- this project's own.
use Rattle.std.specs.Prelude.{◌≡◌, ℕ, ◌+◌, ◌<◌, ◌≤◌, List, [], ◌∷◌, ◌++◌, length, take, codes, decimal, Option, Some, None}
use Rattle.packet_frame.specs.Streams.{Ending, Between, Cut, Faulty, IsStream}
use Rattle.packet_frame.specs.declared.packets.Packet.{Packet}
use Rattle.packet_frame.specs.declared.packets.Want.TheVariants.{Any}
use Rattle.packet_frame.specs.declared.packets.FrameFault.TheVariants.{TooLarge, OutOfOrder}
use Rattle.loginctl.specs.Printing.{Printed, Wrote, WrotePart}
use Rattle.loginctl.specs.declared.status.Status.{Status}
use Rattle.loginctl.specs.declared.status.Status.TheVariants.{BadInput, Done, InputFault, NoMemory, OutputFault}

-- the most bytes of an input
abbrev pub longest_input : ℕ
longest_input = 1099511627776

-- the bytes are a stream of packets, each of which may begin with any id, and has three whole pieces at most
abbrev pub IsPackets : List ℕ → List Packet → Ending → Type 0
IsPackets bytes packets ending = IsStream 50331645 (λ _. Any) Any 0 bytes packets ending

-- the line of a packet: its number, the place of its first header byte, its first sequence id, its length
unfoldable pub packet_line : ℕ → Packet → List ℕ
packet_line number packet =
    codes "packet " ++ decimal number ++ codes " at " ++ decimal packet.at ++ codes " seq " ++ decimal packet.first
    ++ codes " length " ++ decimal (length packet.payload) ++ 10 ∷ []

-- the lines of packets, numbered from a number on
abbrev pub lines_from : ℕ → List Packet → List ℕ
lines_from number [] = []
lines_from number (packet ∷ packets) = packet_line number packet ++ lines_from (number + 1) packets

abbrev pub packet_lines : List Packet → List ℕ
packet_lines packets = lines_from 1 packets

-- the last line where the input ends after a packet
unfoldable pub end_line : ℕ → List ℕ
end_line count = codes "end " ++ decimal count ++ 10 ∷ []

-- the last line where the input is no packet at a place
unfoldable pub bad_line : ℕ → List ℕ
bad_line at = codes "bad packet at " ++ decimal at ++ 10 ∷ []

-- The status and the last line for an input with so many packets before an ending: a fault is told at its
-- place, an unfinished packet at its first byte, and an input past the limit at the limit.
pub data IsLast (input : List ℕ) (count : ℕ) : Ending → Status → List ℕ → Type 0 where
  between : length input ≤ longest_input → IsLast input count Between Done (end_line count)
  unfinished : (at : ℕ) → length input ≤ longest_input → IsLast input count (Cut at) BadInput (bad_line at)
  too_large : (at : ℕ) → IsLast input count (Faulty (TooLarge at)) BadInput (bad_line at)
  out_of_order : (at want got : ℕ) → IsLast input count (Faulty (OutOfOrder at want got)) BadInput (bad_line at)
  between_past : longest_input < length input → IsLast input count Between BadInput (bad_line longest_input)
  unfinished_past : (at : ℕ) → longest_input < length input → IsLast input count (Cut at) BadInput (bad_line longest_input)

-- the status and the text that are due for an input
pub record IsListed (input : List ℕ) (status : Status) (text : List ℕ) : Type 0 where
  pub packets : List Packet
  pub ending : Ending
  pub last : List ℕ
  pub stream : IsPackets (take longest_input input) packets ending
  pub ends : IsLast input (length packets) ending status last
  pub text_is : text ≡ packet_lines packets ++ last

-- the same where the source tells its bytes; else some input is answered so
abbrev pub ListedOf : Option (List ℕ) → Status → List ℕ → Type 0
ListedOf None status text = (input : List ℕ) × IsListed input status text
ListedOf (Some input) status text = IsListed input status text

-- the bytes stand at the front of what the source told
abbrev pub IsFrontOf : Option (List ℕ) → List ℕ → Type 0
IsFrontOf None front = Unit {0}
IsFrontOf (Some told) front = (rest : List ℕ) × (told ≡ front ++ rest)

-- the lines of the packets in a front of the input
pub record IsFrontListed (told : Option (List ℕ)) (text : List ℕ) : Type 0 where
  pub front : List ℕ
  pub packets : List Packet
  pub ending : Ending
  pub is_front : IsFrontOf told front
  pub within : length front ≤ longest_input
  pub stream : IsPackets front packets ending
  pub text_is : text ≡ packet_lines packets

-- What `frames` answers, by the bytes that the source told, what was written before and after, and whether the
-- counts of faults rose.
pub data AnswersFrames (told before after : Option (List ℕ)) (SourceRose SinkRose : Type 0) : Status → Type 0 where
  -- the input was read to its end, to a fault or past the limit
  ran : (result status : Status) (text : List ℕ) → ListedOf told status text → Printed before after SinkRose status text result
      → AnswersFrames told before after SourceRose SinkRose result
  -- the sink failed at the lines of packets
  sink_fault : (text : List ℕ) → IsFrontListed told text → SinkRose → WrotePart before after text
      → AnswersFrames told before after SourceRose SinkRose OutputFault
  -- the source failed
  source_fault : (text : List ℕ) → IsFrontListed told text → SourceRose → Wrote before after text
      → AnswersFrames told before after SourceRose SinkRose InputFault
  -- there was no memory
  no_memory : (text : List ℕ) → IsFrontListed told text → Wrote before after text
      → AnswersFrames told before after SourceRose SinkRose NoMemory
