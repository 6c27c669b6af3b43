-- A session whole: its number, the bytes that it reads, the entries that it adds to the history, the bytes that it
-- sends, and its end.
use Rattle.std.specs.Prelude.{◌≡◌, IsTrue, ℕ, ◌==◌, not, if◌then◌else◌, List, [], ◌∷◌, ◌++◌, length, Option, Some, None}
use Rattle.packet_frame.specs.Front.{Front, Whole, Part, Fault}
use Rattle.packet_frame.specs.Packets.{id_after}
use Rattle.packet_frame.specs.declared.packets.FrameFault.{FrameFault}
use Rattle.packet_frame.specs.declared.packets.Packet.{Packet}
use Rattle.packet_stream.specs.Sent.{Sent, id_behind}
use Rattle.packet_stream.specs.Streams.{Stream, behind_of, front_of}
use Rattle.account_history.specs.declared.entries.Entry.{Entry}
use Rattle.interaction.specs.Talk.{Got, Says, Hears, Asks, Over}
use Rattle.session_talk.specs.declared.ends.SessionEnd.{SessionEnd}
use Rattle.session_talk.specs.declared.ends.SessionEnd.TheVariants as end
use Rattle.session_talk.specs.declared.inputs.Input.{Input}
use Rattle.session_talk.specs.Logins.{faulted, session}
use Rattle.session_talk.specs.Owed.{Owed, owed}
use Rattle.session_talk.specs.Talk.{SessionTalk}
use Rattle.session_talk.specs.Turns.{Adds, IsFitting, takes, wanted}
use Rattle.session_talk.specs.Wired.{Wired, after_all_sent, said_from, stops, wired}

-- ## The packets among the bytes

-- what is read of a stream: packets, and what is left of it
pub record Reading : Type 0 where
  pub packets : List Packet
  pub left : Stream

abbrev pub after_packet : Packet → Reading → Reading
after_packet packet r = record r { packets = packet ∷ r.packets }

abbrev pub by_packet : (Packet → Stream → Reading) → Stream → Front → Reading
by_packet goes_on stream (Whole first last payload behind) =
    goes_on (record { first = first; last = last; at = stream.place; payload = payload }) (behind_of stream behind)
by_packet goes_on stream (Part missing) = record { packets = []; left = stream }
by_packet goes_on stream (Fault fault) = record { packets = []; left = stream }

-- the packets that a session reads, each with the id that it then wants
unfoldable pub read_of : (next : ℕ) → SessionTalk → Stream → List Input → Reading
read_of next (Says payload t) stream owns = read_of (id_behind next payload) t stream owns
read_of next (Hears anew k) stream owns =
    by_packet (λ packet behind. after_packet packet (read_of (id_after packet.last) (k (Got packet.payload)) behind owns)) stream (front_of (wanted anew next) stream)
read_of next (Asks q k) stream (given ∷ owns) =
    if takes q given then read_of next (k given) stream owns else record { packets = []; left = stream }
read_of next t stream owns = record { packets = []; left = stream }

-- the fault of framing that stands where a packet is waited for
abbrev pub fault_in : Front → Option FrameFault
fault_in (Whole first last payload behind) = None
fault_in (Part missing) = None
fault_in (Fault fault) = Some fault

abbrev pub fault_at : (next : ℕ) → SessionTalk → Stream → Option FrameFault
fault_at next (Hears anew k) stream = fault_in (front_of (wanted anew next) stream)
fault_at next t stream = None

abbrev pub wanted_at : (next : ℕ) → SessionTalk → ℕ
wanted_at next (Hears anew k) = wanted anew next
wanted_at next t = next

-- what is owed for the packets, and then the error of a fault
abbrev pub told_fault : Option FrameFault → Owed → Stream → Wired
told_fault None o stream = after_all_sent o.sent (stops o.next o.at stream o.unused)
told_fault (Some fault) o stream = after_all_sent o.sent (said_from (id_after (wanted_at o.next o.at)) (faulted fault) stream o.unused)

-- What is owed over bytes is what is owed for the packets among them, and the error of a fault of framing that stands
-- where a packet is waited for.
abbrev pub WiredIsOwed : Type 0
WiredIsOwed =
    (next : ℕ) (t : SessionTalk) (stream : Stream) (owns : List Input) →
    let read = read_of next t stream owns in
    let o = owed next t read.packets owns in
    wired next t stream owns ≡ told_fault (fault_at o.next o.at read.left) o read.left

-- ## The entries

-- what a session's own side was answered is what was asked for, and makes these entries of the history, by the readings
-- of the clock in order
unfoldable pub Enters : SessionTalk → List Packet → List Input → List Entry → Type 0
Enters (Says payload t) packets owns entries = Enters t packets owns entries
Enters (Hears anew k) (packet ∷ packets) owns entries = Enters (k (Got packet.payload)) packets owns entries
Enters (Asks q k) packets (given ∷ owns) entries =
    (added : List Entry) × (more : List Entry)
    × IsTrue (takes q given) × IsFitting q given × Adds q given added × (entries ≡ added ++ more)
    × Enters (k given) packets owns more
Enters t packets owns entries = (owns ≡ []) × (entries ≡ [])

-- ## The end

-- how the peer's bytes go on after those that were read
pub data Peer : Type 0 where
  Open : Peer
  Closed : Peer
  Failed : Peer

-- the end of a session that waits for a packet, and whose peer has closed the connection or whose link has failed
abbrev pub ended : Peer → SessionTalk → Stream → Option SessionEnd
ended peer (Over how) stream = Some how
ended Closed (Hears anew k) stream = Some (end.PeerClosed (not (length stream.bytes == 0)))
ended Failed (Hears anew k) stream = Some end.LinkFault
ended peer t stream = None

-- ## The whole

-- A session of this number reads these bytes from its peer, adds these entries, sends these payloads and ends so, if it
-- has ended.
pub record Transcript (id : ℕ) (peer : Peer) (bytes : List ℕ) (entries : List Entry) (sent : List Sent) (how : Option SessionEnd) : Type 0 where
  pub owns : List Input
  pub entered : Enters (session id) (read_of 0 (session id) (record { place = 0; bytes = bytes }) owns).packets owns entries
  pub sends : sent ≡ (wired 0 (session id) (record { place = 0; bytes = bytes }) owns).sent
  pub ends : how ≡ ended peer (wired 0 (session id) (record { place = 0; bytes = bytes }) owns).at (wired 0 (session id) (record { place = 0; bytes = bytes }) owns).unread
