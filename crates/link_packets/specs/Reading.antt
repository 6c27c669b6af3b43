-- What comes of reading one packet from a link.
use Rattle.std.specs.Prelude.{◌≡◌, ℕ, ◌+◌, ◌≤◌, ◌==◌, not, Bool, List, [], ◌++◌, length, Option}
use Rattle.lg_outside.specs.Traffic.{Traffic}
use Rattle.packet_frame.specs.Framing.{Framing}
use Rattle.packet_frame.specs.Front.{Whole, Part, Fault, front}
use Rattle.packet_frame.specs.Packets.{id_after, IsPacket, IsFault, IsUnfinished}
use Rattle.packet_frame.specs.declared.packets.Packet.{Packet}
use Rattle.packet_frame.specs.declared.packets.Want.TheVariants.{Exactly}
use Rattle.packet_frame.specs.declared.packets.FrameFault.{FrameFault}
use Rattle.packet_frame.specs.declared.packets.FrameFault.TheVariants.{TooLarge, OutOfOrder, Memory as NoMemory}
use Rattle.packet_stream.specs.declared.limits.TheConstants.{MAX_PAYLOAD}
use Rattle.link_packets.specs.Moving.{IsAtEnd, Moved}
use Rattle.link_packets.specs.declared.reading.ReadEnd.{ReadEnd}
use Rattle.link_packets.specs.declared.reading.ReadEnd.TheVariants.{Faulty, Closed, Failed, Memory}

-- a reader between two packets, at a place of the stream, that wants this id next
abbrev pub between : (id place : ℕ) → Framing
between id place = record { limit = MAX_PAYLOAD; want = Exactly id; start = place; held = [] }

-- the most bytes of a packet, its header included
abbrev pub longest_packet : ℕ
longest_packet = MAX_PAYLOAD + 4

-- A packet was read: it stands at the front of the stream, and no byte behind it was read.
pub record ReadsPacket (id place : ℕ) (before after : Option Traffic) (packet : Packet) (now : Framing) : Type 0 where
  pub head : List ℕ
  pub moved : Moved before after head []
  pub is_packet : IsPacket MAX_PAYLOAD (Exactly id) packet.first packet.last packet.payload head
  pub found : front MAX_PAYLOAD (Exactly id) place head ≡ Whole packet.first packet.last packet.payload []
  pub at_is : packet.at ≡ place
  pub short : length head ≤ longest_packet
  pub now_is : now ≡ between (id_after packet.last) (place + length head)

-- why no packet comes after a fault of the reader
abbrev pub end_at : FrameFault → ReadEnd
end_at NoMemory = Memory
end_at (TooLarge at) = Faulty (TooLarge at)
end_at (OutOfOrder at want got) = Faulty (OutOfOrder at want got)

-- less than a packet stands at the front
pub record IsPartOf (id place : ℕ) (got : List ℕ) : Type 0 where
  pub missing : ℕ
  pub unfinished : IsUnfinished MAX_PAYLOAD (Exactly id) missing got
  pub found : front MAX_PAYLOAD (Exactly id) place got ≡ Part missing

-- no packet was read
pub data Stops (id place : ℕ) (before after : Option Traffic) (Rises : Type 0) : ReadEnd → Type 0 where
  -- the bytes that were read show a fault
  faulty : (got : List ℕ) (fault : FrameFault) → Moved before after got [] → IsFault MAX_PAYLOAD (Exactly id) place fault got
      → front MAX_PAYLOAD (Exactly id) place got ≡ Fault fault → Stops id place before after Rises (Faulty fault)
  -- less than a packet was left
  closed : (got : List ℕ) (cut : Bool) → Moved before after got [] → IsPartOf id place got → IsAtEnd after
      → cut ≡ not (length got == 0) → Stops id place before after Rises (Closed cut)
  -- a read failed, within a packet or before it
  failed : (got : List ℕ) → Moved before after got [] → IsPartOf id place got → Rises → Stops id place before after Rises Failed
  -- there was no memory for further bytes that were read
  no_memory : (got more : List ℕ) → Moved before after (got ++ more) [] → IsPartOf id place got → Stops id place before after Rises Memory
