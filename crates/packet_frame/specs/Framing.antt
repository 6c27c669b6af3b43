-- Where a reader of a stream stands: what it has taken since the last packet, and what that gives.
use Rattle.std.specs.Prelude.{◌≡◌, ℕ, ◌+◌, List, [], ◌++◌, length, take}
use Rattle.packet_frame.specs.declared.packets.Want.{Want}
use Rattle.packet_frame.specs.declared.packets.FrameFault.{FrameFault}
use Rattle.packet_frame.specs.declared.packets.FrameFault.TheVariants.{TooLarge, OutOfOrder, Memory}
use Rattle.packet_frame.specs.declared.packets.Want.TheVariants.{Exactly}
use Rattle.packet_frame.specs.declared.packets.Packet.{Packet}
use Rattle.packet_frame.specs.Packets.{id_after, IsPacket}
use Rattle.packet_frame.specs.Front.{Front, Whole, Part, Fault, front, IsFront}

-- the greatest payload that is taken, which first id the present packet must have, the place of its first
-- byte in the stream, and the bytes taken from there on
pub record Framing : Type 0 where
  pub limit : ℕ
  pub want : Want
  pub start : ℕ
  pub held : List ℕ

-- at the start of a stream
abbrev pub new_framing : ℕ → Want → Framing
new_framing limit want = record { limit = limit; want = want; start = 0; held = [] }

-- how many bytes were taken
abbrev pub place_of : Framing → ℕ
place_of v = v.start + length v.held

-- what the bytes taken since the last packet are
abbrev pub front_of : Framing → Front
front_of v = front v.limit v.want v.start v.held

-- they are a packet, less than one, or show a fault
abbrev pub IsReading : Framing → Type 0
IsReading v = IsFront v.limit v.want v.start v.held (front_of v)

-- how many bytes of an unfinished packet were taken
abbrev pub unfinished_length : Front → ℕ → ℕ
unfinished_length (Whole first last payload behind) taken = 0
unfinished_length (Part missing) taken = taken
unfinished_length (Fault fault) taken = taken

abbrev pub held_length : Framing → ℕ
held_length v = unfinished_length (front_of v) (length v.held)

-- further bytes taken
abbrev pub with_bytes : Framing → List ℕ → Framing
with_bytes v bytes = record v { held = v.held ++ bytes }

-- the bytes that end the present header or the present piece of payload
abbrev pub missing_of : Front → ℕ
missing_of (Whole first last payload behind) = 0
missing_of (Part missing) = missing
missing_of (Fault fault) = 0

-- what is taken of a piece: all up to the end of the present header or piece of payload
abbrev pub due_bytes : Framing → List ℕ → List ℕ
due_bytes v piece = take (missing_of (front_of v)) piece

abbrev pub IsWhole : Front → Type 0
IsWhole (Whole first last payload behind) = Unit {0}
IsWhole (Part missing) = ⊥
IsWhole (Fault fault) = ⊥

abbrev pub IsSound : Front → Type 0
IsSound (Whole first last payload behind) = Unit {0}
IsSound (Part missing) = Unit {0}
IsSound (Fault fault) = ⊥

-- bytes of a piece were taken, and show no fault
pub record Takes (old : Framing) (piece : List ℕ) (count : ℕ) (new : Framing) : Type 0 where
  pub grown : new ≡ with_bytes old (due_bytes old piece)
  pub counted : count ≡ length (due_bytes old piece)
  pub sound : IsSound (front_of new)

-- a piece wasn't taken: for want of memory, which changes nothing, or with the fault that the bytes show,
-- the header that has it included
abbrev pub Refuses : Framing → List ℕ → FrameFault → Framing → Type 0
Refuses old piece Memory new = new ≡ old
Refuses old piece (TooLarge at) new = (new ≡ with_bytes old (due_bytes old piece)) × (front_of new ≡ Fault (TooLarge at))
Refuses old piece (OutOfOrder at want got) new = (new ≡ with_bytes old (due_bytes old piece)) × (front_of new ≡ Fault (OutOfOrder at want got))

-- the packet is taken out of a reader: the next one is wanted with the id after its last one
pub record TakesPacket (old : Framing) (packet : Packet) (new : Framing) : Type 0 where
  pub whole : front_of old ≡ Whole packet.first packet.last packet.payload []
  pub is_packet : IsPacket old.limit old.want packet.first packet.last packet.payload old.held
  pub at_start : packet.at ≡ old.start
  pub next_is : new ≡ record { limit = old.limit; want = Exactly (id_after packet.last); start = place_of old; held = [] }
  pub between : front_of new ≡ Part 4

-- another id is wanted next; a whole packet that still waits decides it itself
abbrev pub after_expect : Front → Framing → Want → Framing
after_expect (Whole first last payload behind) v want = v
after_expect (Part missing) v want = record v { want = want }
after_expect (Fault fault) v want = v
