-- A stream as a whole list of bytes: packets laid end to end, then nothing, less than a packet, or a
-- fault. There is no buffer here, and no pieces of reading.
use Rattle.std.specs.Prelude.{◌≡◌, ◌≢◌, ℕ, ◌+◌, List, [], ◌∷◌, ◌++◌, length, take}
use Rattle.packet_frame.specs.declared.packets.Want.{Want}
use Rattle.packet_frame.specs.declared.packets.Packet.{Packet}
use Rattle.packet_frame.specs.declared.packets.FrameFault.{FrameFault}
use Rattle.packet_frame.specs.Packets.{IsPacket, IsFault, IsUnfinished}
use Rattle.packet_frame.specs.Framing.{Framing, due_bytes, with_bytes, TakesPacket}

-- how a stream ends: after a packet, within the packet whose first header byte stands at a place, or at
-- a fault
pub data Ending : Type 0 where
  Between : Ending
  Cut : (at : ℕ) → Ending
  Faulty : FrameFault → Ending

-- what is left of the stream at a place, where a packet with a wanted id would begin
abbrev pub IsEnding : (limit : ℕ) → Want → (place : ℕ) → List ℕ → Ending → Type 0
IsEnding limit want place bytes Between = bytes ≡ []
IsEnding limit want place bytes (Cut at) = (bytes ≢ []) × (at ≡ place) × (missing : ℕ) × IsUnfinished limit want missing bytes
IsEnding limit want place bytes (Faulty fault) = IsFault limit want place fault bytes

-- The bytes, whose first one stands at a place, are packets laid end to end, and then a rest of which
-- something holds. `next` gives what is wanted after a packet with some last id.
abbrev pub AreLaid : (limit : ℕ) → (next : ℕ → Want) → (Want → ℕ → List ℕ → Type 0) → Want → (place : ℕ) → List ℕ → List Packet → Type 0
AreLaid limit next IsRest want place bytes [] = IsRest want place bytes
AreLaid limit next IsRest want place bytes (packet ∷ packets) =
    (head rest : List ℕ) × (bytes ≡ head ++ rest) × (packet.at ≡ place) × IsPacket limit want packet.first packet.last packet.payload head
    × AreLaid limit next IsRest (next packet.last) (place + length head) rest packets

-- the bytes are a stream: these packets, and this ending
abbrev pub IsStream : (limit : ℕ) → (next : ℕ → Want) → Want → (place : ℕ) → List ℕ → List Packet → Ending → Type 0
IsStream limit next want place bytes packets ending =
    AreLaid limit next (λ wanted at rest. IsEnding limit wanted at rest ending) want place bytes packets

-- the bytes are these packets, and what a reader holds
abbrev pub HasGiven : (limit : ℕ) → (next : ℕ → Want) → Want → List ℕ → List Packet → Framing → Type 0
HasGiven limit next want bytes packets v =
    AreLaid limit next (λ wanted at rest. v ≡ record { limit = limit; want = wanted; start = at; held = rest }) want 0 bytes packets

-- what is done with a reader: it is fed a piece, of which it takes so many bytes, up to the end of the
-- present header or piece of payload, a faulty header included; or a packet is taken out of it, and the
-- id that is wanted then is set
pub data Move : Type 0 where
  Feeds : (piece : List ℕ) → (count : ℕ) → Move
  Gives : Packet → Move

-- the bytes that were taken
abbrev pub bytes_of : List Move → List ℕ
bytes_of [] = []
bytes_of (Feeds piece count ∷ moves) = take count piece ++ bytes_of moves
bytes_of (Gives packet ∷ moves) = bytes_of moves

-- the packets that were taken out
abbrev pub packets_of : List Move → List Packet
packets_of [] = []
packets_of (Feeds piece count ∷ moves) = packets_of moves
packets_of (Gives packet ∷ moves) = packet ∷ packets_of moves

-- what a reader does, from one state to another
abbrev pub IsRun : (next : ℕ → Want) → Framing → List Move → Framing → Type 0
IsRun next v [] w = w ≡ v
IsRun next v (Feeds piece count ∷ moves) w =
    (u : Framing) × (u ≡ with_bytes v (due_bytes v piece)) × (count ≡ length (due_bytes v piece)) × IsRun next u moves w
IsRun next v (Gives packet ∷ moves) w = (u : Framing) × TakesPacket v packet u × IsRun next (record u { want = next packet.last }) moves w
