-- What is read of the bytes that a peer has sent.
use Rattle.std.specs.Prelude.{◌≡◌, ◌<◌, ◌≤◌, ◌+◌, ℕ, List, length, drop}
use Rattle.packet_frame.specs.Front.{Whole, Part, Fault, front}
use Rattle.packet_frame.specs.declared.packets.Want.TheVariants.{Exactly}
use Rattle.packet_stream.specs.Streams.{IsShort, Stream, behind_of, front_of}
use Rattle.packet_stream.specs.declared.limits.TheConstants.{MAX_PAYLOAD}
use Rattle.packet_stream.specs.declared.inbox.Shown.{Shown}
use Rattle.packet_stream.specs.declared.inbox.Shown.TheVariants as shown
use Rattle.packet_stream.specs.declared.inbox.Found.{Found}
use Rattle.packet_stream.specs.declared.inbox.Found.TheVariants as found

-- a packet is read, and what stands behind it is left; or nothing is read
abbrev pub Takes : (want : ℕ) → Stream → Stream → Found → Type 0
Takes want old new (found.Packet packet) =
    (front_of want old ≡ Whole packet.first packet.last packet.payload new.bytes) × (packet.at ≡ old.place) × (new ≡ behind_of old new.bytes)
Takes want old new found.Nothing = (new ≡ old) × IsShort want old
Takes want old new (found.Fault fault) = (new ≡ old) × (front_of want old ≡ Fault fault)

-- a packet that is read no longer stands among the bytes
abbrev pub IsTakenOff : Stream → Stream → Found → Type 0
IsTakenOff old new (found.Packet packet) = length new.bytes < length old.bytes
IsTakenOff old new _ = Unit {0}

-- what stands at the front of bytes at a place
abbrev pub IsShown : (want place : ℕ) → List ℕ → Shown → Type 0
IsShown want place bytes (shown.Whole payload behind) = front MAX_PAYLOAD (Exactly want) place bytes ≡ Whole want want payload.now behind.now
IsShown want place bytes shown.Part = (missing : ℕ) × (front MAX_PAYLOAD (Exactly want) place bytes ≡ Part missing)
IsShown want place bytes (shown.Fault fault) = front MAX_PAYLOAD (Exactly want) place bytes ≡ Fault fault

-- the bytes are a header, the payload and what follows it
abbrev pub Splits : List ℕ → Shown → Type 0
Splits bytes (shown.Whole payload behind) = (4 + length payload.now ≤ length bytes) × (behind.now ≡ drop (4 + length payload.now) bytes)
Splits bytes shown.Part = Unit {0}
Splits bytes (shown.Fault fault) = Unit {0}
