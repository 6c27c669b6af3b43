-- Bytes of a stream of packets, and what stands at their front.
use Rattle.std.specs.Prelude.{◌≡◌, ℕ, ◌+◌, ◌-◌, List, ◌++◌, length}
use Rattle.packet_frame.specs.Front.{Front, Whole, Part, Fault, front}
use Rattle.packet_frame.specs.declared.packets.FrameFault.{FrameFault}
use Rattle.packet_frame.specs.declared.packets.Want.TheVariants.{Exactly}
use Rattle.packet_stream.specs.declared.limits.TheConstants.{MAX_PAYLOAD}

-- bytes of a stream from a place on
pub record Stream : Type 0 where
  pub place : ℕ
  pub bytes : List ℕ

-- a stream from its begin on
abbrev pub all_of : List ℕ → Stream
all_of bytes = record { place = 0; bytes = bytes }

-- further bytes behind them
abbrev pub with_more : Stream → List ℕ → Stream
with_more stream more = record stream { bytes = stream.bytes ++ more }

-- what stands at the front of the bytes, where a packet with this id is wanted
abbrev pub front_of : (wanted : ℕ) → Stream → Front
front_of wanted stream = front MAX_PAYLOAD (Exactly wanted) stream.place stream.bytes

-- the stream behind a packet
abbrev pub behind_of : Stream → List ℕ → Stream
behind_of stream behind = record { place = stream.place + (length stream.bytes - length behind); bytes = behind }

-- by what stands at the front of the bytes: a packet, less than one, or a fault
abbrev pub by_front : {R : Type 0} → (ℕ → List ℕ → List ℕ → R) → R → (FrameFault → R) → Front → R
by_front whole part fault (Whole first last payload behind) = whole last payload behind
by_front whole part fault (Part missing) = part
by_front whole part fault (Fault found) = fault found

-- less than a packet stands at the front
abbrev pub IsShort : (wanted : ℕ) → Stream → Type 0
IsShort wanted stream = (missing : ℕ) × (front_of wanted stream ≡ Part missing)
