-- What a listing of packets has come to.
use Rattle.std.specs.Prelude.{◌≡◌, ℕ, ◌≤◌, List, ◌++◌, length, Option}
use Rattle.packet_frame.specs.Framing.{place_of, front_of, IsReading}
use Rattle.packet_frame.specs.Front.{Part}
use Rattle.packet_frame.specs.Streams.{Faulty, HasGiven}
use Rattle.packet_frame.specs.declared.packets.Packet.{Packet}
use Rattle.packet_frame.specs.declared.packets.Want.TheVariants.{Any}
use Rattle.packet_frame.specs.declared.packets.FrameFault.{FrameFault}
use Rattle.packet_frame.specs.declared.packets.FrameFault.TheVariants.{TooLarge, OutOfOrder, Memory}
use Rattle.loginctl.specs.Frames.{IsListed, IsPackets, packet_lines}
use Rattle.loginctl.specs.Printing.{Printed}
use Rattle.loginctl.specs.declared.frames.Listing.{Listing}
use Rattle.loginctl.specs.declared.status.Status.{Status}
use Rattle.loginctl.specs.declared.status.Status.TheVariants.{NoMemory}

-- no packet waits and there was no fault, and there are no more packets than bytes
pub record IsSteady (l : Listing) : Type 0 where
  pub missing : ℕ
  pub part : front_of l.frames ≡ Part missing
  pub counted : l.count ≤ place_of l.frames

-- these bytes were read, and the lines of the packets in them are what was written, and then what the listing
-- has
pub record HasRead (bytes written : List ℕ) (l : Listing) : Type 0 where
  pub packets : List Packet
  pub given : HasGiven 50331645 (λ _. Any) Any bytes packets l.frames
  pub reading : IsReading l.frames
  pub place_is : place_of l.frames ≡ length bytes
  pub count_is : l.count ≡ length packets
  pub lines_are : packet_lines packets ≡ written ++ l.lines

-- the same where the bytes end at a fault
pub record HasStopped (bytes written : List ℕ) (fault : FrameFault) (l : Listing) : Type 0 where
  pub packets : List Packet
  pub stream : IsPackets bytes packets (Faulty fault)
  pub lines_are : packet_lines packets ≡ written ++ l.lines

-- want of memory, or a fault in the bytes
abbrev pub Stops : (bytes written : List ℕ) → FrameFault → Listing → Type 0
Stops bytes written Memory l = Unit {0}
Stops bytes written (TooLarge at) l = HasStopped bytes written (TooLarge at) l
Stops bytes written (OutOfOrder at want got) l = HasStopped bytes written (OutOfOrder at want got) l

-- the input ended: the rest of its text is printed, or there was no memory
pub data IsEnded (bytes written : List ℕ) (before after : Option (List ℕ)) (SinkRose : Type 0) : Status → Type 0 where
  printed : (result status : Status) (rest : List ℕ) → IsListed bytes status (written ++ rest) → Printed before after SinkRose status rest result
      → IsEnded bytes written before after SinkRose result
  without_memory : after ≡ before → IsEnded bytes written before after SinkRose NoMemory
