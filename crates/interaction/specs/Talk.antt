-- One end of a connection as an interaction tree: what it sends, receives and asks, and how it goes on by what it is
-- given.
--
-- A talk has no counter of packets, no buffer and no link: sequence ids, bytes and answers are given to it by a handler.
use Rattle.std.specs.Prelude.{ℕ, Bool, List}
use Rattle.packet_frame.specs.declared.packets.FrameFault.{FrameFault}

-- what reading gives: the payload of a packet, or how reading ended
pub data Reading : Type 0 where
  Got : (payload : List ℕ) → Reading
  -- the bytes show a fault of framing
  Faulty : FrameFault → Reading
  -- the peer closed the connection, within a packet where `cut` is true
  PeerClosed : (cut : Bool) → Reading
  LinkFailed : Reading

pub data Talk (Question Answer End : Type 0) : Type 0 where
  -- a payload is sent
  Says : (payload : List ℕ) → Talk Question Answer End → Talk Question Answer End
  -- a payload is waited for; with it the sequence ids may begin anew, as they do for each command
  Hears : (anew : Bool) → (Reading → Talk Question Answer End) → Talk Question Answer End
  -- the end's own side is asked
  Asks : Question → (Answer → Talk Question Answer End) → Talk Question Answer End
  -- the talk has ended
  Over : End → Talk Question Answer End
