-- Where a client over bytes stands, and what it comes to.
use Rattle.std.specs.Prelude.{◌≡◌, ◌<◌, ℕ, List, ◌++◌, length, Option, Some, None}
use Rattle.packet_frame.specs.Packets.{id_after}
use Rattle.packet_frame.specs.declared.packets.Packet.{Packet}
use Rattle.packet_stream.specs.Streams.{Stream, with_more}
use Rattle.login_client.specs.Clients.{talk_of}
use Rattle.login_client.specs.Heard.{heard_of}
use Rattle.login_client.specs.Talk.{Talk, IsWaiting, Over, hearing}
use Rattle.login_client.specs.declared.client.Client.{Client}
use Rattle.login_client.specs.declared.ends.LoginEnd.{LoginEnd}
use Rattle.client_wire.specs.Getting.{Got, after_written, getting, rests}
use Rattle.client_wire.specs.declared.ends.ClientEnd.{ClientEnd}
use Rattle.client_wire.specs.declared.ends.Turn.{Turn}
use Rattle.client_wire.specs.declared.ends.Turn.TheVariants as turn

-- the id that it wants of the next packet, where its talk stands, and the bytes that it hasn't read
pub record Standing : Type 0 where
  pub next : ℕ
  pub at : Talk
  pub unread : Stream

-- a talk that ended over bytes is over, and else the client's own talk goes on
abbrev pub at_of : Client → Option LoginEnd → Talk
at_of client None = talk_of client
at_of client (Some end) = Over end

unfoldable pub standing_of : ClientEnd → Standing
standing_of e = record { next = e.next; at = at_of e.client e.ended; unread = e.inbox }

-- what comes of the bytes that it hasn't read, and of further ones
abbrev pub got_by : Standing → Got
got_by s = getting s.next s.at s.unread

abbrev pub with_bytes : Standing → List ℕ → Standing
with_bytes s bytes = record s { unread = with_more s.unread bytes }

abbrev pub stands_at : Got → Standing
stands_at g = record { next = g.next; at = g.at; unread = g.unread }

-- it writes something, and what comes of the bytes then is what else was to come of them
pub record LeadsTo (old new : Standing) (before after : List ℕ) : Type 0 where
  pub written : List ℕ
  pub added : after ≡ before ++ written
  pub goes_on : got_by old ≡ after_written written (got_by new)

-- a packet is heard
abbrev pub heard_by : Packet → Standing → Standing
heard_by packet s = record { next = id_after packet.last; at = hearing s.at (heard_of packet.payload); unread = s.unread }

-- by what a turn came to: a packet was read, and the client waits for a further one; there was none; or the client is
-- done
abbrev pub ComesTo : Turn → Standing → Standing → Type 0
ComesTo turn.Read old new = IsWaiting new.at × length new.unread.bytes < length old.unread.bytes
ComesTo turn.Waits old new = IsWaiting new.at × (got_by new ≡ rests new.next new.at new.unread)
ComesTo (turn.Ends end) old new = new.at ≡ Over end

abbrev pub HearsTo : Turn → Standing → Type 0
HearsTo turn.Read new = IsWaiting new.at
HearsTo turn.Waits new = ⊥
HearsTo (turn.Ends end) new = new.at ≡ Over end
