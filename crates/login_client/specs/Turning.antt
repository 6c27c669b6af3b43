-- What comes of a turn of a login: a packet is heard, and maybe one is written.
use Rattle.std.specs.Prelude.{◌≡◌, ℕ, suc, ◌+◌, ◌≤◌, List, ◌++◌, length, Option}
use Rattle.lg_outside.specs.Traffic.{Traffic}
use Rattle.link_packets.specs.Moving.{Moved}
use Rattle.link_packets.specs.Reading.{between, longest_packet}
use Rattle.link_packets.specs.declared.reading.ReadEnd.{ReadEnd}
use Rattle.link_packets.specs.declared.reading.ReadEnd.TheVariants as read
use Rattle.link_packets.specs.declared.writing.WriteEnd.{WriteEnd}
use Rattle.link_packets.specs.declared.writing.WriteEnd.TheVariants as write
use Rattle.packet_frame.specs.Framing.{Framing}
use Rattle.login_client.specs.Exchange.{EndsWithin, IsExchange, Stand}
use Rattle.login_client.specs.Talk.{Talk, IsWaiting}
use Rattle.login_client.specs.declared.ends.LoginEnd.{LoginEnd}
use Rattle.login_client.specs.declared.ends.LoginEnd.TheVariants.{Framing as ByFraming, PeerClosed, LinkFault, Memory}

-- how a login ends where no packet was read
abbrev pub end_of_read : ReadEnd → LoginEnd
end_of_read (read.Faulty fault) = ByFraming fault
end_of_read (read.Closed cut) = PeerClosed
end_of_read read.Failed = LinkFault
end_of_read read.Memory = Memory

-- how a login ends where a packet wasn't written whole
abbrev pub end_of_write : WriteEnd → LoginEnd
end_of_write write.Failed = LinkFault
end_of_write write.Memory = Memory

-- A turn after which the login goes on: with these bytes got and those sent, whatever follows continues the talk.
pub record GoesOn (n : ℕ) (talk : Talk) (id place : ℕ) (before after : Option Traffic) (now : Talk) (frames : Framing) : Type 0 where
  pub got : List ℕ
  pub sent : List ℕ
  pub next : ℕ
  pub moved : Moved before after got sent
  pub short : length got ≤ longest_packet
  pub frames_are : frames ≡ between next (place + length got)
  pub waits : IsWaiting now
  pub fewer : (less : ℕ) × (n ≡ suc less) × EndsWithin less now
  pub follows : (more later : List ℕ) (stand : Stand) → IsExchange now next (place + length got) more later stand
      → IsExchange talk id place (got ++ more) (sent ++ later) stand
