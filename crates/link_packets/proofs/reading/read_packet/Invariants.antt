-- What was read is held, and is less than a packet.
use Rattle.std.proofs.Common.{◌≡◌, ◌-◌, ◌≤◌, [], length, false}
use Rattle.link_packets.specs.Moving.{Moved}
use Rattle.link_packets.specs.Reading.{longest_packet}
use Rattle.link_packets.proofs.Packets.{IsPartRead}
use Rattle.link_packets.proofs.reading.read_packet.Given as goal

abbrev pub invariant-reads : goal.invariant-reads
invariant-reads g l = record {
  piece : length l.piece ≡ 16384;
  part : IsPartRead l.fn.frames l.frames;
  moved : Moved (g.L.Link.told l.fn.link) (g.L.Link.told l.link) l.frames.held [];
  unfinished : g.L.Link.finished l.link ≡ false;
  place : g.L.Link.local l.link ≡ g.L.Link.local l.fn.link;
  dialled : g.L.Link.dialled l.link ≡ g.L.Link.dialled l.fn.link;
  rising : g.L.Link.fault_count l.fn.link ≤ g.L.Link.fault_count l.link;
}

abbrev pub decreases-reads : goal.decreases-reads
decreases-reads g l = longest_packet - length l.frames.held
