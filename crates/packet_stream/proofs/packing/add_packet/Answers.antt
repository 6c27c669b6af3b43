use Rattle.packet_stream.proofs.Packed.{written_is, written_next}
use Rattle.packet_stream.proofs.packing.add_packet.Goals as goal

pub returns-clause-text : goal.returns-clause-text
returns-clause-text c = written_is _ _ _ _ _ c.in_ok-next.ensures.ok

pub returns-clause-next : goal.returns-clause-next
returns-clause-next c = written_next _ _ _ _ _ c.in_ok-next.ensures.ok
