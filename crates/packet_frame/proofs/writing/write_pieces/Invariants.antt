use Rattle.std.proofs.Common.{length}
use Rattle.packet_frame.specs.Packets.{WritesPieces}
use Rattle.packet_frame.proofs.writing.write_pieces.Given as goal

abbrev pub invariant-pieces : goal.invariant-pieces
invariant-pieces l = WritesPieces l.fn.first l.fn.payload l.id l.rest l.fn.out l.out

abbrev pub decreases-pieces : goal.decreases-pieces
decreases-pieces l = length l.rest
