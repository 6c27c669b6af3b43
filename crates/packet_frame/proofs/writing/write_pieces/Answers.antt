use Rattle.packet_frame.proofs.Written.{pieces-more, pieces-end}
use Rattle.packet_frame.proofs.writing.write_pieces.Goals as goal

pub pieces-preserved : goal.pieces-preserved
pieces-preserved c =
    pieces-more c.args.first c.args.payload.now c.pieces.id c.pieces.rest.now c.split_at.result.0.now c.split_at.result.1.now c.args.out.now c.pieces.out c.write_piece.new.out
    c.pieces.invariant c.split_at.ensures.by_index.0 c.split_at.ensures.front_len c.in_ok-write_piece.ensures.ok

pub returns-clause-ok : goal.returns-clause-ok
returns-clause-ok c =
    pieces-end c.args.first c.args.payload.now c.pieces.id c.pieces.rest.now c.args.out.now c.pieces.out c.write_piece-2.new.out
    c.pieces.invariant c.pieces-test.false c.in_ok-write_piece-2.ensures.ok
