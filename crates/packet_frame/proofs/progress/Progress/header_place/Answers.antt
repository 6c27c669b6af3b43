use Rattle.std.proofs.Common.{arith}
use Rattle.packet_frame.proofs.Pieces.{length-laid_pieces}
use Rattle.packet_frame.proofs.progress.Progress.header_place.Goals as goal

pub returns : goal.returns
returns c =
    let p = c.args.self.now in
    omega (arith, length-laid_pieces p.first p.full p.payload.items c.requires.enough)
