use Rattle.std.proofs.Common.{◌∙◌, ap}
use Rattle.packet_frame.specs.Framing.{front_of}
use Rattle.packet_frame.proofs.Fronts.{front-nothing}
use Rattle.packet_frame.proofs.frames.Frames.new.Goals as goal

pub returns-clause-between : goal.returns-clause-between
returns-clause-between c = ap front_of c.new.ensures.starts ∙ front-nothing c.args.limit c.args.want 0
