use Rattle.std.proofs.Common.{length, arith}
use Rattle.packet_frame.proofs.Longer.{front-stays}
use Rattle.packet_frame.proofs.laws.front_stays_with_more_behind.Goals as goal

pub returns : goal.returns
returns c limit want place bytes more = front-stays (length bytes) limit want place bytes more (omega arith)
