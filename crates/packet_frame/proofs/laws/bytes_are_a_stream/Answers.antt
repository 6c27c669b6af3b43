use Rattle.std.proofs.Common.{length, arith}
use Rattle.packet_frame.proofs.Streams.{streams-seen}
use Rattle.packet_frame.proofs.laws.bytes_are_a_stream.Goals as goal

pub returns : goal.returns
returns c limit next want place bytes b = streams-seen (length bytes) limit next want place bytes (omega arith) b
