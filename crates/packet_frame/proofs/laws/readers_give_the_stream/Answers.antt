use Rattle.packet_frame.proofs.Streams.{run-stream}
use Rattle.packet_frame.proofs.laws.readers_give_the_stream.Goals as goal

pub returns : goal.returns
returns c = run-stream
