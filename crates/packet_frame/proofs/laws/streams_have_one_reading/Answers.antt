use Rattle.packet_frame.proofs.Streams.{streams-same}
use Rattle.packet_frame.proofs.laws.streams_have_one_reading.Goals as goal

pub returns : goal.returns
returns c = streams-same
