use Rattle.packet_frame.proofs.Streams.{faulty-stream}
use Rattle.packet_frame.proofs.laws.faults_end_the_stream.Goals as goal

pub returns : goal.returns
returns c = faulty-stream
