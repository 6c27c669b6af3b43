use Rattle.std.proofs.Common.{subst}
use Rattle.packet_frame.specs.Streams.{bytes_of, packets_of, IsStream}
use Rattle.packet_frame.proofs.Streams.{run-stream, streams-same}
use Rattle.packet_frame.proofs.laws.cutting_changes_nothing.Goals as goal

pub returns : goal.returns
returns c limit next want moves others v w ending other same run ends run' ends' =
    let first = run-stream limit next want moves v ending run ends in
    let second = run-stream limit next want others w other run' ends' in
    streams-same limit next want 0 (bytes_of others) (packets_of moves) (packets_of others) ending other
    (subst (λ bytes. IsStream limit next want 0 bytes (packets_of moves) ending) same first) second
