use Rattle.packet_frame.proofs.Standing.{progress-reading}
use Rattle.packet_frame.proofs.progress.Progress.place.Goals as goal

pub returns-clause-reading : goal.returns-clause-reading
returns-clause-reading c = progress-reading c.args.self.now c.requires
