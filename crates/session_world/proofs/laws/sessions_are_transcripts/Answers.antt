use Rattle.session_world.proofs.Doing.{events_are_transcripts}
use Rattle.session_world.proofs.laws.sessions_are_transcripts.Goals as goal

pub returns : goal.returns
returns c = events_are_transcripts
