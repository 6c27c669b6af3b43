use Rattle.session_talk.proofs.Transcripts.{runs_are_transcripts}
use Rattle.session_talk.proofs.laws.runs_are_transcripts.Goals as goal

pub returns : goal.returns
returns c = runs_are_transcripts
