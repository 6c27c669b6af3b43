use Rattle.session_talk.proofs.Ending.{runs_end_as_owed}
use Rattle.session_talk.proofs.laws.runs_end_as_owed.Goals as goal

pub returns : goal.returns
returns c = runs_end_as_owed
