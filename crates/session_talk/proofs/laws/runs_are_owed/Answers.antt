use Rattle.session_talk.proofs.Running.{runs_are_owed}
use Rattle.session_talk.proofs.laws.runs_are_owed.Goals as goal

pub returns : goal.returns
returns c = runs_are_owed
