use Rattle.session_world.proofs.Doing.{events_are_done}
use Rattle.session_world.proofs.Ended.{ended_once_told}
use Rattle.session_world.proofs.ends.ended_once_told.Goals as goal

pub returns : goal.returns
returns c = ended_once_told events_are_done
