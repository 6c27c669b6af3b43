use Rattle.session_world.proofs.Doing.{events_are_done}
use Rattle.session_world.proofs.laws.events_are_done.Goals as goal

pub returns : goal.returns
returns c = events_are_done
