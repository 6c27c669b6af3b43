use Rattle.session_world.proofs.Doing.{events_are_legal}
use Rattle.session_world.proofs.laws.histories_are_legal.Goals as goal

pub returns : goal.returns
returns c = events_are_legal
