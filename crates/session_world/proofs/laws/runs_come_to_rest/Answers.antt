use Rattle.session_world.proofs.Fewer.{runs_come_to_rest}
use Rattle.session_world.proofs.laws.runs_come_to_rest.Goals as goal

pub returns : goal.returns
returns c = runs_come_to_rest
