use Rattle.pass_policy.proofs.Telling.{levels_told}
use Rattle.pass_policy.proofs.laws.strength_tells_levels.Goals as goal

pub returns : goal.returns
returns c = levels_told
