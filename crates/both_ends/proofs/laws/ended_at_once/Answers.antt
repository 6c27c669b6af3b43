use Rattle.both_ends.proofs.Closing.{ended-at-once}
use Rattle.both_ends.proofs.laws.ended_at_once.Goals as goal

pub returns : goal.returns
returns c = ended-at-once
