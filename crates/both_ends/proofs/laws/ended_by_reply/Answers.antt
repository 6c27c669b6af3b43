use Rattle.both_ends.proofs.Closing.{ended-by-reply}
use Rattle.both_ends.proofs.laws.ended_by_reply.Goals as goal

pub returns : goal.returns
returns c = ended-by-reply
