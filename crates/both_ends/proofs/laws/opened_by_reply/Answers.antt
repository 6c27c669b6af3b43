use Rattle.both_ends.proofs.Closing.{opened-by-reply}
use Rattle.both_ends.proofs.laws.opened_by_reply.Goals as goal

pub returns : goal.returns
returns c = opened-by-reply
