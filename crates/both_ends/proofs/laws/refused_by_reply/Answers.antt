use Rattle.both_ends.proofs.Closing.{refused-by-reply}
use Rattle.both_ends.proofs.laws.refused_by_reply.Goals as goal

pub returns : goal.returns
returns c = refused-by-reply
