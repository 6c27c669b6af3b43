use Rattle.session_world.proofs.Replied.{replies_are_told}
use Rattle.session_world.proofs.laws.replies_are_told.Goals as goal

pub returns : goal.returns
returns c = replies_are_told
