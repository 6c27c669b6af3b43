use Rattle.session_talk.proofs.Bounding.{sessions_are_bounded}
use Rattle.session_talk.proofs.laws.sessions_are_bounded.Goals as goal

pub returns : goal.returns
returns c = sessions_are_bounded
