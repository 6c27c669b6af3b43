use Rattle.session_talk.proofs.Tying.{wired_is_owed}
use Rattle.session_talk.proofs.laws.wired_is_owed.Goals as goal

pub returns : goal.returns
returns c = wired_is_owed
