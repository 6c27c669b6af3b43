use Rattle.session_talk.proofs.Coming.{reading_is_determined}
use Rattle.session_talk.proofs.laws.reading_is_determined.Goals as goal

pub returns : goal.returns
returns c = reading_is_determined
