use Rattle.session_talk.proofs.Asking.{asks_are_answered, what_fits_is_asked}
use Rattle.session_talk.proofs.laws.asks_are_answered.Goals as goal

pub returns-clause-kind : goal.returns-clause-kind
returns-clause-kind c = asks_are_answered

pub returns-clause-fits : goal.returns-clause-fits
returns-clause-fits c = what_fits_is_asked
