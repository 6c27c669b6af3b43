use Rattle.account_history.proofs.Numbered.{numbers-rise, numbers-stay-gone}
use Rattle.account_history.proofs.laws.numbers_are_given_once.Goals as goal

pub returns-clause-rise : goal.returns-clause-rise
returns-clause-rise c = numbers-rise

pub returns-clause-gone : goal.returns-clause-gone
returns-clause-gone c = numbers-stay-gone
