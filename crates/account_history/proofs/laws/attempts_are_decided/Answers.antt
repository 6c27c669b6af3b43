use Rattle.account_history.proofs.Decided.{attempts-decided}
use Rattle.account_history.proofs.laws.attempts_are_decided.Goals as goal

pub returns : goal.returns
returns c = attempts-decided
