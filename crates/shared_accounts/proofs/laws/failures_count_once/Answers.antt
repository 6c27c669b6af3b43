use Rattle.shared_accounts.proofs.Counted.{failures-count-once}
use Rattle.shared_accounts.proofs.laws.failures_count_once.Goals as goal

pub returns : goal.returns
returns c = failures-count-once
