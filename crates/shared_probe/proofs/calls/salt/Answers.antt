use Rattle.shared_accounts.proofs.Salts.{dots-are-salt}
use Rattle.shared_probe.proofs.calls.salt.Goals as goal

pub returns : goal.returns
returns c = dots-are-salt
