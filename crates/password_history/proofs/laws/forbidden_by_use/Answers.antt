use Rattle.password_history.proofs.Records.{forbidden_by-use}
use Rattle.password_history.proofs.laws.forbidden_by_use.Goals as goal

pub returns : goal.returns
returns c = forbidden_by-use
