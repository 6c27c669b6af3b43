use Rattle.account_machine.proofs.Restarted.{records-fit}
use Rattle.account_machine.proofs.laws.records_fit.Goals as goal

pub returns : goal.returns
returns c = records-fit
