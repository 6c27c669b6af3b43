use Rattle.account_history.proofs.Recalled.{stamps-tell}
use Rattle.account_history.proofs.laws.stamps_tell.Goals as goal

pub returns : goal.returns
returns c = stamps-tell
