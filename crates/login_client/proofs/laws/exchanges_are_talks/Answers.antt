use Rattle.login_client.proofs.Talking.{exchange-talked}
use Rattle.login_client.proofs.laws.exchanges_are_talks.Goals as goal

pub returns : goal.returns
returns c = exchange-talked
