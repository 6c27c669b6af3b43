use Rattle.login_client.proofs.Meaning.{one-meaning}
use Rattle.login_client.proofs.laws.payloads_have_one_meaning.Goals as goal

pub returns : goal.returns
returns c = one-meaning
