use Rattle.login_client.proofs.HeardOf.{heard-is-read}
use Rattle.login_client.proofs.laws.payloads_say_what_is_read.Goals as goal

pub returns : goal.returns
returns c = heard-is-read
