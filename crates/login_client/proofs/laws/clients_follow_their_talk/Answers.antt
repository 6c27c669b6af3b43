use Rattle.login_client.proofs.Talking.{leads-on}
use Rattle.login_client.proofs.laws.clients_follow_their_talk.Goals as goal

pub returns : goal.returns
returns c = leads-on
