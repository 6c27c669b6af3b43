use Rattle.login_client.proofs.Meaning.{client-talk-one}
use Rattle.login_client.proofs.laws.talks_are_determined.Goals as goal

pub returns : goal.returns
returns c = client-talk-one
