use Rattle.login_client.proofs.Keeping.{login-keeps}
use Rattle.login_client.proofs.laws.secrets_are_kept.Goals as goal

pub returns : goal.returns
returns c = login-keeps
