use Rattle.login_client.proofs.Within.{login-within}
use Rattle.login_client.proofs.laws.logins_end.Goals as goal

pub returns : goal.returns
returns c = login-within
