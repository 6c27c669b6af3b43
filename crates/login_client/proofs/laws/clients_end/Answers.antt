use Rattle.login_client.proofs.Turns.{acts-decided, acts-within}
use Rattle.login_client.proofs.laws.clients_end.Goals as goal

pub returns-clause-fewer : goal.returns-clause-fewer
returns-clause-fewer c = acts-within

pub returns-clause-decided : goal.returns-clause-decided
returns-clause-decided c = acts-decided
