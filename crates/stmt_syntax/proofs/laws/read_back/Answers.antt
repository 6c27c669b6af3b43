use Rattle.stmt_syntax.proofs.ReadBack.{read_back}
use Rattle.stmt_syntax.proofs.laws.read_back.Goals as goal

pub returns : goal.returns
returns c = read_back
