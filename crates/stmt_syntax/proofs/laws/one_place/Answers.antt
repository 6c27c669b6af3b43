use Rattle.stmt_syntax.proofs.Places.{one_place}
use Rattle.stmt_syntax.proofs.laws.one_place.Goals as goal

pub returns : goal.returns
returns c = one_place
