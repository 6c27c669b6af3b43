use Rattle.both_ends.proofs.Closing.{refused-by-error}
use Rattle.both_ends.proofs.laws.refused_by_error.Goals as goal

pub returns : goal.returns
returns c = refused-by-error
