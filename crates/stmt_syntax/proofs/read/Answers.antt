-- What is read by the grammar is what the grammar says of the text.
use Rattle.stmt_syntax.proofs.Places.{accepts, readable}
use Rattle.stmt_syntax.proofs.read.Goals as goal

pub returns-clause-accepts : goal.returns-clause-accepts
returns-clause-accepts c = accepts c.args.text.now c.read_tokens.result c.read_tokens.ensures

pub returns-clause-readable : goal.returns-clause-readable
returns-clause-readable c = readable c.args.text.now c.read_tokens.result c.read_tokens.ensures
