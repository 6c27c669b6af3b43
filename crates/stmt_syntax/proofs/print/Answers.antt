-- What is printed is read back, whatever became of the call.
use Rattle.stmt_syntax.proofs.ReadBack.{read_back}
use Rattle.stmt_syntax.proofs.print.Goals as goal

pub returns-in_err-put_statement-clause-read_back : goal.returns-in_err-put_statement-clause-read_back
returns-in_err-put_statement-clause-read_back c = read_back c.args.statement.now c.requires

pub returns-clause-read_back : goal.returns-clause-read_back
returns-clause-read_back c = read_back c.args.statement.now c.requires
