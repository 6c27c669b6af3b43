use Rattle.std.proofs.Common.{rules}
use Rattle.script_text.proofs.Given.{given-read}
use Rattle.script_text.proofs.line.read_line.Goals as goal

pub returns-in-Some-clause-given : goal.returns-in-Some-clause-given
returns-in-Some-clause-given c = given-read c.args.line.now c.said_by.result (search rules)
