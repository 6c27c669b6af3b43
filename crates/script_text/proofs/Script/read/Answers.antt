use Rattle.script_text.proofs.Whole.{accepts}
use Rattle.script_text.proofs.Script.read.Goals as goal

pub returns-clause-accepts : goal.returns-clause-accepts
returns-clause-accepts c = accepts c.args.text.now c.read_lines.result c.read_lines.ensures.reads c.read_lines.ensures.given
