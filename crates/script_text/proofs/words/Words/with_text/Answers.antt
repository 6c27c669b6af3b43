use Rattle.std.proofs.Common.{rules}
use Rattle.script_text.proofs.Cuts.{worded}
use Rattle.script_text.proofs.words.Words.with_text.Goals as goal

pub returns-in-Some-text : goal.returns-in-Some-text
returns-in-Some-text c = worded c.args.self.now c.cut.result.0.now c.in-Some-text.text.now (search rules)
