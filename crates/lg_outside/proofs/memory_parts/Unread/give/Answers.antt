use Rattle.std.proofs.Common.{sym}
use Rattle.lg_outside.proofs.Parts.{given-more}
use Rattle.lg_outside.proofs.memory_parts.Unread.give.Goals as goal

pub returns-clause-after : goal.returns-clause-after
returns-clause-after c = given-more c.self.inside.bytes c.self.inside.given c.min-count.result c.args.self.now (sym c.self.view_is)
