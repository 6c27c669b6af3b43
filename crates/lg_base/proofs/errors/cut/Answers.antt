-- A name of at most 64 bytes is shown whole.
use Rattle.std.proofs.Common.{sym, take_all, arith}
use Rattle.lg_base.proofs.errors.cut.Goals as goal

pub returns-then-name-le64 : goal.returns-then-name-le64
returns-then-name-le64 c = sym (take_all 64 c.args.name.now (omega arith))
