use Rattle.std.proofs.Common.{arith}
use Rattle.login_lock.proofs.LockLaws.{tally_of-more, tally_of-reached}
use Rattle.login_lock.proofs.Tally.fail.Goals as goal

pub returns-then-reached-clause-step : goal.returns-then-reached-clause-step
returns-then-reached-clause-step c failures is =
    tally_of-reached c.args.rule.now failures c.args.self.now c.args.now is c.if-reached.true

pub returns-else-reached-clause-step : goal.returns-else-reached-clause-step
returns-else-reached-clause-step c failures is =
    tally_of-more c.args.rule.now failures c.args.self.now c.args.now is c.requires.unlocked (omega arith)
