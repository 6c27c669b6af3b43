use Rattle.std.proofs.Common.{rules}
use Rattle.shared_probe.proofs.seats.overtaken_again.Goals as goal

pub settle-requires-clause-login : goal.settle-requires-clause-login
settle-requires-clause-login g c = (c.args.user.now, search rules)
