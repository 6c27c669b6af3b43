use Rattle.std.proofs.Common.{arith}
use Rattle.account_machine.proofs.machine.Accounts.stamp.Goals as goal

pub of-requires : goal.of-requires
of-requires c =
    let same = c.self.invariant.0.same_stamps.same c.args.user.now in
    let most = c.self.invariant.0.same_stamps.most c.args.user.now in
    omega (arith, same, most)
