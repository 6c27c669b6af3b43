use Rattle.std.proofs.Common.{arith}
use Rattle.machine_probe.proofs.Counted.{count-observed}
use Rattle.machine_probe.proofs.site.Site.look.Goals as goal

pub invariant_of-self : goal.invariant_of-self
invariant_of-self c =
    let same = count-observed c.self.inside.accounts c.observed.new.self _ _ c.observed.ensures in
    let before = c.self.invariant in omega (arith, same, before)
