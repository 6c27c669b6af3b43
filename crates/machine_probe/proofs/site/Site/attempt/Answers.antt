use Rattle.std.proofs.Common.{arith}
use Rattle.machine_probe.proofs.Counted.{count-attempted}
use Rattle.machine_probe.proofs.site.Site.attempt.Goals as goal

pub invariant_of-self : goal.invariant_of-self
invariant_of-self c =
    let same = count-attempted c.self.inside.accounts c.attempt_here.new.self _ c.attempt_here.ensures.entry in
    let before = c.self.invariant in omega (arith, same, before)
