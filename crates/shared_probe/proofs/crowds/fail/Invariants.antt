use Rattle.shared_accounts.specs.Sharing.{Sits}
use Rattle.shared_probe.proofs.crowds.fail.Given as goal

abbrev pub invariant-loop-reading : goal.invariant-loop-reading
invariant-loop-reading g l = Sits l.shared l.seat
