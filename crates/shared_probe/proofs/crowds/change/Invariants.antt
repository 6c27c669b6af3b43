use Rattle.shared_accounts.specs.Sharing.{Sits}
use Rattle.shared_probe.proofs.crowds.change.Given as goal

abbrev pub invariant-loop-number : goal.invariant-loop-number
invariant-loop-number g l = Sits l.shared l.seat
