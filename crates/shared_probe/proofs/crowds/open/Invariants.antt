use Rattle.shared_accounts.specs.Sharing.{Sits}
use Rattle.shared_probe.proofs.crowds.open.Given as goal

abbrev pub invariant-loop : goal.invariant-loop
invariant-loop g l = Sits l.shared l.seat
