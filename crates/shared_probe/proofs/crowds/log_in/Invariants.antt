use Rattle.shared_accounts.specs.Sharing.{Sits}
use Rattle.shared_probe.proofs.crowds.log_in.Given as goal

abbrev pub invariant-loop-turn : goal.invariant-loop-turn
invariant-loop-turn g l = Sits l.shared l.seat
