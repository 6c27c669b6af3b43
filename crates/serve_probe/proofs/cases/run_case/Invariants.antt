use Rattle.shared_accounts.specs.Sharing.{Sits}
use Rattle.serve_probe.proofs.cases.run_case.Given as goal

abbrev pub invariant-loop-event : goal.invariant-loop-event
invariant-loop-event g l = Sits l.shared l.seat
