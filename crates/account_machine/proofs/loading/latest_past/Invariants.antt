use Rattle.std.proofs.Common.{◌≡◌, max, drop}
use Rattle.account_history.specs.Histories.{latest_past}
use Rattle.account_machine.proofs.loading.latest_past.Given as goal

abbrev pub invariant-loop-entry : goal.invariant-loop-entry
invariant-loop-entry l = max l.latest (latest_past (drop l.entry-index l.past)) ≡ latest_past l.past
