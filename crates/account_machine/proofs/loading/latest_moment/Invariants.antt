use Rattle.std.proofs.Common.{◌≡◌, max, drop}
use Rattle.account_history.specs.Histories.{latest_moment}
use Rattle.account_machine.specs.Looks.{accounts_of}
use Rattle.account_machine.proofs.loading.latest_moment.Given as goal

abbrev pub invariant-loop-row : goal.invariant-loop-row
invariant-loop-row l = max l.latest (latest_moment (accounts_of (drop l.row-index l.rows))) ≡ latest_moment (accounts_of l.rows)
