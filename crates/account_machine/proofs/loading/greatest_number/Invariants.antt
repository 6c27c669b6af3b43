use Rattle.std.proofs.Common.{◌≡◌, max, drop}
use Rattle.account_history.specs.Given.{greatest_given}
use Rattle.account_machine.specs.Looks.{accounts_of}
use Rattle.account_machine.proofs.loading.greatest_number.Given as goal

abbrev pub invariant-loop-row : goal.invariant-loop-row
invariant-loop-row l =
    max l.greatest (greatest_given (accounts_of (drop l.row-index l.rows))).account ≡ (greatest_given (accounts_of l.rows)).account
