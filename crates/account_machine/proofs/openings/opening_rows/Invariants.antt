use Rattle.std.proofs.Common.{◌≡◌, ◌+◌, take}
use Rattle.account_machine.specs.Openings.{opening_accounts}
use Rattle.account_machine.specs.Rows.{new_rows}
use Rattle.account_machine.proofs.openings.opening_rows.Given as goal

abbrev pub invariant-loop-opening : goal.invariant-loop-opening
invariant-loop-opening l = record {
  rows : l.rows.items ≡ new_rows (opening_accounts (take l.opening-index l.extra));
  id : l.id ≡ 2 + l.opening-index;
}
