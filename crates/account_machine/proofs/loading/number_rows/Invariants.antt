use Rattle.std.proofs.Common.{◌≡◌, ◌*◌, ◌≤◌, ◌++◌, take, drop}
use Rattle.account_machine.specs.Loading.{last_number, numbered_rows}
use Rattle.account_machine.specs.Looks.{accounts_of}
use Rattle.account_machine.proofs.loading.number_rows.Given as goal

abbrev pub invariant-loop-row : goal.invariant-loop-row
invariant-loop-row l = record {
  rows : l.rows ≡ numbered_rows 0 (take l.row-index l.fn.rows) ++ drop l.row-index l.fn.rows;
  last : l.last ≡ last_number 0 (accounts_of (take l.row-index l.fn.rows));
  most : l.last ≤ 2 * l.row-index;
}
