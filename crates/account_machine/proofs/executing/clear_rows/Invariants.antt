use Rattle.std.proofs.Common.{◌≡◌, ◌++◌, map, take, drop, true}
use Rattle.account_machine.specs.Executing.{row_with}
use Rattle.account_machine.proofs.executing.clear_rows.Given as goal

-- the rows so far are cleared, and the rest are as they were
abbrev pub invariant-rows : goal.invariant-rows
invariant-rows l = l.rows ≡ map (row_with true (λ a. a)) (take l.row-index l.fn.rows) ++ drop l.row-index l.fn.rows
