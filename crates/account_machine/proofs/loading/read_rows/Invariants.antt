use Rattle.account_machine.proofs.Recorded.{IsRead}
use Rattle.account_machine.proofs.loading.read_rows.Given as goal

abbrev pub invariant-loop-row : goal.invariant-loop-row
invariant-loop-row l = IsRead l.kept l.row-index l.rows
