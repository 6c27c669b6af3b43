use Rattle.account_machine.proofs.Recorded.{handed-first}
use Rattle.account_machine.proofs.loading.load_rows.Goals as goal

pub returns-in_err-rows-clause-first : goal.returns-in_err-rows-clause-first
returns-in_err-rows-clause-first c = λ key first. handed-first c.from_residual.result key _ c.from_residual.ensures.1 (c.in_err-rows.ensures.first key first)
