use Rattle.result_sets.proofs.Listed.{one_table}
use Rattle.result_sets.proofs.laws.one_table.Goals as goal

pub returns : goal.returns
returns c = one_table
