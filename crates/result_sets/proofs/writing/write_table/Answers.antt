use Rattle.result_sets.proofs.Written.{payloads_spelled}
use Rattle.result_sets.proofs.writing.write_table.Goals as goal

pub returns-clause-spelled : goal.returns-clause-spelled
returns-clause-spelled c = payloads_spelled c.args.table.now c.in_ok-payloads.payloads c.requires
    c.in_ok-payloads.ensures.ok c.in_ok-payloads.ensures.columns c.in_ok-payloads.ensures.rows
