use Rattle.loginctl.specs.Generated.{printed, unprinted}
use Rattle.loginctl.proofs.Dues.{printed-as, wrote-nothing}
use Rattle.loginctl.specs.declared.status.Status.TheVariants.{Done}
use Rattle.loginctl.proofs.tool.print_generated.Goals as goal

pub returns-in-Ok-clause-answer : goal.returns-in-Ok-clause-answer
returns-in-Ok-clause-answer g c =
    printed c.print.result c.in-Ok.line c.in-Ok.ensures (printed-as _ _ _ Done _ _ c.print.result c.as_slice.ensures c.print.ensures.printed)

pub returns-in-Err-clause-answer : goal.returns-in-Err-clause-answer
returns-in-Err-clause-answer g c = unprinted (wrote-nothing _)
