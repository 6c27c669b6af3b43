use Rattle.loginctl.proofs.Dues.{printed-cut, printed-whole}
use Rattle.loginctl.proofs.printing.print.Goals as goal

pub returns-in-Ok-clause-printed : goal.returns-in-Ok-clause-printed
returns-in-Ok-clause-printed g c =
    printed-whole _ _ _ c.args.status c.args.text.now c.write_all.result c.in-Ok.field-0 c.in-Ok.is c.write_all.ensures.bytes

pub returns-in-Err-clause-printed : goal.returns-in-Err-clause-printed
returns-in-Err-clause-printed g c =
    printed-cut _ _ _ c.args.status c.args.text.now c.write_all.result c.in-Err.field-0 c.in-Err.is c.in-Err.ensures.cause c.write_all.ensures.bytes
