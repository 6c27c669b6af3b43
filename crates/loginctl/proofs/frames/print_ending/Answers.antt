use Rattle.std.proofs.Common.{refl}
use Rattle.loginctl.specs.Listing.{printed, without_memory}
use Rattle.loginctl.proofs.Dues.{printed-as}
use Rattle.loginctl.proofs.frames.print_ending.Goals as goal

pub returns-in-Err-clause-ends : goal.returns-in-Err-clause-ends
returns-in-Err-clause-ends g c bytes written h short = without_memory refl

pub returns-clause-ends : goal.returns-clause-ends
returns-clause-ends g c bytes written h short =
    printed c.print.result c.in-Ok.status c.add_ending.new.self.lines (c.in-Ok.ensures bytes written h short)
    (printed-as _ _ _ c.in-Ok.status _ _ c.print.result c.as_slice.ensures c.print.ensures.printed)
