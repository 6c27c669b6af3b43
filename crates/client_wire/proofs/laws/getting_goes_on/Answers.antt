use Rattle.client_wire.proofs.GoingOn.{getting_goes_on}
use Rattle.client_wire.proofs.laws.getting_goes_on.Goals as goal

pub returns : goal.returns
returns c = getting_goes_on
