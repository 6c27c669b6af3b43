use Rattle.client_wire.proofs.Exchanging.{getting_is_exchange}
use Rattle.client_wire.proofs.laws.gettings_are_exchanges.Goals as goal

pub returns : goal.returns
returns c = getting_is_exchange
