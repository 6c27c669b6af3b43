use Rattle.login_client.proofs.Reasons.{factors_go, passwords_go, switches_go}
use Rattle.login_client.proofs.laws.reasons_have_an_order.Goals as goal

pub returns : goal.returns
returns c = record { factors = factors_go; switches = switches_go; password = passwords_go }
