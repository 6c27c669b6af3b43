use Rattle.both_ends.proofs.Heard.{payloads-heard}
use Rattle.both_ends.proofs.laws.payloads_are_heard.Goals as goal

pub returns : goal.returns
returns c = payloads-heard
