use Rattle.session_talk.proofs.GoingOn.{owed_goes_on}
use Rattle.session_talk.proofs.OverBytes.{wired_goes_on}
use Rattle.session_talk.proofs.laws.what_is_owed_goes_on.Goals as goal

pub returns-clause-packets : goal.returns-clause-packets
returns-clause-packets c = owed_goes_on

pub returns-clause-bytes : goal.returns-clause-bytes
returns-clause-bytes c = wired_goes_on
