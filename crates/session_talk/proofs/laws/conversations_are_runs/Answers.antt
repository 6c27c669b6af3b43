use Rattle.session_talk.proofs.Conversing.{each_goes}
use Rattle.session_talk.proofs.Settled.{each_is}
use Rattle.session_talk.proofs.laws.conversations_are_runs.Goals as goal

pub returns : goal.returns
returns c = record {
  each_goes = each_goes;
  each_is = λ id before user evidences flags reply payload after goes. each_is user evidences flags reply payload after id before goes;
}
