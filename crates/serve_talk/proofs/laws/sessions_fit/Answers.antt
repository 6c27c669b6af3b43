use Rattle.serve_talk.proofs.Fitted.{sessions_fit}
use Rattle.serve_talk.proofs.laws.sessions_fit.Goals as goal

pub returns : goal.returns
returns c = sessions_fit
