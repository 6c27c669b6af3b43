use Rattle.session_serve.proofs.Owning.{checked_answered}
use Rattle.session_serve.proofs.settling.check_evidence.Goals as goal

pub returns : goal.returns
returns g c begun x keeps = checked_answered begun x c.args.held.now c.args.look c.args.evidences c.check.result c.check.ensures keeps
