use Rattle.session_world.proofs.Taking.{kept}
use Rattle.session_world.proofs.sessions.keep.Goals as goal

-- src/sessions.rt:21:1
pub returns-in-Ok : goal.returns-in-Ok
returns-in-Ok c = kept c.args.number c.args.held c.args.sessions.now c.insert.new.self c.in-Ok.ensures.updates.0
