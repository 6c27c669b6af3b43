use Rattle.session_engine.proofs.Found.{commits_made}
use Rattle.session_engine.proofs.executing.on_preparing.Goals as goal
use Rattle.session_engine.specs.Standing.{stage_talk}
use Rattle.session_talk.specs.Logins.{commands_left}

pub returns-in-Prepared : goal.returns-in-Prepared
unfolding stage_talk
returns-in-Prepared c =
    commits_made c.commit.result (commands_left c.args.opened.left) c.args.again c.args.opened c.args.look.value c.args.statement.value
    c.args.salt c.args.input c.in-Prepared.prepared c.in-Prepared.is c.requires c.commit.ensures
