use Rattle.packet_frame.proofs.Steps.{expects}
use Rattle.packet_frame.proofs.progress.Progress.expect.Goals as goal

pub returns-then-not-is_ready-clause-wanted : goal.returns-then-not-is_ready-clause-wanted
returns-then-not-is_ready-clause-wanted c =
    let p = c.args.self.now in
    expects p c.args.want c.requires.sound p.stage c.requires.sound.stands (λ whole. let ready = c.is_ready.ensures.whole.1 whole in cc) c.requires.between
