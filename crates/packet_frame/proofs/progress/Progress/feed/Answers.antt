use Rattle.std.proofs.Common.{refl}
use Rattle.packet_frame.proofs.Steps.{ready-waits, feed-failed, fault-stage}
use Rattle.packet_frame.proofs.progress.Progress.feed.Goals as goal

pub returns-in-Header-clause-again : goal.returns-in-Header-clause-again
returns-in-Header-clause-again c fault shown = let failed = fault-stage c.args.self.now c.requires.sound fault shown in absurd (cc c.in-Header.is)

pub returns-in-Payload-clause-again : goal.returns-in-Payload-clause-again
returns-in-Payload-clause-again c fault shown = let failed = fault-stage c.args.self.now c.requires.sound fault shown in absurd (cc c.in-Payload.is)

pub returns-in-Ready-clause-ok : goal.returns-in-Ready-clause-ok
returns-in-Ready-clause-ok c = ready-waits c.args.self.now c.args.piece.now c.requires.sound c.in-Ready.is

pub returns-in-Ready-clause-again : goal.returns-in-Ready-clause-again
returns-in-Ready-clause-again c fault shown = let failed = fault-stage c.args.self.now c.requires.sound fault shown in absurd (cc c.in-Ready.is)

pub returns-in-Failed-clause-err : goal.returns-in-Failed-clause-err
returns-in-Failed-clause-err c = feed-failed c.args.self.now c.args.piece.now c.in-Failed.fault c.requires.sound c.in-Failed.is

pub returns-in-Failed-clause-again : goal.returns-in-Failed-clause-again
returns-in-Failed-clause-again c fault shown = let failed = fault-stage c.args.self.now c.requires.sound fault shown in (cc c.in-Failed.is, refl)
