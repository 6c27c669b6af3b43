use Rattle.std.proofs.Common.{rules}
use Rattle.packet_frame.proofs.Standing.{progress-reading}
use Rattle.packet_frame.proofs.Steps.{ready-whole, whole-ready}
use Rattle.packet_frame.proofs.progress.Progress.is_ready.Goals as goal

pub returns-in-Ready-clause-whole : goal.returns-in-Ready-clause-whole
returns-in-Ready-clause-whole c = (λ _. ready-whole c.args.self.now c.requires c.in-Ready.is, λ _. search rules)

pub returns-in_default-clause-whole : goal.returns-in_default-clause-whole
returns-in_default-clause-whole c = (λ h. cc, λ whole. absurd (c.in_default.not-Ready (whole-ready c.args.self.now c.requires whole)))

pub returns-in-Ready-clause-reading : goal.returns-in-Ready-clause-reading
returns-in-Ready-clause-reading c = progress-reading c.args.self.now c.requires

pub returns-in_default-clause-reading : goal.returns-in_default-clause-reading
returns-in_default-clause-reading c = progress-reading c.args.self.now c.requires
