use Rattle.std.proofs.Common.{sym, arith}
use Rattle.packet_frame.proofs.Standing.{progress-reading}
use Rattle.packet_frame.proofs.Steps.{missing-header, missing-payload, missing-ready, missing-failed}
use Rattle.packet_frame.proofs.progress.Progress.missing.Goals as goal

pub returns-in-Header-clause-value : goal.returns-in-Header-clause-value
returns-in-Header-clause-value c = sym (missing-header c.args.self.now c.requires c.in-Header.is)

pub returns-in-Header-clause-reading : goal.returns-in-Header-clause-reading
returns-in-Header-clause-reading c = progress-reading c.args.self.now c.requires

pub returns-in-Payload-clause-value : goal.returns-in-Payload-clause-value
returns-in-Payload-clause-value c = omega (arith, missing-payload c.args.self.now c.in-Payload.size c.requires c.in-Payload.is, c.len.ensures)

pub returns-in-Payload-clause-reading : goal.returns-in-Payload-clause-reading
returns-in-Payload-clause-reading c = progress-reading c.args.self.now c.requires

pub returns-in-Ready-clause-value : goal.returns-in-Ready-clause-value
returns-in-Ready-clause-value c = sym (missing-ready c.args.self.now c.requires c.in-Ready.is)

pub returns-in-Ready-clause-reading : goal.returns-in-Ready-clause-reading
returns-in-Ready-clause-reading c = progress-reading c.args.self.now c.requires

pub returns-in-Failed-clause-value : goal.returns-in-Failed-clause-value
returns-in-Failed-clause-value c = sym (missing-failed c.args.self.now c.in-Failed.field-0 c.requires c.in-Failed.is)

pub returns-in-Failed-clause-reading : goal.returns-in-Failed-clause-reading
returns-in-Failed-clause-reading c = progress-reading c.args.self.now c.requires
