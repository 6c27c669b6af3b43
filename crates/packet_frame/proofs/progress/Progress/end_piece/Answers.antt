use Rattle.std.proofs.Common.{◌<◌, ◌+◌, subst, arith}
use Rattle.packet_frame.specs.Packets.{full_size}
use Rattle.packet_frame.specs.Progress.{IsBetween}
use Rattle.packet_frame.proofs.Steps.{ended-full, ended-short}
use Rattle.packet_frame.proofs.progress.Progress.end_piece.Goals as goal

pub returns-then-size-eq-FULL : goal.returns-then-size-eq-FULL
returns-then-size-eq-FULL c =
    let p = c.args.self.now in
    let step = ended-full p (subst (IsBetween p) (omega arith) c.requires.begun) (p.full + 1) (omega arith) in
    record { sound = step.sound; same = step.same; no_fault = step.no_fault }

pub returns-else-size-eq-FULL : goal.returns-else-size-eq-FULL
returns-else-size-eq-FULL c =
    let p = c.args.self.now in
    let size = c.args.size in
    let begun = c.requires.begun in
    let less : size < full_size = omega (arith, begun.admitted.in_range) in
    let step = ended-short p size begun less in
    record { sound = step.sound; same = step.same; no_fault = step.no_fault }
