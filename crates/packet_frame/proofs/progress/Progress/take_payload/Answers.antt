use Rattle.std.proofs.Common.{◌∙◌, ◌-◌, ◌+◌, ◌*◌, ◌<◌, length, arith}
use Rattle.packet_frame.specs.Packets.{full_size}
use Rattle.packet_frame.proofs.Steps.{payload-taken}
use Rattle.packet_frame.proofs.progress.Progress.take_payload.Goals as goal

pub end_piece-requires-clause-begun : goal.end_piece-requires-clause-begun
end_piece-requires-clause-begun c =
    let p = c.args.self.now in
    let taken = payload-taken p c.args.size c.args.piece.now c.min-count.result c.extend_from_slice.new.self c.requires.sound c.requires.stage
    (omega arith) c.in_ok-extend_from_slice.ensures.items c.requires.in_place in
    taken.ends (omega arith)

pub returns-then-count-missing-clause-ok : goal.returns-then-count-missing-clause-ok
returns-then-count-missing-clause-ok c =
    let p = c.args.self.now in
    let taken = payload-taken p c.args.size c.args.piece.now c.min-count.result c.extend_from_slice.new.self c.requires.sound c.requires.stage
    (omega arith) c.in_ok-extend_from_slice.ensures.items c.requires.in_place in
    record { grown = c.end_piece.ensures.same ∙ taken.grown; counted = taken.counted; sound = c.end_piece.ensures.no_fault }

pub returns-else-count-missing : goal.returns-else-count-missing
returns-else-count-missing c =
    let p = c.args.self.now in
    let taken = payload-taken p c.args.size c.args.piece.now c.min-count.result c.extend_from_slice.new.self c.requires.sound c.requires.stage
    (omega arith) c.in_ok-extend_from_slice.ensures.items c.requires.in_place in
    let less : c.min-count.result < p.full * full_size + c.args.size - length p.payload.items = omega arith in
    record { sound = taken.sound less; ok = record { grown = taken.grown; counted = taken.counted; sound = taken.no_fault less }; err = tt }
