use Rattle.packet_frame.proofs.Steps.{begun-piece}
use Rattle.packet_frame.proofs.progress.Progress.begin_piece.Goals as goal

pub returns : goal.returns
returns c =
    let r = c.requires in
    let step = begun-piece c.args.self.now c.args.header c.args.size c.args.id c.first_of-first.result c.stage_of-stage.result
    r.sound r.stage r.in_place r.is r.in_range r.wanted r.fits
    c.first_of-first.ensures.none c.first_of-first.ensures.some c.stage_of-stage.ensures.none c.stage_of-stage.ensures.some in
    record { sound = step.sound; taken = step.taken; no_fault = step.no_fault }
