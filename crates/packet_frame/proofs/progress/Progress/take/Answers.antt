use Rattle.std.proofs.Common.{◌≡◌, [], ◌∙◌, ap, arith, rules}
use Rattle.packet_frame.proofs.Steps.{emptied-sound, takes-packet}
use Rattle.packet_frame.proofs.progress.Progress.take.Goals as goal

pub returns-clause-sound : goal.returns-clause-sound
returns-clause-sound c =
    let none : c.replace.new.dest.items ≡ [] = ap (λ v. v.items) c.replace.ensures.after ∙ c.new.ensures.items in
    emptied-sound c.args.self.now c.place-place.result c.replace.new.dest c.requires none (omega (arith, c.requires.in_place, c.place-place.ensures.value))

pub returns-clause-some : goal.returns-clause-some
returns-clause-some c =
    let none : c.replace.new.dest.items ≡ [] = ap (λ v. v.items) c.replace.ensures.after ∙ c.new.ensures.items in
    let all = c.from_vec.ensures ∙ ap (λ v. v.items) c.replace.ensures.value in
    takes-packet c.args.self.now c.from_vec.result c.place-place.result c.replace.new.dest c.requires
    (c.is_ready.ensures.stage (search rules)) all c.place-place.ensures.value none
