use Rattle.std.proofs.Common.{◌≡◌, ◌↔◌, ◌⊎◌, [], IfOk, refl, subst}
use Rattle.std.proofs.lemmas.Result.{IfOk-weaker}
use Rattle.packet_frame.specs.Framing.{front_of, IsWhole}
use Rattle.packet_frame.specs.Progress.{framing}
use Rattle.packet_frame.proofs.Standing.{progress-reading}
use Rattle.packet_frame.proofs.Steps.{takes-nothing}
use Rattle.packet_frame.proofs.frames.Frames.feed.Goals as goal

pub returns-clause-reading : goal.returns-clause-reading
returns-clause-reading c = progress-reading c.feed.new.self c.feed.ensures.sound

pub returns-clause-nothing : goal.returns-clause-nothing
returns-clause-nothing c =
    let p = c.self.inside.progress in
    let piece = c.args.piece.now in
    subst (λ v. IfOk c.feed.result (λ count. (count ≡ 0) ↔ ((piece ≡ []) ⊎ IsWhole (front_of v)))) c.self.view_is
    (IfOk-weaker c.feed.result _ _
    (λ count takes. takes-nothing (framing p) (front_of (framing p)) refl (progress-reading p c.self.invariant) piece count (framing c.feed.new.self) takes)
    c.feed.ensures.ok)
