use Rattle.std.proofs.Common.{◌≡◌, length, sym, ◌∙◌, arith}
use Rattle.std.proofs.lemmas.List.{ext_get_or}
use Rattle.native_scramble.proofs.NativeLaws.{length-xor_bytes, slice_index-xor_bytes}
use Rattle.native_scramble.proofs.xor.Goals as goal

pub returns : goal.returns
returns c =
    let same : length c.args.left.now ≡ length c.args.right.now = omega arith in
    let long = length-xor_bytes _ _ same in
    ext_get_or 0 _ _ (omega (arith, long)) (λ k below.
    c.loop-place.invariant.done k (omega arith)
    ∙ sym (slice_index-xor_bytes _ _ k same (omega arith)))
