use Rattle.std.proofs.Common.{◌≡◌, ℕ, ◌<◌, length, get_or, refl, sym, ◌∙◌, arith}
use Rattle.std.specs.Prelude.{bit_xor}
use Rattle.std.proofs.lemmas.List.{take_more, take_more_set, length-set, take_all}
use Rattle.caching_sha2.specs.Fast.{xor_bytes}
use Rattle.caching_sha2.proofs.FastLaws.{length-xor_bytes, get_or-xor_bytes}
use Rattle.caching_sha2.proofs.fast.xor_bytes.Goals as goal

pub loop-i-preserved : goal.loop-i-preserved
loop-i-preserved c =
    let i = c.loop-i.i in
    let both = c.loop-i.both in
    let left = c.args.left.now in
    let right = c.args.right.now in
    let byte : ℕ = bit_xor (get_or left i 0) (get_or right i 0) in
    let room : i < length both = omega arith in
    let in_left : i < length left = omega arith in
    let in_right : i < length right = omega arith in
    let in_xor : i < length (xor_bytes left right) = omega (arith, length-xor_bytes left right (c.told-left ∙ sym c.told-right)) in
    record {
      filled =
          rw (take_more_set both i byte room, take_more (xor_bytes left right) i 0 in_xor, get_or-xor_bytes left right i in_left in_right, c.loop-i.invariant.filled) refl;
      length_kept = length-set both i byte ∙ c.loop-i.invariant.length_kept;
    }

pub returns : goal.returns
returns c =
    let both = c.loop-i.both in
    let left = c.args.left.now in
    let right = c.args.right.now in
    let long : length (xor_bytes left right) ≡ 32 = length-xor_bytes left right (c.told-left ∙ sym c.told-right) ∙ c.told-left in
    sym (take_all c.loop-i.i both (omega arith)) ∙ c.loop-i.invariant.filled ∙ take_all c.loop-i.i (xor_bytes left right) (omega arith)
