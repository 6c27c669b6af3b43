use Rattle.std.proofs.Common.{ℕ, ◌*◌, ◌%◌, ◌<◌, length, get_or, refl, ◌∙◌, arith}
use Rattle.std.proofs.lemmas.List.{take_more, take_more_set, length-replicate, length-set}
use Rattle.sha256_crypt.specs.Crypt.{copies}
use Rattle.sha256_crypt.proofs.Copies.{length-copies, get_or-copies}
use Rattle.sha256_crypt.proofs.digests.stretched.Goals as goal

pub loop-i-preserved : goal.loop-i-preserved
loop-i-preserved g c =
    let i = c.loop-i.i in
    let bytes = c.loop-i.bytes in
    let digest = c.args.digest.now in
    let byte : ℕ = get_or digest (i % 32) 0 in
    let room : i < length bytes = omega (arith, length-replicate {A = ℕ} g.row.N 0) in
    let within : i < c.args.size * 32 = omega arith in
    let repeated : i < length (copies c.args.size digest) =
    omega (arith, length-copies c.args.size digest c.told-digest) in
    record {
      filled =
          rw (
            take_more_set bytes i byte room,
            take_more (copies c.args.size digest) i 0 repeated,
            get_or-copies c.args.size digest i c.told-digest within,
            c.loop-i.invariant.filled,
          ) refl;
      length_kept = length-set bytes i byte ∙ c.loop-i.invariant.length_kept;
    }
