use Rattle.std.proofs.Common.{◌≡◌, ◌/◌, append-nil, append_assoc, arith}
use Rattle.sha256_crypt.proofs.Copies.{copies-zero, copies-more, take-copies}
use Rattle.sha256_crypt.proofs.digests.add_stretched.Goals as goal

pub loop-init : goal.loop-init
loop-init c = λ m held. rw (copies-zero c.args.digest.now, append-nil m) held

pub loop-preserved : goal.loop-preserved
loop-preserved c = λ m held.
    rw (copies-more c.loop.counter c.args.digest.now, ← append_assoc)
    (c.update.ensures _ (c.loop.invariant m held))

pub returns : goal.returns
returns c = λ m held.
    let whole : c.loop.counter ≡ c.args.size / 32 = omega arith in
    rw (take-copies c.args.size c.args.digest.now c.told-digest, ← append_assoc, ← whole)
    (c.update-2.ensures _ (c.loop.invariant m held))
