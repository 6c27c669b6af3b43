use Rattle.sha256_crypt.proofs.Copies.{copies-zero, copies-more}
use Rattle.sha256_crypt.proofs.digests.digest_of_copies.Goals as goal

pub loop-i-init : goal.loop-i-init
loop-i-init c = rw (copies-zero c.args.text.now) c.new-hasher.ensures

pub loop-i-preserved : goal.loop-i-preserved
loop-i-preserved c =
    rw (copies-more c.loop-i.i c.args.text.now) (c.update.ensures _ c.loop-i.invariant)
