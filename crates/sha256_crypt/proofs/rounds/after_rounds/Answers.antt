use Rattle.std.proofs.Common.{refl, add-one}
use Rattle.sha256_crypt.specs.Crypt.{after_rounds}
use Rattle.sha256_crypt.proofs.rounds.after_rounds.Goals as goal

pub loop-i-init : goal.loop-i-init
unfolding after_rounds
loop-i-init c = refl

pub loop-i-preserved : goal.loop-i-preserved
unfolding after_rounds
loop-i-preserved c = rw (add-one, ← c.loop-i.invariant) c.round-digest.ensures
