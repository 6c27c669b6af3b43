use Rattle.std.proofs.Common.{◌≡◌}
use Rattle.sha256_crypt.specs.Crypt.{after_rounds}
use Rattle.sha256_crypt.proofs.rounds.after_rounds.Given as goal

abbrev pub invariant-loop-i : goal.invariant-loop-i
invariant-loop-i l = l.digest ≡ after_rounds l.fn.start l.password l.salt l.i
