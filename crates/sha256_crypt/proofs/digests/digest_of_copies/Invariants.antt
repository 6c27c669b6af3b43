use Rattle.sha2.specs.Hashers.{Holds256}
use Rattle.sha256_crypt.specs.Crypt.{copies}
use Rattle.sha256_crypt.proofs.digests.digest_of_copies.Given as goal

abbrev pub invariant-loop-i : goal.invariant-loop-i
invariant-loop-i l = Holds256 l.hasher (copies l.i l.text)
