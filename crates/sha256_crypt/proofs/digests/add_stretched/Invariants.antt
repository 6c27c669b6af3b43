use Rattle.std.proofs.Common.{ℕ, List, ◌++◌}
use Rattle.sha2.specs.Hashers.{Holds256}
use Rattle.sha256_crypt.specs.Crypt.{copies}
use Rattle.sha256_crypt.proofs.digests.add_stretched.Given as goal

abbrev pub invariant-loop : goal.invariant-loop
invariant-loop l =
    (m : List ℕ) → Holds256 l.initial.hasher m → Holds256 l.hasher (m ++ copies l.counter l.digest)
