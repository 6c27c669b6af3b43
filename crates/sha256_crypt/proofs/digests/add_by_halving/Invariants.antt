use Rattle.std.proofs.Common.{◌≡◌, ℕ, ◌≤◌, List, ◌++◌}
use Rattle.sha2.specs.Hashers.{Holds256}
use Rattle.sha256_crypt.specs.Crypt.{by_halving}
use Rattle.sha256_crypt.proofs.digests.add_by_halving.Given as goal

abbrev pub invariant-loop-rest : goal.invariant-loop-rest
invariant-loop-rest l =
    (m : List ℕ) → Holds256 l.initial.hasher m
    → (fed : List ℕ) × (count : ℕ) × (l.rest ≤ count)
    × Holds256 l.hasher (m ++ fed)
    × (fed ++ by_halving count l.odd l.even l.rest ≡ by_halving l.number l.odd l.even l.number)

abbrev pub decreases-loop-rest : goal.decreases-loop-rest
decreases-loop-rest l = l.rest
