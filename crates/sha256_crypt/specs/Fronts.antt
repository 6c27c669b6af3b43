-- What odd rounds hash before the digest, and the hashers that hold it.
use Rattle.std.specs.Prelude.{ℕ, ◌%◌, ◌==◌, if◌then◌else◌, List, [], ◌++◌}
use Rattle.sha2.specs.Hashers.{Holds256}
use Rattle.sha256_crypt.specs.declared.rounds.OddFronts.{OddFronts}

-- the front of round i, from the byte sequences P and S (21 b, d, e)
abbrev pub odd_front : ℕ → List ℕ → List ℕ → List ℕ
odd_front i p s = p ++ (if i % 3 == 0 then [] else s) ++ (if i % 7 == 0 then [] else p)

-- the hashers hold the four fronts
pub record HoldFronts (fronts : OddFronts) (p s : List ℕ) : Type 0 where
  pub password : Holds256 fronts.password p
  pub with_salt : Holds256 fronts.with_salt (p ++ s)
  pub with_password : Holds256 fronts.with_password (p ++ p)
  pub with_both : Holds256 fronts.with_both (p ++ s ++ p)
