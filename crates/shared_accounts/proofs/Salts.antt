-- Dots are a salt.
use Rattle.std.proofs.Common.{ℕ, zero, suc, replicate, All, inl, arith}
use Rattle.std.specs.List.{AllByRecursion}
use Rattle.std.proofs.lemmas.List.Elements.{All-from_recursion}
use Rattle.sha256_crypt.specs.Alphabet.{IsSaltByte}

dot : IsSaltByte 46
unfolding IsSaltByte
dot = inl (omega arith, omega arith)

dots : (n : ℕ) → AllByRecursion IsSaltByte (replicate n 46)
dots zero = tt
dots (suc n) = (dot, dots n)

pub dots-are-salt : All IsSaltByte (replicate 20 46)
dots-are-salt = All-from_recursion IsSaltByte (replicate 20 46) (dots 20)
