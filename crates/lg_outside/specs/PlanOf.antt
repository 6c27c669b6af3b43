-- The plan of a form in memory: the numbers of the calls that are to fail, the calls made, the faults.
use Rattle.std.specs.Prelude.{ℕ, List}

pub record Plan : Type 0 where
  pub failing : List ℕ
  pub calls : ℕ
  pub faults : ℕ
