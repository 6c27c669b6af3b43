-- A stream in memory: the bytes left of a source or written to a sink, and the plan of its failures.
use Rattle.std.specs.Prelude.{ℕ, List}
use Rattle.lg_outside.specs.PlanOf.{Plan}

pub record Stream : Type 0 where
  pub bytes : List ℕ
  pub plan : Plan

-- a sink has room for so many bytes in all
pub record Store : Type 0 where
  pub bytes : List ℕ
  pub room : ℕ
  pub plan : Plan
