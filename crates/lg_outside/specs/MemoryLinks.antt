-- A link in memory: its bytes, the room for what is written, where its peer is, the paths that were dialled, whether
-- it was ended, and the plan of its failures.
use Rattle.std.specs.Prelude.{ℕ, List, Bool}
use Rattle.lg_outside.specs.PlanOf.{Plan}
use Rattle.lg_outside.specs.Traffic.{Traffic}

pub record Wire : Type 0 where
  pub read : List ℕ
  pub left : List ℕ
  pub written : List ℕ
  pub room : ℕ
  pub local : Bool
  pub dialled : List (List ℕ)
  pub finished : Bool
  pub plan : Plan

-- what it tells of its bytes
abbrev pub traffic : Wire → Traffic
traffic w = record { read = w.read; left = w.left; written = w.written }
