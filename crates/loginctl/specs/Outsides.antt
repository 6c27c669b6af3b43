-- What contracts see of the source and of the link that a run is given.
use Rattle.std.specs.Prelude.{ℕ, List, Option}
use Rattle.lg_outside.specs.Traffic.{Traffic}

pub record SourceState : Type 0 where
  pub left : Option (List ℕ)
  pub faults : ℕ

pub record LinkState : Type 0 where
  pub told : Option Traffic
  pub dialled : Option (List (List ℕ))
  pub faults : ℕ
