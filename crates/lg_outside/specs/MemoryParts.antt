-- What the streams in memory are made of.
use Rattle.std.specs.Prelude.{ℕ, List}

-- bytes of which the first ones were given
pub record Parted : Type 0 where
  pub given : List ℕ
  pub left : List ℕ

-- room for so many bytes in all, of which these are filled
pub record Filled : Type 0 where
  pub bytes : List ℕ
  pub room : ℕ
