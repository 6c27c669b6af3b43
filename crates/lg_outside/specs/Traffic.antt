-- What a link that tells its bytes tells of them.
use Rattle.std.specs.Prelude.{ℕ, List, ◌++◌, Option, None}

-- what was read of the bytes that the link came with, those that are left, and what was written to it
pub record Traffic : Type 0 where
  pub read : List ℕ
  pub left : List ℕ
  pub written : List ℕ

-- the whole list that the link came with
abbrev pub came : Traffic → List ℕ
came t = t.read ++ t.left

-- a link that tells nothing of its bytes
abbrev pub untold : Option Traffic
untold = None

-- a link that tells nothing of what was dialled
abbrev pub untold_paths : Option (List (List ℕ))
untold_paths = None
