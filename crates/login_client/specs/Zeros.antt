-- Texts that a byte 00 can end.
use Rattle.std.specs.Prelude.{ℕ, List, Contains}

abbrev pub HasNoZero : List ℕ → Type 0
HasNoZero text = ¬ Contains text 0
