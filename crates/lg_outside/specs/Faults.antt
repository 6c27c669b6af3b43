-- Calls of the outside that fail, and the counts that tell of it.
use Rattle.std.specs.Prelude.{ℕ, ◌+◌, ◌-◌, ◌^◌, ◌≤◌, min}

-- the number after n, but a count stands still at its type's end
abbrev pub counted : ℕ → ℕ
counted n = min (n + 1) (2 ^ 64 - 1)

-- a count that rose in a call, or stands at its type's end
abbrev pub Rose : ℕ → ℕ → Type 0
Rose before after = counted before ≤ after
