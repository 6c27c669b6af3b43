-- The numbers that are drawn for a large run: a linear congruence from the number of the run.
use Rattle.std.specs.Prelude.{ℕ, zero, suc, ◌+◌, ◌*◌, ◌/◌, ◌%◌}

-- the state behind a draw
abbrev pub next_state : ℕ → ℕ
next_state state = (state * 1103515245 + 12345) % 2147483648

-- the state behind so many draws
unfoldable pub state_behind : (draws : ℕ) → (number : ℕ) → ℕ
state_behind zero number = number % 2147483648
state_behind (suc draws) number = next_state (state_behind draws number)

-- the number that a draw gives, by the state behind it
abbrev pub drawn_at : (state : ℕ) → ℕ
drawn_at state = state / 65536
