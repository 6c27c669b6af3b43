-- What a read takes from a stream of bytes and what a write adds to one, where the stream tells its bytes.
use Rattle.std.specs.Prelude.{◌≡◌, ℕ, ◌≤◌, List, [], ◌++◌, take, drop, length, Option, Some, None, Result, Ok, Err}
use Rattle.std.specs.Io.KnownBytes.{Appends}
use Rattle.lg_outside.specs.declared.streams.Failed.{Failed}

-- the bytes left before and after a read, its answer, and the buffer after it: the next bytes come in
-- their order, none only at the end, and a failed read takes nothing
abbrev pub Gives : Option (List ℕ) → Option (List ℕ) → Result ℕ Failed → List ℕ → Type 0
Gives None after answer buffer = after ≡ None
Gives (Some left) after (Ok count) buffer =
    (after ≡ Some (drop count left)) × (take count buffer ≡ take count left) × (count ≤ length left) × (count ≡ 0 → left ≡ [])
Gives (Some left) after (Err _) buffer = after ≡ Some left

-- the bytes written before and after a write of these bytes: all are added, or on a failure the first of them
abbrev pub Adds : Option (List ℕ) → Option (List ℕ) → Result (Unit {0}) Failed → List ℕ → Type 0
Adds None after answer bytes = after ≡ None
Adds (Some written) after (Ok _) bytes = after ≡ Some (written ++ bytes)
Adds (Some written) after (Err _) bytes = (count : ℕ) × (after ≡ Some (written ++ take count bytes))

-- the same of a writer of the standard library, as far as it tells what it holds
abbrev pub AddsTo : Option (List ℕ) → Option (List ℕ) → Result (Unit {0}) Failed → List ℕ → Type 0
AddsTo before after (Ok _) bytes = Appends before after bytes
AddsTo before after (Err _) bytes = (count : ℕ) × Appends before after (take count bytes)
