-- The bytes of a connection, where its link tells them, and what a read and a write do to them; and the paths that
-- were dialled.
use Rattle.std.specs.Prelude.{◌≡◌, ℕ, ◌≤◌, List, [], ◌∷◌, ◌++◌, take, drop, length, Option, option_map, Some, None, Result, Ok, Err}
use Rattle.lg_outside.specs.Traffic.{Traffic}
use Rattle.lg_outside.specs.declared.streams.Failed.{Failed}

-- the bytes before and after a read, its answer, and the buffer after it: the next bytes come in their order,
-- none only at the end, and a failed read takes nothing; what was written stays
abbrev pub Receives : Option Traffic → Option Traffic → Result ℕ Failed → List ℕ → Type 0
Receives None after answer buffer = after ≡ None
Receives (Some t) after (Ok count) buffer =
    (after ≡ Some (record { read = t.read ++ take count t.left; left = drop count t.left; written = t.written }))
    × (take count buffer ≡ take count t.left) × (count ≤ length t.left) × (count ≡ 0 → t.left ≡ [])
Receives (Some t) after (Err _) buffer = after ≡ Some t

-- the bytes before and after a write of these bytes: all are added, or on a failure the first of them; what was
-- read and what is left stay
abbrev pub Sends : Option Traffic → Option Traffic → Result (Unit {0}) Failed → List ℕ → Type 0
Sends None after answer bytes = after ≡ None
Sends (Some t) after (Ok _) bytes = after ≡ Some (record t { written = t.written ++ bytes })
Sends (Some t) after (Err _) bytes = (count : ℕ) × (after ≡ Some (record t { written = t.written ++ take count bytes }))

-- the paths that were dialled, with this one more
abbrev pub dialled_also : List ℕ → Option (List (List ℕ)) → Option (List (List ℕ))
dialled_also path dialled = option_map (λ paths. paths ++ path ∷ []) dialled

-- the paths that were dialled before and after a dial of this path: only one that succeeds adds it
abbrev pub Dials : Option (List (List ℕ)) → Option (List (List ℕ)) → Result (Unit {0}) Failed → List ℕ → Type 0
Dials before after (Ok _) path = after ≡ dialled_also path before
Dials before after (Err _) path = after ≡ before
