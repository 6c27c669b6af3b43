-- Bytes that are given piece by piece.
use Rattle.std.proofs.Common.{◌≡◌, ℕ, ◌+◌, List, ◌++◌, take, drop, sym, ap, ◌∙◌}
use Rattle.std.proofs.Math.Seq.{take-add}
use Rattle.std.proofs.lemmas.List.{drop-drop}
use Rattle.lg_outside.specs.MemoryParts.{Parted}

abbrev parted : List ℕ → ℕ → Parted
parted bytes given = record { given = take given bytes; left = drop given bytes }

-- so many more bytes were given
pub given-more : (bytes : List ℕ) (given count : ℕ) (before : Parted) → before ≡ parted bytes given
    → parted bytes (given + count) ≡ record { given = before.given ++ take count before.left; left = drop count before.left }
given-more bytes given count before is =
    let more = λ (p : Parted). let q : Parted = record { given = p.given ++ take count p.left; left = drop count p.left } in q in
    ap (λ (l : List ℕ). let q : Parted = record { given = l; left = drop (given + count) bytes } in q) (take-add given count bytes)
    ∙ ap (λ (l : List ℕ). let q : Parted = record { given = take given bytes ++ take count (drop given bytes); left = l } in q) (sym (drop-drop count given bytes))
    ∙ ap more (sym is)
