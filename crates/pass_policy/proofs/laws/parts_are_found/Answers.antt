use Rattle.std.proofs.Common.{◌≡◌, ℕ, List, true, sym, subst}
use Rattle.pass_policy.proofs.Finding.{IsPart-found, has_part-true}
use Rattle.pass_policy.proofs.laws.parts_are_found.Goals as goal
use Rattle.pass_policy.specs.Parts.{IsPart, has_part}

found : (word text : List ℕ) → IsPart word text → has_part word text ≡ true
found word text part =
    let P : List ℕ → Type 0 = λ xs. has_part word xs ≡ true in
    subst P (sym part.2) (has_part-true word part.0 part.1)

pub returns : goal.returns
returns c word text = (IsPart-found word text, found word text)
