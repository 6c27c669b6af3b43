-- The test of the parts against the relation.
use Rattle.std.proofs.Common.{◌≡◌, ℕ, List, [], ◌∷◌, ◌++◌, Bool, true, false, refl, ap, ◌⊎◌, inl, inr, drop, length}
use Rattle.std.proofs.lemmas.Bool.Decides.{Decides-eqb}
use Rattle.std.proofs.lemmas.Slice.Eq.{starts_is}
use Rattle.std.specs.List.{starts_with}
use Rattle.std.specs.Prelude.{nat_eq, ◌||◌}
use Rattle.pass_policy.specs.Parts.{IsPart, has_part}

or_true : (x : Bool) → (x || true) ≡ true
or_true true = refl
or_true false = refl

or_cases : (x y : Bool) → (x || y) ≡ true → (x ≡ true) ⊎ (y ≡ true)
or_cases true y h = inl refl
or_cases false y h = inr h

-- a text that the word begins has it
begins_with : (word text : List ℕ) → starts_with nat_eq text word ≡ true → has_part word text ≡ true
begins_with word [] h = rw h refl
begins_with word (b ∷ text) h = rw h refl

-- each part is found
pub has_part-true : (word before after : List ℕ) → has_part word (before ++ (word ++ after)) ≡ true
has_part-true word [] after =
    begins_with word (word ++ after)
    ((starts_is Decides-eqb (word ++ after) word (starts_with nat_eq (word ++ after) word) refl).1 after refl)
has_part-true word (b ∷ before) after =
    rw (has_part-true word before after) (or_true (starts_with nat_eq (b ∷ (before ++ (word ++ after))) word))

begins_part : (word text : List ℕ) → starts_with nat_eq text word ≡ true → IsPart word text
begins_part word text h =
    ([], drop (length word) text, (starts_is Decides-eqb text word (starts_with nat_eq text word) refl).0 h)

-- what is found is a part
pub IsPart-found : (word text : List ℕ) → has_part word text ≡ true → IsPart word text
IsPart-found word [] h =
    elim (or_cases (starts_with nat_eq [] word) false h)
    [ inl begins ↦ begins_part word [] begins | inr never ↦ absurd (cc) ]
IsPart-found word (b ∷ text) h =
    elim (or_cases (starts_with nat_eq (b ∷ text) word) (has_part word text) h) [
      | inl begins ↦ begins_part word (b ∷ text) begins
      | inr behind ↦ let part : IsPart word text = IsPart-found word text behind in
          (b ∷ part.0, part.1, ap (λ (xs : List ℕ). b ∷ xs) part.2)
    ]
