-- The parts of a text: what stands in it somewhere, without a gap.
use Rattle.std.specs.Prelude.{◌≡◌, List, [], ◌∷◌, ◌++◌, ℕ, Bool, nat_eq}
use Rattle.std.specs.List.{list_any, starts_with}

-- a text is something, the word, and something again
abbrev pub IsPart : List ℕ → List ℕ → Type 0
IsPart word text = (before : List ℕ) × (after : List ℕ) × (text ≡ before ++ (word ++ after))

-- a text without its first bytes, for each number of them: the whole first, nothing last
abbrev pub tails : List ℕ → List (List ℕ)
tails [] = [] ∷ []
tails (b ∷ text) = (b ∷ text) ∷ tails text

-- the same as a test: the word begins one of the tails
abbrev pub has_part : List ℕ → List ℕ → Bool
has_part word text = list_any (λ tail. starts_with nat_eq tail word) (tails text)
