-- A text cut at its first separator.
use Rattle.std.proofs.Common.{◌≡◌, ℕ, ◌+◌, Bool, true, false, cond, List, [], ◌∷◌, length, take, drop, Option, Some, None, refl, sym, ap, ◌∙◌, arith, eqb}
use Rattle.std.specs.List.{join_with_byte, position, position_from, position_or_len, slice_split, onto_first}
use Rattle.std.proofs.lemmas.List.Splits.{join_with_byte-slice_split, slice_split-cons_no, slice_split_first}
use Rattle.std.proofs.lemmas.Iterator.Adapters.{position_from-zero}
use Rattle.std.specs.Prelude.{nat_lt}
use borrow.Author.Tests.{ltb-true}
use Rattle.script_text.specs.Words.{all_text, is_none_left, pair, parts_behind, single, with_text}

none-from : (p : ℕ → Bool) (i : ℕ) (xs : List ℕ) → position_from p i xs ≡ None → slice_split p xs ≡ xs ∷ []
none-from p i [] h = refl
none-from p i (x ∷ xs) h =
    let by : (b : Bool) → p x ≡ b → cond b (Some i) (position_from p (i + 1) xs) ≡ None → slice_split p (x ∷ xs) ≡ (x ∷ xs) ∷ [] =
    λ b. elim b as (λ b. p x ≡ b → cond b (Some i) (position_from p (i + 1) xs) ≡ None → slice_split p (x ∷ xs) ≡ (x ∷ xs) ∷ []) [
      | true ↦ λ e k. cc
      | false ↦ λ e k. slice_split-cons_no p x xs e ∙ ap (λ parts. onto_first x parts) (none-from p (i + 1) xs k)
    ] in
    by (p x) refl h

-- without a separator the text is the one part
pub uncut : (p : ℕ → Bool) (xs : List ℕ) → position p xs ≡ None → slice_split p xs ≡ xs ∷ []
uncut p xs h = none-from p 0 xs (sym (position_from-zero p xs) ∙ h)

-- the first part ends at the first separator
pub cut_at : (p : ℕ → Bool) (xs : List ℕ) (at : ℕ) → position p xs ≡ Some at → slice_split p xs ≡ take at xs ∷ slice_split p (drop (at + 1) xs)
cut_at p xs at h =
    let by : (b : Bool) → nat_lt (position_or_len p xs) (length xs) ≡ b → cond b (Some (position_or_len p xs)) None ≡ Some at
    → slice_split p xs ≡ take at xs ∷ slice_split p (drop (at + 1) xs) =
    λ b. elim b as (λ b. nat_lt (position_or_len p xs) (length xs) ≡ b → cond b (Some (position_or_len p xs)) None ≡ Some at
    → slice_split p xs ≡ take at xs ∷ slice_split p (drop (at + 1) xs)) [
      | true ↦ λ e k.
          let same : position_or_len p xs ≡ at = cc in
          slice_split_first p xs 0 (omega (arith, ltb-true _ _ e)) ∙ ap (λ (n : ℕ). take n xs ∷ slice_split p (drop (n + 1) xs)) same
      | false ↦ λ e k. cc
    ] in
    by (nat_lt (position_or_len p xs) (length xs)) refl h

-- a text has a part
pub parted : (p : ℕ → Bool) (xs : List ℕ) → (first : List ℕ) × (rest : List (List ℕ)) × (slice_split p xs ≡ first ∷ rest)
parted p [] = ([], [], refl)
parted p (x ∷ xs) =
    let by : (b : Bool) (parts : List (List ℕ)) → (first : List ℕ) × (rest : List (List ℕ)) × (cond b ([] ∷ parts) (onto_first x parts) ≡ first ∷ rest) =
    λ b parts. elim b as (λ b. (first : List ℕ) × (rest : List (List ℕ)) × (cond b ([] ∷ parts) (onto_first x parts) ≡ first ∷ rest)) [
      | true ↦ ([], parts, refl)
      | false ↦ elim parts as (λ parts. (first : List ℕ) × (rest : List (List ℕ)) × (onto_first x parts ≡ first ∷ rest))
          [ [] ↦ (x ∷ [], [], refl) | part ∷ more ↦ (x ∷ part, more, refl) ]
    ] in
    by (p x) (slice_split p xs)

-- a word with more behind it isn't the only one
pub not_single : (p : ℕ → Bool) (word xs : List ℕ) → single (word ∷ slice_split p xs) ≡ None
not_single p word xs =
    let more = parted p xs in
    ap (λ (parts : List (List ℕ)). single (word ∷ parts)) more.2

-- two words with more behind them aren't the only ones
pub not_pair : (p : ℕ → Bool) (first second xs : List ℕ) → pair (first ∷ second ∷ slice_split p xs) ≡ None
not_pair p first second xs =
    let more = parted p xs in
    ap (λ (parts : List (List ℕ)). pair (first ∷ second ∷ parts)) more.2

-- a word and the text behind its space
pub worded : (words : List (List ℕ)) (word text : List ℕ) → words ≡ word ∷ slice_split (λ b. eqb b 32) text → Some (word, text) ≡ with_text words
worded words word text split =
    let more = parted (λ b. eqb b 32) text in
    ap (λ (text : List ℕ). Some (word, text))
    (sym (join_with_byte-slice_split 32 text) ∙ ap (λ (parts : List (List ℕ)). join_with_byte 32 parts) more.2)
    ∙ ap (λ (parts : List (List ℕ)). with_text (word ∷ parts)) (sym more.2) ∙ ap (λ (parts : List (List ℕ)). with_text parts) (sym split)

-- the text behind a space
pub texted : (text : Option (List ℕ)) → text ≡ all_text (parts_behind 32 text)
texted None = refl
texted (Some text) =
    let more = parted (λ b. eqb b 32) text in
    ap (λ (text : List ℕ). Some text)
    (sym (join_with_byte-slice_split 32 text) ∙ ap (λ (parts : List (List ℕ)). join_with_byte 32 parts) more.2)
    ∙ ap (λ (parts : List (List ℕ)). all_text parts) (sym more.2)

-- behind a separator there is a word
pub not_none_left : (p : ℕ → Bool) (xs : List ℕ) → is_none_left (slice_split p xs) ≡ false
not_none_left p xs =
    let more = parted p xs in
    ap (λ (parts : List (List ℕ)). is_none_left parts) more.2
