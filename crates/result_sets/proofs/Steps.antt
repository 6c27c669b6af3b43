-- One item more of a list that a loop goes through.
use Rattle.std.proofs.Common.{◌≡◌, ℕ, suc, ◌+◌, ◌<◌, List, [], ◌∷◌, ◌++◌, length, take, drop, take-append-drop, map, get_or, All, refl, sym, ap, ◌∙◌, subst, append_assoc, append-nil, arith}
use Rattle.std.proofs.lemmas.List.Elements.{All-push}
use Rattle.std.proofs.Math.Seq.{take-suc}
use Rattle.std.specs.List.{flat_map}

module _ {A : Type 0} (xs : List A) (i : ℕ) (x : A) (h : i < length xs) (is : x ≡ get_or xs i x) where
  pub one_taken : take (i + 1) xs ≡ take i xs ++ x ∷ []
  one_taken =
      let next : i + 1 ≡ suc i = omega arith in
      ap (λ (n : ℕ). take n xs) next ∙ take-suc xs i x h ∙ ap (λ (y : A). take i xs ++ y ∷ []) (sym is)

  pub all_step : (P : A → Type 0) → All P (take i xs) → P x → All P (take (i + 1) xs)
  all_step P so_far p = subst (λ (ys : List A). All P ys) (sym one_taken) (All-push P (take i xs) x so_far p)

  pub map_step : (f : A → List ℕ) (start before after : List (List ℕ)) → before ≡ start ++ map f (take i xs) → after ≡ before ++ f x ∷ [] →
      after ≡ start ++ map f (take (i + 1) xs)
  map_step f start before after so_far more =
      more ∙ ap (λ (w : List (List ℕ)). w ++ f x ∷ []) so_far ∙ append_assoc start (map f (take i xs)) (f x ∷ [])
      ∙ ap (λ (w : List (List ℕ)). start ++ w) (sym (mapped (take i xs)) ∙ ap (λ (ys : List A). map f ys) (sym one_taken))
    where
      mapped : (ys : List A) → map f (ys ++ x ∷ []) ≡ map f ys ++ f x ∷ []
      mapped [] = refl
      mapped (y ∷ ys) = ap (λ (w : List (List ℕ)). f y ∷ w) (mapped ys)

  pub flat_step : (f : A → List ℕ) (before after : List ℕ) → before ≡ flat_map f (take i xs) → after ≡ before ++ f x → after ≡ flat_map f (take (i + 1) xs)
  flat_step f before after so_far more =
      more ∙ ap (λ (w : List ℕ). w ++ f x) so_far ∙ sym (joined (take i xs)) ∙ ap (λ (ys : List A). flat_map f ys) (sym one_taken)
    where
      joined : (ys : List A) → flat_map f (ys ++ x ∷ []) ≡ flat_map f ys ++ f x
      joined [] = append-nil (f x)
      joined (y ∷ ys) = ap (λ (w : List ℕ). f y ++ w) (joined ys) ∙ sym (append_assoc (f y) (flat_map f ys) (f x))

  pub parted_at : xs ≡ take i xs ++ x ∷ drop (i + 1) xs
  parted_at = sym (take-append-drop (i + 1) xs) ∙ ap (λ (ys : List A). ys ++ drop (i + 1) xs) one_taken ∙ append_assoc (take i xs) (x ∷ []) (drop (i + 1) xs)
