-- Lists read by place, one list that begins another, and sums.
use Rattle.std.proofs.Common.{◌≡◌, ◌≢◌, ◌⊎◌, ℕ, zero, suc, ◌+◌, ◌<◌, List, [], ◌∷◌, ◌++◌, map, length, drop, set, refl, sym, ap, ◌∙◌, inl, inr, ⊎_elim, arith}
use mathlib.Core.Option.{some, some-injective, some-ne-none}
use lib.ListN.{get_elem?}
use Rattle.turn_book.specs.Rule.{total}

module _ {A : Type 0} where
  abbrev pub head_or : A → List A → A
  head_or d [] = d
  head_or d (x ∷ xs) = x

  abbrev pub tail_of : List A → List A
  tail_of [] = []
  tail_of (x ∷ xs) = xs

  pub at_same : (l : List A) (i : ℕ) (a b : A) → get_elem? l i ≡ some a → get_elem? l i ≡ some b → a ≡ b
  at_same l i a b e f = some-injective a b (sym e ∙ f)

  pub at_here : (l : List A) (i : ℕ) (a w : A) → get_elem? l i ≡ some a → get_elem? (set l i w) i ≡ some w
  at_here [] i a w e = absurd (some-ne-none a (sym e))
  at_here (x ∷ xs) zero a w e = refl
  at_here (x ∷ xs) (suc i) a w e = at_here xs i a w e

  pub at_bound : (l : List A) (i : ℕ) (a : A) → get_elem? l i ≡ some a → i < length l
  at_bound [] i a e = absurd (some-ne-none a (sym e))
  at_bound (x ∷ xs) zero a e = omega arith
  at_bound (x ∷ xs) (suc i) a e = let h = at_bound xs i a e in omega arith

  pub at_split : (xs ys : List A) (p : ℕ) (a : A) → get_elem? (xs ++ ys) p ≡ some a
      → (get_elem? xs p ≡ some a) ⊎ ((q : ℕ) × (p ≡ length xs + q) × (get_elem? ys q ≡ some a))
  at_split [] ys p a e = inr (p, omega arith, e)
  at_split (x ∷ xs) ys zero a e = inl e
  at_split (x ∷ xs) ys (suc p) a e = ⊎_elim (λ l. inl l) (λ r. inr (r.0, (let h : p ≡ length xs + r.0 = r.1 in omega arith), r.2)) (at_split xs ys p a e)

  pub at_shift : (xs ys : List A) (p : ℕ) → get_elem? (xs ++ ys) (length xs + p) ≡ get_elem? ys p
  at_shift [] ys p = let e : 0 + p ≡ p = omega arith in ap (get_elem? ys) e
  at_shift (x ∷ xs) ys p = let e : suc (length xs) + p ≡ suc (length xs + p) = omega arith in ap (get_elem? (x ∷ xs ++ ys)) e ∙ at_shift xs ys p

  pub at_one : (x : A) (q : ℕ) (a : A) → get_elem? (x ∷ []) q ≡ some a → (q ≡ 0) × (x ≡ a)
  at_one x zero a e = (refl, some-injective x a e)
  at_one x (suc q) a e = absurd (some-ne-none a (sym e))

  pub unmapped : {B : Type 0} (f : A → B) (l : List A) (i : ℕ) (b : B) → get_elem? (map f l) i ≡ some b → (a : A) × (get_elem? l i ≡ some a) × (f a ≡ b)
  unmapped f [] i b e = absurd (some-ne-none b (sym e))
  unmapped f (x ∷ xs) zero b e = (x, refl, some-injective (f x) b e)
  unmapped f (x ∷ xs) (suc i) b e = unmapped f xs i b e

  -- two beginnings of one list
  pub comparable : (xs ys r s : List A) → xs ++ r ≡ ys ++ s → ((t : List A) × (ys ≡ xs ++ t)) ⊎ ((t : List A) × (xs ≡ ys ++ t))
  comparable [] ys r s e = inl (ys, refl)
  comparable (x ∷ xs) [] r s e = inr (x ∷ xs, refl)
  comparable (x ∷ xs) (y ∷ ys) r s e =
      let same : x ≡ y = ap (head_or x) e in
      ⊎_elim
      (λ t. inl (t.0, λ i. sym same i ∷ t.1 i))
      (λ t. inr (t.0, λ i. same i ∷ t.1 i))
      (comparable xs ys r s (ap tail_of e))

  pub same_length : (xs ys r s : List A) → xs ++ r ≡ ys ++ s → length xs ≡ length ys → xs ≡ ys
  same_length [] [] r s e l = refl
  same_length [] (y ∷ ys) r s e l = absurd (omega arith)
  same_length (x ∷ xs) [] r s e l = absurd (omega arith)
  same_length (x ∷ xs) (y ∷ ys) r s e l = λ i. ap (head_or x) e i ∷ same_length xs ys r s (ap tail_of e) (omega arith) i

  pub drop_front : (xs ys : List A) → drop (length xs) (xs ++ ys) ≡ ys
  drop_front [] ys = refl
  drop_front (x ∷ xs) ys = drop_front xs ys

-- the names of a sum that isn't unfolded
pub total_set : (xs : List ℕ) (i a b : ℕ) → get_elem? xs i ≡ some a → total (set xs i b) + a ≡ total xs + b
total_set [] i a b e = absurd (some-ne-none a (sym e))
total_set (x ∷ xs) zero a b e = let same : x ≡ a = some-injective x a e in let k : ℕ = total xs in let goal : (b + k) + a ≡ (x + k) + b = omega arith in goal
total_set (x ∷ xs) (suc i) a b e =
    let h = total_set xs i a b e in
    let k : ℕ = total xs in
    let m : ℕ = total (set xs i b) in
    let h' : m + a ≡ k + b = h in
    let goal : (x + m) + a ≡ (x + k) + b = omega arith in
    goal

pub total_snoc : (xs : List ℕ) (x : ℕ) → total (xs ++ x ∷ []) ≡ total xs + x
total_snoc [] x = let goal : x + 0 ≡ 0 + x = omega arith in goal
total_snoc (y ∷ ys) x =
    let k : ℕ = total ys in
    let m : ℕ = total (ys ++ x ∷ []) in
    let h : m ≡ k + x = total_snoc ys x in
    let goal : y + m ≡ (y + k) + x = omega arith in
    goal

total_none : (xs : List ℕ) → ((j b : ℕ) → get_elem? xs j ≡ some b → b ≡ 0) → total xs ≡ 0
total_none [] h = refl
total_none (x ∷ xs) h =
    let k : ℕ = total xs in
    let rest : k ≡ 0 = total_none xs (λ j b e. h (suc j) b e) in
    let here : x ≡ 0 = h 0 x refl in
    let goal : x + k ≡ 0 = omega arith in
    goal

-- where all but one are 0
pub total_only : (xs : List ℕ) (i a : ℕ) → get_elem? xs i ≡ some a → ((j b : ℕ) → j ≢ i → get_elem? xs j ≡ some b → b ≡ 0) → total xs ≡ a
total_only [] i a e h = absurd (some-ne-none a (sym e))
total_only (x ∷ xs) zero a e h =
    let k : ℕ = total xs in
    let rest : k ≡ 0 = total_none xs (λ j b f. h (suc j) b (λ z. omega arith) f) in
    let same : x ≡ a = some-injective x a e in
    let goal : x + k ≡ a = omega arith in
    goal
total_only (x ∷ xs) (suc i) a e h =
    let k : ℕ = total xs in
    let rest : k ≡ a = total_only xs i a e (λ j b n f. h (suc j) b (λ z. n (omega arith)) f) in
    let here : x ≡ 0 = h 0 x (λ z. omega arith) refl in
    let goal : x + k ≡ a = omega arith in
    goal
