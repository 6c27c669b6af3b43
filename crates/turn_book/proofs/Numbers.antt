-- The numbers that seats carry, as seats are split, join, and hand their numbers over.
use Rattle.std.proofs.Common.{◌≡◌, ◌≢◌, ◌⊎◌, ℕ, suc, ◌+◌, ◌<◌, ◌≤◌, List, [], ◌∷◌, ◌++◌, length, set, refl, sym, ap, ◌∙◌, subst, inl, inr, ⊎_elim, arith, length-set}
use mathlib.Core.Logic.{dite}
use mathlib.Core.Option.{some}
use native.Mathlib.Decide.{ℕ_discrete}
use lib.ListN.{get_elem?}
use Rattle.atomic_table.proofs.Lists.{at_set, set_else, at_longer, at_last}
use Rattle.turn_book.specs.declared.view.Branch.{Branch}
use Rattle.turn_book.specs.Views.{branch, Carries, CarriesNumber, CarriesAll, Apart}
use Rattle.turn_book.specs.Rule.{Distinct, SeatCarries, Family}
use Rattle.turn_book.proofs.Lists.{head_or, tail_of, at_same, at_here, at_split, at_one}

pub carries_left : (xs ys : List Branch) (n : List ℕ) (k : ℕ) → Carries xs n k → Carries (xs ++ ys) n k
carries_left [] ys n k c = absurd c
carries_left (x ∷ xs) ys n k c = ⊎_elim (λ h. inl h) (λ t. inr (carries_left xs ys n k t)) c

pub carries_right : (xs ys : List Branch) (n : List ℕ) (k : ℕ) → Carries ys n k → Carries (xs ++ ys) n k
carries_right [] ys n k c = c
carries_right (x ∷ xs) ys n k c = inr (carries_right xs ys n k c)

pub carries_either : (xs ys : List Branch) (n : List ℕ) (k : ℕ) → Carries (xs ++ ys) n k → Carries xs n k ⊎ Carries ys n k
carries_either [] ys n k c = inr c
carries_either (x ∷ xs) ys n k c = ⊎_elim (λ h. inl (inl h)) (λ t. ⊎_elim (λ l. inl (inr l)) (λ r. inr r) (carries_either xs ys n k t)) c

distinct_both : (xs ys : List Branch) → Distinct xs → Distinct ys → Apart xs ys → Distinct (xs ++ ys)
distinct_both [] ys dx dy apart = dy
distinct_both (x ∷ xs) ys dx dy apart = (
  (λ c. ⊎_elim (λ l. dx.0 (c.0, l)) (λ r. apart x.number (x.splits, inl (refl, refl)) (c.0, r)) (carries_either xs ys x.number c.0 c.1)),
  distinct_both xs ys dx.1 dy (λ n a b. apart n (a.0, inr a.1) b),
)

-- a seat that carries something
some_number : (b : Branch) (bs : List Branch) → CarriesNumber (b ∷ bs) b.number
some_number b bs = (b.splits, inl (refl, refl))

pub carries_some : (bs : List Branch) → 0 < length bs → (n : List ℕ) × CarriesNumber bs n
carries_some [] h = absurd (omega arith)
carries_some (b ∷ bs) h = (b.number, some_number b bs)

pub carries_longer : (bs : List Branch) (n : List ℕ) → CarriesNumber bs n → 0 < length bs
carries_longer [] n c = absurd c.1
carries_longer (b ∷ bs) n c = omega arith

-- the numbers stay where the seats' numbers are moved to other seats, one to one
moved : (cs ds : List (List Branch)) (To : ℕ → ℕ → Type 0)
    → ((i j a b : ℕ) → To i a → To j b → i ≡ j → a ≡ b)
    → ((j : ℕ) (n : List ℕ) (k : ℕ) → SeatCarries ds j n k → (i : ℕ) × SeatCarries cs i n k × To i j)
    → ((i : ℕ) (n : List ℕ) (k : ℕ) → SeatCarries cs i n k → (j : ℕ) × SeatCarries ds j n k)
    → ((i : ℕ) (bs : List Branch) → get_elem? ds i ≡ some bs → Distinct bs)
    → Family cs → Family ds
moved cs ds To single back there once f = record {
  sole = λ n i j k l a b. let a' = back i n k a in let b' = back j n l b in single a'.0 b'.0 i j a'.2 b'.2 (f.sole n a'.0 b'.0 k l a'.1 b'.1);
  once = once;
  parent = λ n i k j a. let a' = back i (k ∷ n) j a in let p = f.parent n a'.0 k j a'.1 in let t = there p.0 n p.1 p.2 in (t.0, p.1, t.1);
  below = λ n i k j p l a b. let a' = back i (k ∷ n) j a in let b' = back p n l b in f.below n a'.0 k j b'.0 l a'.1 b'.1;
}

-- two seats join
module _ (cs : List (List Branch)) (i o : ℕ) (xs ys : List Branch) (at_i : get_elem? cs i ≡ some xs) (at_o : get_elem? cs o ≡ some ys) (apart : o ≢ i) where
  abbrev joined_seats : List (List Branch)
  joined_seats = set (set cs i (xs ++ ys)) o []

  abbrev Joins_to : ℕ → ℕ → Type 0
  Joins_to a b = ((a ≡ o) × (b ≡ i)) ⊎ ((a ≢ o) × (b ≡ a))

  join_single : (a c p q : ℕ) → Joins_to a p → Joins_to c q → a ≡ c → p ≡ q
  join_single a c p q s t e = ⊎_elim
      (λ (x : (a ≡ o) × (p ≡ i)). ⊎_elim (λ (y : (c ≡ o) × (q ≡ i)). x.1 ∙ sym y.1) (λ (y : (c ≢ o) × (q ≡ c)). absurd (y.0 (sym e ∙ x.0))) t)
      (λ (x : (a ≢ o) × (p ≡ a)). ⊎_elim (λ (y : (c ≡ o) × (q ≡ i)). absurd (x.0 (e ∙ y.0))) (λ (y : (c ≢ o) × (q ≡ c)). x.1 ∙ (e ∙ sym y.1)) t)
      s

  join_list : (a : ℕ) (bs : List Branch) → get_elem? joined_seats a ≡ some bs
      → ([] ≡ bs) ⊎ (((a ≡ i) × (xs ++ ys ≡ bs)) ⊎ ((a ≢ o) × (get_elem? cs a ≡ some bs)))
  join_list a bs e = ⊎_elim
      (λ (t : (a ≡ o) × ([] ≡ bs)). inl t.1)
      (λ (t : (a ≢ o) × (get_elem? (set cs i (xs ++ ys)) a ≡ some bs)). ⊎_elim
      (λ (u : (a ≡ i) × (xs ++ ys ≡ bs)). inr (inl u))
      (λ (u : (a ≢ i) × (get_elem? cs a ≡ some bs)). inr (inr (t.0, u.1)))
      (at_set cs i a (xs ++ ys) bs t.1))
      (at_set (set cs i (xs ++ ys)) o a [] bs e)

  none_in : (bs : List Branch) (n : List ℕ) (k : ℕ) → [] ≡ bs → Carries bs n k → ⊥
  none_in bs n k e c = subst (λ (l : List Branch). Carries l n k) (sym e) c

  join_back : (a : ℕ) (n : List ℕ) (k : ℕ) → SeatCarries joined_seats a n k → (b : ℕ) × SeatCarries cs b n k × Joins_to b a
  join_back a n k s = ⊎_elim
      (λ (t : [] ≡ s.0). absurd (none_in s.0 n k t s.2))
      (λ (t : ((a ≡ i) × (xs ++ ys ≡ s.0)) ⊎ ((a ≢ o) × (get_elem? cs a ≡ some s.0))). ⊎_elim
      (λ (u : (a ≡ i) × (xs ++ ys ≡ s.0)). ⊎_elim
      (λ (l : Carries xs n k). (i, (xs, at_i, l), inr ((λ z. apart (sym z)), u.0)))
      (λ (r : Carries ys n k). (o, (ys, at_o, r), inl (refl, u.0)))
      (carries_either xs ys n k (subst (λ (l : List Branch). Carries l n k) (sym u.1) s.2)))
      (λ (u : (a ≢ o) × (get_elem? cs a ≡ some s.0)). (a, (s.0, u.1, s.2), inr (u.0, refl)))
      t)
      (join_list a s.0 s.1)

  at_i_joined : get_elem? joined_seats i ≡ some (xs ++ ys)
  at_i_joined = set_else (set cs i (xs ++ ys)) o i [] (λ z. apart (sym z)) ∙ at_here cs i xs (xs ++ ys) at_i

  join_there : (a : ℕ) (n : List ℕ) (k : ℕ) → SeatCarries cs a n k → (b : ℕ) × SeatCarries joined_seats b n k
  join_there a n k s = dite (ℕ_discrete a o)
      (λ e. (i, (xs ++ ys, at_i_joined, carries_right xs ys n k (subst (λ (l : List Branch). Carries l n k) (at_same cs o s.0 ys (ap (get_elem? cs) (sym e) ∙ s.1) at_o) s.2))))
      (λ ne. dite (ℕ_discrete a i)
      (λ e. (i, (xs ++ ys, at_i_joined, carries_left xs ys n k (subst (λ (l : List Branch). Carries l n k) (at_same cs i s.0 xs (ap (get_elem? cs) (sym e) ∙ s.1) at_i) s.2))))
      (λ ni. (a, (s.0, set_else (set cs i (xs ++ ys)) o a [] ne ∙ (set_else cs i a (xs ++ ys) ni ∙ s.1), s.2))))

  pub join_apart : Family cs → Apart xs ys
  join_apart f n a b = apart (f.sole n o i b.0 a.0 (ys, at_o, b.1) (xs, at_i, a.1))

  pub join_family : Family cs → Family joined_seats
  join_family f = moved cs joined_seats Joins_to join_single join_back join_there
      (λ a bs e. ⊎_elim
      (λ (t : [] ≡ bs). subst Distinct t (tt {0}))
      (λ (t : ((a ≡ i) × (xs ++ ys ≡ bs)) ⊎ ((a ≢ o) × (get_elem? cs a ≡ some bs))). ⊎_elim
      (λ (u : (a ≡ i) × (xs ++ ys ≡ bs)). subst Distinct u.1 (distinct_both xs ys (f.once i xs at_i) (f.once o ys at_o) (join_apart f)))
      (λ (u : (a ≢ o) × (get_elem? cs a ≡ some bs)). f.once a bs u.1)
      t)
      (join_list a bs e))
      f

-- a seat hands its numbers over to a new one
module _ (cs : List (List Branch)) (i : ℕ) (xs : List Branch) (at_i : get_elem? cs i ≡ some xs) where
  abbrev handed_over : List (List Branch)
  handed_over = set cs i [] ++ xs ∷ []

  abbrev Hands_to : ℕ → ℕ → Type 0
  Hands_to a b = ((a ≡ i) × (b ≡ length cs)) ⊎ ((a ≢ i) × (b ≡ a))

  hand_single : (a c p q : ℕ) → Hands_to a p → Hands_to c q → a ≡ c → p ≡ q
  hand_single a c p q s t e = ⊎_elim
      (λ (x : (a ≡ i) × (p ≡ length cs)). ⊎_elim (λ (y : (c ≡ i) × (q ≡ length cs)). x.1 ∙ sym y.1) (λ (y : (c ≢ i) × (q ≡ c)). absurd (y.0 (sym e ∙ x.0))) t)
      (λ (x : (a ≢ i) × (p ≡ a)). ⊎_elim (λ (y : (c ≡ i) × (q ≡ length cs)). absurd (x.0 (e ∙ y.0))) (λ (y : (c ≢ i) × (q ≡ c)). x.1 ∙ (e ∙ sym y.1)) t)
      s

  hand_list : (a : ℕ) (bs : List Branch) → get_elem? handed_over a ≡ some bs
      → ([] ≡ bs) ⊎ (((a ≡ length cs) × (xs ≡ bs)) ⊎ ((a ≢ i) × (get_elem? cs a ≡ some bs)))
  hand_list a bs e = ⊎_elim
      (λ (l : get_elem? (set cs i []) a ≡ some bs). ⊎_elim
      (λ (t : (a ≡ i) × ([] ≡ bs)). inl t.1)
      (λ (t : (a ≢ i) × (get_elem? cs a ≡ some bs)). inr (inr t))
      (at_set cs i a [] bs l))
      (λ (r : (q : ℕ) × (a ≡ length (set cs i []) + q) × (get_elem? (xs ∷ []) q ≡ some bs)).
      let o = at_one xs r.0 bs r.2 in
      let wide : length (set cs i []) ≡ length cs = length-set cs i [] in
      let last : a ≡ length cs = (let h = r.1 in let z = o.0 in omega arith) in
      inr (inl (last, o.1)))
      (at_split (set cs i []) (xs ∷ []) a bs e)

  at_end : get_elem? handed_over (length cs) ≡ some xs
  at_end = at_last (set cs i []) xs (length cs) (length-set cs i [])

  hand_back : (a : ℕ) (n : List ℕ) (k : ℕ) → SeatCarries handed_over a n k → (b : ℕ) × SeatCarries cs b n k × Hands_to b a
  hand_back a n k s = ⊎_elim
      (λ (t : [] ≡ s.0). absurd (subst (λ (l : List Branch). Carries l n k) (sym t) s.2))
      (λ (t : ((a ≡ length cs) × (xs ≡ s.0)) ⊎ ((a ≢ i) × (get_elem? cs a ≡ some s.0))). ⊎_elim
      (λ (u : (a ≡ length cs) × (xs ≡ s.0)). (i, (xs, at_i, subst (λ (l : List Branch). Carries l n k) (sym u.1) s.2), inl (refl, u.0)))
      (λ (u : (a ≢ i) × (get_elem? cs a ≡ some s.0)). (a, (s.0, u.1, s.2), inr (u.0, refl)))
      t)
      (hand_list a s.0 s.1)

  hand_there : (a : ℕ) (n : List ℕ) (k : ℕ) → SeatCarries cs a n k → (b : ℕ) × SeatCarries handed_over b n k
  hand_there a n k s = dite (ℕ_discrete a i)
      (λ e. (length cs, (xs, at_end, subst (λ (l : List Branch). Carries l n k) (at_same cs i s.0 xs (ap (get_elem? cs) (sym e) ∙ s.1) at_i) s.2)))
      (λ ne. (a, (s.0, at_longer (set cs i []) (xs ∷ []) a s.0 (set_else cs i a [] ne ∙ s.1), s.2)))

  pub hand_family : Family cs → Family handed_over
  hand_family f = moved cs handed_over Hands_to hand_single hand_back hand_there
      (λ a bs e. ⊎_elim
      (λ (t : [] ≡ bs). subst Distinct t (tt {0}))
      (λ (t : ((a ≡ length cs) × (xs ≡ bs)) ⊎ ((a ≢ i) × (get_elem? cs a ≡ some bs))). ⊎_elim
      (λ (u : (a ≡ length cs) × (xs ≡ bs)). subst Distinct u.1 (f.once i xs at_i))
      (λ (u : (a ≢ i) × (get_elem? cs a ≡ some bs)). f.once a bs u.1)
      t)
      (hand_list a bs e))
      f

-- a seat is split off
module _ (cs : List (List Branch)) (i : ℕ) (b : Branch) (bs : List Branch) (at_i : get_elem? cs i ≡ some (b ∷ bs)) (f : Family cs) where
  abbrev new_number : List ℕ
  new_number = suc b.splits ∷ b.number

  abbrev kept_list : List Branch
  kept_list = branch b.number (suc b.splits) ∷ bs

  abbrev new_list : List Branch
  new_list = branch new_number 0 ∷ []

  abbrev split_seats : List (List Branch)
  split_seats = set cs i kept_list ++ new_list ∷ []

  -- what was carried before, with as many splits or more, and one more of the seat that was split
  abbrev Was : ℕ → List ℕ → ℕ → Type 0
  Was a n k = (u : ℕ) × SeatCarries cs a n u × (u ≤ k) × (n ≡ b.number → suc b.splits ≤ k)

  abbrev IsNew : ℕ → List ℕ → ℕ → Type 0
  IsNew a n k = (a ≡ length cs) × (n ≡ new_number) × (k ≡ 0)

  split_list : (a : ℕ) (l : List Branch) → get_elem? split_seats a ≡ some l
      → ((a ≡ i) × (kept_list ≡ l)) ⊎ (((a ≡ length cs) × (new_list ≡ l)) ⊎ ((a ≢ i) × (get_elem? cs a ≡ some l)))
  split_list a l e = ⊎_elim
      (λ (h : get_elem? (set cs i kept_list) a ≡ some l). ⊎_elim
      (λ (t : (a ≡ i) × (kept_list ≡ l)). inl t)
      (λ (t : (a ≢ i) × (get_elem? cs a ≡ some l)). inr (inr t))
      (at_set cs i a kept_list l h))
      (λ (r : (q : ℕ) × (a ≡ length (set cs i kept_list) + q) × (get_elem? (new_list ∷ []) q ≡ some l)).
      let o = at_one new_list r.0 l r.2 in
      let wide : length (set cs i kept_list) ≡ length cs = length-set cs i kept_list in
      let last : a ≡ length cs = (let h = r.1 in let z = o.0 in omega arith) in
      inr (inl (last, o.1)))
      (at_split (set cs i kept_list) (new_list ∷ []) a l e)

  own_number : SeatCarries cs i b.number b.splits
  own_number = (b ∷ bs, at_i, inl (refl, refl))

  was_kept : (n : List ℕ) (k : ℕ) → Carries kept_list n k → Was i n k
  was_kept n k c = ⊎_elim
      (λ (h : (b.number ≡ n) × (suc b.splits ≡ k)). (b.splits, (b ∷ bs, at_i, inl (h.0, refl)), (let e = h.1 in omega arith), λ _. (let e = h.1 in omega arith)))
      (λ (t : Carries bs n k). (k, (b ∷ bs, at_i, inr t), omega arith, λ e. absurd ((f.once i (b ∷ bs) at_i).0 (k, subst (λ (m : List ℕ). Carries bs m k) e t))))
      c

  was_new : (a : ℕ) (n : List ℕ) (k : ℕ) → a ≡ length cs → Carries new_list n k → IsNew a n k
  was_new a n k e c = ⊎_elim (λ (h : (new_number ≡ n) × (0 ≡ k)). (e, sym h.0, sym h.1)) (λ (t : ⊥). absurd t) c

  came : (a : ℕ) (n : List ℕ) (k : ℕ) → SeatCarries split_seats a n k → Was a n k ⊎ IsNew a n k
  came a n k s = ⊎_elim
      (λ (t : (a ≡ i) × (kept_list ≡ s.0)). inl (subst (λ (z : ℕ). Was z n k) (sym t.0) (was_kept n k (subst (λ (l : List Branch). Carries l n k) (sym t.1) s.2))))
      (λ (t : ((a ≡ length cs) × (new_list ≡ s.0)) ⊎ ((a ≢ i) × (get_elem? cs a ≡ some s.0))). ⊎_elim
      (λ (u : (a ≡ length cs) × (new_list ≡ s.0)). inr (was_new a n k u.0 (subst (λ (l : List Branch). Carries l n k) (sym u.1) s.2)))
      (λ (u : (a ≢ i) × (get_elem? cs a ≡ some s.0)).
      let there : SeatCarries cs a n k = (s.0, u.1, s.2) in
      inl (k, there, omega arith, λ e. absurd (u.0 (f.sole b.number a i k b.splits (subst (λ (m : List ℕ). SeatCarries cs a m k) e there) own_number))))
      t)
      (split_list a s.0 s.1)

  goes_on : (a : ℕ) (n : List ℕ) (k : ℕ) → SeatCarries cs a n k → (l : ℕ) × SeatCarries split_seats a n l
  goes_on a n k s = dite (ℕ_discrete a i)
      (λ e. let c : Carries (b ∷ bs) n k = subst (λ (l : List Branch). Carries l n k) (at_same cs i s.0 (b ∷ bs) (ap (get_elem? cs) (sym e) ∙ s.1) at_i) s.2 in
      let there : get_elem? split_seats a ≡ some kept_list = ap (get_elem? split_seats) e ∙ at_longer (set cs i kept_list) (new_list ∷ []) i kept_list (at_here cs i (b ∷ bs) kept_list at_i) in
      ⊎_elim (λ (h : (b.number ≡ n) × (b.splits ≡ k)). (suc b.splits, (kept_list, there, inl (h.0, refl)))) (λ (t : Carries bs n k). (k, (kept_list, there, inr t))) c)
      (λ ne. (k, (s.0, at_longer (set cs i kept_list) (new_list ∷ []) a s.0 (set_else cs i a kept_list ne ∙ s.1), s.2)))

  -- the new number was carried by no seat
  unused : (a k : ℕ) → SeatCarries cs a new_number k → ⊥
  unused a k s = let h = (f.below b.number a (suc b.splits) k i b.splits s own_number).1 in omega arith

  unused_as : (a : ℕ) (n : List ℕ) (k : ℕ) → n ≡ new_number → SeatCarries cs a n k → ⊥
  unused_as a n k e s = unused a k (subst (λ (m : List ℕ). SeatCarries cs a m k) e s)

  split_sole : (n : List ℕ) (a c k l : ℕ) → SeatCarries split_seats a n k → SeatCarries split_seats c n l → a ≡ c
  split_sole n a c k l s t = ⊎_elim
      (λ (x : Was a n k). ⊎_elim (λ (y : Was c n l). f.sole n a c x.0 y.0 x.1 y.1) (λ (y : IsNew c n l). absurd (unused_as a n x.0 y.1 x.1)) (came c n l t))
      (λ (x : IsNew a n k). ⊎_elim (λ (y : Was c n l). absurd (unused_as c n y.0 x.1 y.1)) (λ (y : IsNew c n l). x.0 ∙ sym y.0) (came c n l t))
      (came a n k s)

  split_parent : (n : List ℕ) (a k j : ℕ) → SeatCarries split_seats a (k ∷ n) j → (p l : ℕ) × SeatCarries split_seats p n l
  split_parent n a k j s = ⊎_elim
      (λ (x : Was a (k ∷ n) j). let p = f.parent n a k x.0 x.1 in let g = goes_on p.0 n p.1 p.2 in (p.0, g.0, g.1))
      (λ (x : IsNew a (k ∷ n) j). let g = goes_on i b.number b.splits own_number in (i, g.0, subst (λ (m : List ℕ). SeatCarries split_seats i m g.0) (sym (ap tail_of x.1)) g.1))
      (came a (k ∷ n) j s)

  split_below : (n : List ℕ) (a k j p l : ℕ) → SeatCarries split_seats a (k ∷ n) j → SeatCarries split_seats p n l → (1 ≤ k) × (k ≤ l)
  split_below n a k j p l s t = ⊎_elim
      (λ (x : Was a (k ∷ n) j). ⊎_elim
      (λ (y : Was p n l). let h = f.below n a k x.0 p y.0 x.1 y.1 in (h.0, (let u = h.1 in let v = y.2 in omega arith)))
      (λ (y : IsNew p n l). let q = f.parent n a k x.0 x.1 in absurd (unused_as q.0 n q.1 y.1 q.2))
      (came p n l t))
      (λ (x : IsNew a (k ∷ n) j).
      let is : k ≡ suc b.splits = ap (head_or 0) x.1 in
      let from : n ≡ b.number = ap tail_of x.1 in
      ⊎_elim
      (λ (y : Was p n l). ((let z = is in omega arith), (let z = is in let w = y.3 from in omega arith)))
      (λ (y : IsNew p n l). let longer : length n ≡ suc (length b.number) = ap length y.1 in let short : length n ≡ length b.number = ap length from in absurd (omega arith))
      (came p n l t))
      (came a (k ∷ n) j s)

  split_once_each : (a : ℕ) (l : List Branch) → get_elem? split_seats a ≡ some l → Distinct l
  split_once_each a l e = ⊎_elim
      (λ (t : (a ≡ i) × (kept_list ≡ l)). subst Distinct t.1 (f.once i (b ∷ bs) at_i))
      (λ (t : ((a ≡ length cs) × (new_list ≡ l)) ⊎ ((a ≢ i) × (get_elem? cs a ≡ some l))). ⊎_elim
      (λ (u : (a ≡ length cs) × (new_list ≡ l)). subst Distinct u.1 ((λ c. c.1), tt {0}))
      (λ (u : (a ≢ i) × (get_elem? cs a ≡ some l)). f.once a l u.1)
      t)
      (split_list a l e)

  pub split_family : Family split_seats
  split_family = record { sole = split_sole; once = split_once_each; parent = split_parent; below = split_below }

-- a seat that carries all numbers carries each that any seat carries
pub all_carried : (cs : List (List Branch)) (i : ℕ) (bs : List Branch) → get_elem? cs i ≡ some bs → Family cs → CarriesAll bs
    → (n : List ℕ) (a k : ℕ) → SeatCarries cs a n k → CarriesNumber bs n
all_carried cs i bs at f all [] a k s = all.0
all_carried cs i bs at f all (j ∷ n) a k s =
    let p = f.parent n a j k s in
    let mine = all_carried cs i bs at f all n p.0 p.1 p.2 in
    let h = f.below n a j k i mine.0 s (bs, at, mine.1) in
    all.1 n mine.0 j mine.1 h.0 h.1
