-- The rule holds what is said of all seats.
use Rattle.std.proofs.Common.{◌≡◌, ◌≢◌, ◌⊎◌, ℕ, suc, ◌<◌, Bool, true, List, [], ◌∷◌, ◌++◌, map, length, Option, Some, None, refl, sym, ap, ◌∙◌, inl, ⊎_elim, arith}
use mathlib.Core.Option.{some}
use lib.ListN.{get_elem?}
use Rattle.atomic_table.specs.Table.{State}
use Rattle.atomic_table.proofs.Lists.{at_map, at_longer}
use Rattle.turn_book.specs.declared.view.Branch.{Branch}
use Rattle.turn_book.specs.declared.view.Made.{Made}
use Rattle.turn_book.specs.declared.view.View.{View}
use Rattle.turn_book.specs.Views.{branch, Carries, CarriesNumber, Apart, NoneBy, by_any, next_number}
use Rattle.turn_book.specs.Rule.{Turn, log_of, SeatCarries, Family, carried_of, Books, Kept}
use Rattle.turn_book.specs.Seats.{OwnsPlace, SeatsStand}
use Rattle.turn_book.proofs.Lists.{at_same}
use Rattle.turn_book.proofs.Entries.{by_any_is, none_by, not_true, off}

-- a number that wasn't split off yet, or was split off below such a one, is carried by no seat
unused_number : (cs : List (List Branch)) (f : Family cs) (i k l : ℕ) (n below : List ℕ) → SeatCarries cs i n k → k < l → (j r : ℕ) → SeatCarries cs j (below ++ l ∷ n) r → ⊥
unused_number cs f i k l n [] c late j r d = let h = (f.below n j l r i k d c).1 in omega arith
unused_number cs f i k l n (b ∷ bs) c late j r d = let p = f.parent (bs ++ l ∷ n) j b r d in unused_number cs f i k l n bs c late p.0 p.1 p.2

-- the number that is split off next, by the first number that is carried
next_above : (bs : List Branch) → 0 < length bs → (n : List ℕ) × (k : ℕ) × Carries bs n k × (next_number bs ≡ suc k ∷ n)
next_above [] h = absurd (omega arith)
next_above (b ∷ bs) h = (b.number, b.splits, inl (refl, refl), refl)

module _ {S E : Type 0} (open_as : S → List E → Type 0) (next serving : ℕ) (first : S) (old : List E) (turns : List (Turn E)) (out : Bool) (owner : ℕ → ℕ) (views : List (View S E)) (k : Books open_as next serving first old turns out owner views) where
  carries_at : (i : ℕ) (v : View S E) (n : List ℕ) (c : CarriesNumber v.carried n) → get_elem? views i ≡ some v → SeatCarries (map carried_of views) i n c.0
  carries_at i v n c e = (v.carried, at_map carried_of views i v e, c.1)

  apart : (i j : ℕ) (v u : View S E) → get_elem? views i ≡ some v → get_elem? views j ≡ some u → i ≢ j → Apart v.carried u.carried
  apart i j v u e f ne n a b = ne (k.family.sole n i j a.0 b.0 (carries_at i v n a e) (carries_at j u n b f))

  maker_of : (bs : List Branch) (by : Option (List ℕ)) → by_any bs by ≡ true → (n : List ℕ) × (by ≡ Some n) × CarriesNumber bs n
  maker_of bs None e = absurd (off e)
  maker_of bs (Some n) e = (n, refl, by_any_is bs n e)

  whole_place : (i p : ℕ) (v : View S E) (m : Made E) → get_elem? views i ≡ some v → get_elem? v.seen p ≡ some m → get_elem? (log_of old turns) p ≡ some m
  whole_place i p v m e f =
      let s = (k.each_seat i v e).seen in
      ap (λ (l : List (Made E)). get_elem? l p) s.1 ∙ at_longer v.seen s.0 p m f

  places_apart : (i j p : ℕ) (v u : View S E) → get_elem? views i ≡ some v → get_elem? views j ≡ some u → i ≢ j → OwnsPlace v p → OwnsPlace u p → ⊥
  places_apart i j p v u e f ne a b =
      let same : a.0 ≡ b.0 = at_same (log_of old turns) p a.0 b.0 (whole_place i p v a.0 e a.1) (whole_place j p u b.0 f b.1) in
      let x = maker_of v.carried a.0.by a.2 in
      let b_by : by_any u.carried a.0.by ≡ true = ap (λ (m : Made E). by_any u.carried m.by) same ∙ b.2 in
      let y : by_any u.carried (Some x.0) ≡ true = ap (by_any u.carried) (sym x.1) ∙ b_by in
      apart i j v u e f ne x.0 x.2 (by_any_is u.carried x.0 y)

  own_seen : (i p : ℕ) (v : View S E) (m : Made E) (n : List ℕ) → get_elem? views i ≡ some v → get_elem? (log_of old turns) p ≡ some m → m.by ≡ Some n → CarriesNumber v.carried n → p < length v.seen
  own_seen i p v m n e f by c =
      let h = k.makers p m n f by in
      let here : h.0 ≡ i = k.family.sole n h.0 i h.3.0 c.0 (carries_at h.0 h.1 n h.3 h.2) (carries_at i v n c e) in
      let is : h.1 ≡ v = at_same views i h.1 v (ap (get_elem? views) (sym here) ∙ h.2) e in
      let l : length h.1.seen ≡ length v.seen = ap (λ (x : View S E). length x.seen) is in
      let a = h.4 in
      omega arith

  pub stand : SeatsStand next (log_of old turns) views
  stand = record {
    seen = λ i v e. (k.each_seat i v e).seen;
    ended = λ i v e z. (k.each_seat i v e).ended z;
    numbers = apart;
    places = places_apart;
    own = own_seen;
    unused = λ i j r l v u n below e c late f d.
        unused_number (map carried_of views) k.family i r l n below (carries_at i v n (r, c) e) late j d.0 (carries_at j u (below ++ l ∷ n) d f);
    unmade = λ i r l p v m n below e c late f by.
        let h = k.makers p m (below ++ l ∷ n) f by in
        unused_number (map carried_of views) k.family i r l n below (carries_at i v n (r, c) e) late h.0 h.3.0 (carries_at h.0 h.1 (below ++ l ∷ n) h.3 h.2);
  }

  -- no entry that a seat has seen was made by the number that is split off next from it
  pub next_unmade : (i : ℕ) (v : View S E) → get_elem? views i ≡ some v → 0 < length v.carried → NoneBy (branch (next_number v.carried) 0 ∷ []) v.seen
  next_unmade i v e some_number =
      let at = next_above v.carried some_number in
      let bs : List Branch = branch (next_number v.carried) 0 ∷ [] in
      none_by bs v.seen (λ p m f. not_true (by_any bs m.by) (λ yes.
      let x = maker_of bs m.by yes in
      let is : next_number v.carried ≡ x.0 = ⊎_elim (λ (h : (next_number v.carried ≡ x.0) × (0 ≡ x.2.0)). h.0) (λ z. absurd z) x.2.1 in
      let by : m.by ≡ Some (suc at.1 ∷ at.0) = x.1 ∙ ap (λ (n : List ℕ). Some n) (sym is ∙ at.3) in
      stand.unmade i at.1 (suc at.1) p v m at.0 [] e at.2 (omega arith) (whole_place i p v m e f) by))

pub kept_stand : {O S E : Type 0} (start : O → S) (entries : O → List E) (open_as : S → List E → Type 0) (s : State O (View S E)) (k : Kept start entries open_as s) → SeatsStand k.next (log_of k.old k.turns) s.views
kept_stand start entries open_as s k = stand open_as k.next k.serving k.first k.old k.turns k.out k.owner s.views k.books
