-- Entries: which of them a seat made, the longer of two lists, and the book's history.
use Rattle.std.proofs.Common.{◌≡◌, ◌⊎◌, ℕ, zero, suc, ◌+◌, ◌<◌, ◌≤◌, ◌==◌, ◌&&◌, ◌||◌, Bool, true, false, true≢false, cond, List, [], ◌∷◌, ◌++◌, map, length, Option, Some, None, option_to_list, refl, sym, ap, ◌∙◌, subst, inl, inr, ⊎_elim, arith, eq-eqb, length-append, append_assoc, append-nil}
use mathlib.Core.Option.{some, some-injective, some-ne-none}
use mathlib.Core.List.{map-append}
use lib.ListN.{get_elem?}
use Rattle.turn_book.specs.declared.view.Branch.{Branch}
use Rattle.turn_book.specs.declared.view.Made.{Made}
use Rattle.turn_book.specs.declared.view.View.{View}
use Rattle.turn_book.specs.Views.{number_of, Carries, CarriesNumber, same, by_any, unsigned, signed, entry_of, Extends, NoneBy, made_from, mine, longer, turned}
use Rattle.turn_book.specs.Rule.{Turn, a_turn, made_in, made_by, log_of}
use Rattle.turn_book.specs.Book.{placed}
use Rattle.turn_book.proofs.Lists.{at_one, at_split}

-- Bools.
pub not_true : (b : Bool) → (b ≡ true → ⊥) → b ≡ false
not_true true h = absurd (h refl)
not_true false h = refl

pub off : false ≡ true → ⊥
off e = true≢false (sym e)

pub or_either : (a b : Bool) → (a || b) ≡ true → (a ≡ true) ⊎ (b ≡ true)
or_either true b e = inl refl
or_either false b e = inr e

or_left : (a b : Bool) → a ≡ true → (a || b) ≡ true
or_left true b e = refl
or_left false b e = absurd (off e)

or_right : (a b : Bool) → b ≡ true → (a || b) ≡ true
or_right true b e = refl
or_right false b e = e

both_true : (a b : Bool) → a ≡ true → b ≡ true → (a && b) ≡ true
both_true true b e f = f
both_true false b e f = absurd (off e)

first_true : (a b : Bool) → (a && b) ≡ true → a ≡ true
first_true true b e = refl
first_true false b e = absurd (off e)

second_true : (a b : Bool) → (a && b) ≡ true → b ≡ true
second_true true b e = e
second_true false b e = absurd (off e)

-- Numbers.
pub same_itself : (n : List ℕ) → same n n ≡ true
same_itself [] = refl
same_itself (x ∷ xs) = both_true (x == x) (same xs xs) (eq-eqb x x refl) (same_itself xs)

pub same_is : (n m : List ℕ) → same n m ≡ true → n ≡ m
same_is [] [] e = refl
same_is [] (y ∷ ys) e = absurd (off e)
same_is (x ∷ xs) [] e = absurd (off e)
same_is (x ∷ xs) (y ∷ ys) e =
    let here : x ≡ y = grind (arith, first_true (x == y) (same xs ys) e) in
    let rest = same_is xs ys (second_true (x == y) (same xs ys) e) in
    λ i. here i ∷ rest i

pub by_any_of : (bs : List Branch) (n : List ℕ) → CarriesNumber bs n → by_any bs (Some n) ≡ true
by_any_of [] n c = absurd c.1
by_any_of (b ∷ bs) n c = ⊎_elim
    (λ (h : (b.number ≡ n) × (b.splits ≡ c.0)). or_left (same b.number n) (by_any bs (Some n)) (subst (λ (m : List ℕ). same b.number m ≡ true) h.0 (same_itself b.number)))
    (λ (t : Carries bs n c.0). or_right (same b.number n) (by_any bs (Some n)) (by_any_of bs n (c.0, t)))
    c.1

pub by_any_is : (bs : List Branch) (n : List ℕ) → by_any bs (Some n) ≡ true → CarriesNumber bs n
by_any_is [] n e = absurd (off e)
by_any_is (b ∷ bs) n e = ⊎_elim
    (λ (h : same b.number n ≡ true). (b.splits, inl (same_is b.number n h, refl)))
    (λ (t : by_any bs (Some n) ≡ true). let c = by_any_is bs n t in (c.0, inr c.1))
    (or_either (same b.number n) (by_any bs (Some n)) e)

pub own_is_carried : (bs : List Branch) → 0 < length bs → by_any bs (Some (number_of bs)) ≡ true
own_is_carried [] h = absurd (omega arith)
own_is_carried (b ∷ bs) h = or_left (same b.number b.number) (by_any bs (Some b.number)) (same_itself b.number)

cond_append : {A : Type 0} (b : Bool) (x : A) (ls bs cs : List A) → ls ≡ bs ++ cs → cond b (x ∷ ls) ls ≡ cond b (x ∷ bs) bs ++ cs
cond_append true x ls bs cs e = λ i. x ∷ e i
cond_append false x ls bs cs e = e

module _ {E : Type 0} where
  pub none_by : (bs : List Branch) (ms : List (Made E)) → ((p : ℕ) (m : Made E) → get_elem? ms p ≡ some m → by_any bs m.by ≡ false) → NoneBy bs ms
  none_by bs [] h = tt {0}
  none_by bs (m ∷ ms) h = (h 0 m refl, none_by bs ms (λ p k e. h (suc p) k e))

  -- The entries that a seat made.
  pub made_append : (k : ℕ) (bs : List Branch) (xs ys : List (Made E)) → made_from k bs (xs ++ ys) ≡ made_from k bs xs ++ made_from (k + length xs) bs ys
  made_append k bs [] ys = let e : k ≡ k + 0 = omega arith in ap (λ (j : ℕ). made_from j bs ys) e
  made_append k bs (x ∷ xs) ys =
      let e : suc k + length xs ≡ k + suc (length xs) = omega arith in
      cond_append (by_any bs x.by) (k, x) (made_from (suc k) bs (xs ++ ys)) (made_from (suc k) bs xs) (made_from (k + suc (length xs)) bs ys)
      (made_append (suc k) bs xs ys ∙ ap (λ (j : ℕ). made_from (suc k) bs xs ++ made_from j bs ys) e)

  pub made_none : (k : ℕ) (bs : List Branch) (ms : List (Made E)) → NoneBy bs ms → made_from k bs ms ≡ []
  made_none k bs [] h = refl
  made_none k bs (m ∷ ms) h = ap (λ (b : Bool). cond b ((k, m) ∷ made_from (suc k) bs ms) (made_from (suc k) bs ms)) h.0 ∙ made_none (suc k) bs ms h.1

  pub made_own : (k : ℕ) (bs : List Branch) (n : List ℕ) (es : List E) → by_any bs (Some n) ≡ true → made_from k bs (map (signed n) es) ≡ placed k n es
  made_own k bs n [] h = refl
  made_own k bs n (e ∷ es) h =
      ap (λ (b : Bool). cond b ((k, signed n e) ∷ made_from (suc k) bs (map (signed n) es)) (made_from (suc k) bs (map (signed n) es))) h
      ∙ ap (λ (l : List (ℕ × Made E)). (k, signed n e) ∷ l) (made_own (suc k) bs n es h)

  pub none_front : (bs : List Branch) (xs ys : List (Made E)) → NoneBy bs (xs ++ ys) → NoneBy bs xs
  none_front bs [] ys h = tt {0}
  none_front bs (x ∷ xs) ys h = (h.0, none_front bs xs ys h.1)

  -- what was made stays where the list goes on without an entry of these numbers
  pub made_on : (bs : List Branch) (xs others : List (Made E)) → NoneBy bs others → made_from 0 bs (xs ++ others) ≡ made_from 0 bs xs
  made_on bs xs others h = made_append 0 bs xs others ∙ (ap (λ (l : List (ℕ × Made E)). made_from 0 bs xs ++ l) (made_none (0 + length xs) bs others h) ∙ append-nil (made_from 0 bs xs))

  pub mine_turned : {S : Type 0} (v : View S E) (others : List (Made E)) (added : List E) → 0 < length v.carried → NoneBy v.carried others
      → mine (turned others added v) ≡ mine v ++ placed (length (v.seen ++ others)) (number_of v.carried) added
  mine_turned v others added some_number none_own =
      let bs : List Branch = v.carried in
      let before : List (Made E) = v.seen ++ others in
      let at : 0 + length before ≡ length before = omega arith in
      made_append 0 bs before (map (signed (number_of bs)) added)
      ∙ (ap (λ (l : List (ℕ × Made E)). l ++ made_from (0 + length before) bs (map (signed (number_of bs)) added))
      (made_append 0 bs v.seen others ∙ (ap (λ (l : List (ℕ × Made E)). made_from 0 bs v.seen ++ l) (made_none (0 + length v.seen) bs others none_own) ∙ append-nil (made_from 0 bs v.seen)))
      ∙ ap (λ (l : List (ℕ × Made E)). made_from 0 bs v.seen ++ l)
      (ap (λ (k : ℕ). made_from k bs (map (signed (number_of bs)) added)) at ∙ made_own (length before) bs (number_of bs) added (own_is_carried bs some_number)))

  -- The longer of two lists.
  pub longer_left : (xs t : List (Made E)) → longer xs (xs ++ t) ≡ xs ++ t
  longer_left [] t = refl
  longer_left (x ∷ xs) t = λ i. x ∷ longer_left xs t i

  longer_nil : (xs : List (Made E)) → longer xs [] ≡ xs
  longer_nil [] = refl
  longer_nil (x ∷ xs) = refl

  pub longer_right : (ys t : List (Made E)) → longer (ys ++ t) ys ≡ ys ++ t
  longer_right [] t = longer_nil t
  longer_right (y ∷ ys) t = λ i. y ∷ longer_right ys t i

  pub longer_extends : (xs ys : List (Made E)) → Extends xs ys ⊎ Extends ys xs
      → Extends xs (longer xs ys) × Extends ys (longer xs ys) × ((longer xs ys ≡ xs) ⊎ (longer xs ys ≡ ys))
  longer_extends xs ys c = ⊎_elim
      (λ (t : Extends xs ys).
      let is : longer xs ys ≡ ys = ap (longer xs) t.1 ∙ (longer_left xs t.0 ∙ sym t.1) in
      ((t.0, is ∙ t.1), ([], is ∙ sym (append-nil ys)), inr is))
      (λ (t : Extends ys xs).
      let is : longer xs ys ≡ xs = ap (λ (l : List (Made E)). longer l ys) t.1 ∙ (longer_right ys t.0 ∙ sym t.1) in
      (([], is ∙ sym (append-nil xs)), (t.0, is ∙ t.1), inl is))
      c

  -- The book's history.
  pub made_by_more : (ts : List (Turn E)) (n : List ℕ) (x : Option E) → made_by (ts ++ a_turn n x ∷ []) ≡ made_by ts ++ made_in n x
  made_by_more [] n x = append-nil (made_in n x)
  made_by_more (t ∷ ts) n x = ap (λ (l : List (Made E)). made_in t.by t.entry ++ l) (made_by_more ts n x) ∙ sym (append_assoc (made_in t.by t.entry) (made_by ts) (made_in n x))

  pub log_more : (old : List E) (ts : List (Turn E)) (n : List ℕ) (x : Option E) → log_of old (ts ++ a_turn n x ∷ []) ≡ log_of old ts ++ made_in n x
  log_more old ts n x = ap (λ (l : List (Made E)). map unsigned old ++ l) (made_by_more ts n x) ∙ sym (append_assoc (map unsigned old) (made_by ts) (made_in n x))

  made_in_short : (n : List ℕ) (x : Option E) → length (made_in n x) ≤ 1
  made_in_short n None = omega arith
  made_in_short n (Some e) = omega arith

  pub made_by_short : (ts : List (Turn E)) → length (made_by ts) ≤ length ts
  made_by_short [] = omega arith
  made_by_short (t ∷ ts) =
      let h = made_by_short ts in
      let k = made_in_short t.by t.entry in
      let e = length-append (made_in t.by t.entry) (made_by ts) in
      omega arith

  pub entries_unsigned : (xs : List E) → map entry_of (map unsigned xs) ≡ xs
  entries_unsigned [] = refl
  entries_unsigned (x ∷ xs) = λ i. x ∷ entries_unsigned xs i

  pub entries_signed : (n : List ℕ) (x : Option E) → map entry_of (made_in n x) ≡ option_to_list x
  entries_signed n None = refl
  entries_signed n (Some e) = refl

  pub signed_list : (n : List ℕ) (x : Option E) → map (signed n) (option_to_list x) ≡ made_in n x
  signed_list n None = refl
  signed_list n (Some e) = refl

  pub entries_log : (old : List E) (ts : List (Turn E)) → map entry_of (log_of old ts) ≡ old ++ map entry_of (made_by ts)
  entries_log old ts = map-append entry_of (map unsigned old) (made_by ts) ∙ ap (λ (l : List E). l ++ map entry_of (made_by ts)) (entries_unsigned old)

  -- who made an entry of the turns
  abbrev HasMaker : Made E → Type 0
  HasMaker m = (n : List ℕ) × (m.by ≡ Some n)

  made_in_maker : (n : List ℕ) (x : Option E) (q : ℕ) (m : Made E) → get_elem? (made_in n x) q ≡ some m → m.by ≡ Some n
  made_in_maker n None q m e = absurd (some-ne-none m (sym e))
  made_in_maker n (Some x) q m e = ap (λ (k : Made E). k.by) (sym (at_one (signed n x) q m e).1)

  made_by_maker : (ts : List (Turn E)) (q : ℕ) (m : Made E) → get_elem? (made_by ts) q ≡ some m → HasMaker m
  made_by_maker [] q m e = absurd (some-ne-none m (sym e))
  made_by_maker (t ∷ ts) q m e = ⊎_elim
      (λ (l : get_elem? (made_in t.by t.entry) q ≡ some m). (t.by, made_in_maker t.by t.entry q m l))
      (λ r. made_by_maker ts r.0 m r.2)
      (at_split (made_in t.by t.entry) (made_by ts) q m e)

  pub unsigned_maker : (xs : List E) (p : ℕ) (m : Made E) → get_elem? (map unsigned xs) p ≡ some m → (m.by ≡ None) × (p < length xs)
  unsigned_maker [] p m e = absurd (some-ne-none m (sym e))
  unsigned_maker (x ∷ xs) zero m e = (ap (λ (k : Made E). k.by) (sym (some-injective (unsigned x) m e)), omega arith)
  unsigned_maker (x ∷ xs) (suc p) m e = let h = unsigned_maker xs p m e in (h.0, (let k = h.1 in omega arith))

  pub made_in_by : (n : List ℕ) (x : Option E) (q : ℕ) (m : Made E) → get_elem? (made_in n x) q ≡ some m → m.by ≡ Some n
  made_in_by n x q m e = made_in_maker n x q m e

  pub log_maker : (old : List E) (ts : List (Turn E)) (p : ℕ) (m : Made E) → get_elem? (log_of old ts) p ≡ some m → length old ≤ p → HasMaker m
  log_maker old ts p m e late = ⊎_elim
      (λ (l : get_elem? (map unsigned old) p ≡ some m). let h = (unsigned_maker old p m l).1 in absurd (omega arith))
      (λ r. made_by_maker ts r.0 m r.2)
      (at_split (map unsigned old) (made_by ts) p m e)

-- turns that added nothing
pub idle_turns : (E : Type 0) → ℕ → List (Turn E)
idle_turns E zero = []
idle_turns E (suc n) = a_turn [] None ∷ idle_turns E n

pub idle_made : (E : Type 0) (n : ℕ) → made_by (idle_turns E n) ≡ []
unfolding idle_turns
idle_made E zero = refl
idle_made E (suc n) = idle_made E n

pub idle_count : (E : Type 0) (n : ℕ) → length (idle_turns E n) ≡ n
unfolding idle_turns
idle_count E zero = refl
idle_count E (suc n) = ap suc (idle_count E n)
