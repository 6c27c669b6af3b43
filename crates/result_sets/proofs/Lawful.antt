-- The fields and forms of a table's payloads meet their laws.
use Rattle.std.proofs.Common.{◌≡◌, ℕ, zero, suc, ◌+◌, ◌-◌, ◌<◌, ◌==◌, Bool, true, false, cond, List, [], ◌∷◌, ◌++◌, length, All, Option, Ok, Err, refl, sym, ap, ◌∙◌, subst, inl, inr, ⊎_elim, append_assoc, append-nil, length-append, ne_eqb, ◌⊎◌, arith}
use Rattle.std.proofs.lemmas.Bool.{cases_eq, eqb-true, eqb-false}
use Rattle.std.proofs.lemmas.List.Elements.{All-nil, All-cons, All-head, All-tail, All-append}
use Rattle.lg_base.specs.Fields.{little}
use Rattle.lg_base.specs.Reading.{Cursor, first}
use Rattle.wire_form.specs.Fields.{Found, and_then, lenenc, SpellsLenenc, mark, chosen, ◌▸◌}
use Rattle.wire_form.specs.Payloads.{Begins}
use Rattle.wire_form.proofs.Laws.{FoundAt, StopsAt, IsField, IsForm}
use Rattle.wire_form.proofs.Joined.{and_then_ok, and_then_err, found_as, same_found, not_found, failed_at, same_place, no_cons}
use Rattle.wire_form.proofs.Numbers.{number-lawful, bytes-lawful}
use Rattle.wire_form.proofs.Lenenc.{lenenc-lawful}
use Rattle.wire_form.proofs.Made.{made-lawful, mark-lawful, ▸-lawful, counted-lawful, chosen-lawful, already-lawful}
use Rattle.wire_form.proofs.Whole.{nothing-lawful, whole-lawful, ▹-lawful}
use Rattle.result_sets.specs.Layout.{text, text_bytes, not_zero, positive, column_count, column, ending, is_null, mark_of, null_cell, value_cell, bytes_of, cell_by, cell, cell_text, joined, parted, cells, row}
use Rattle.result_sets.specs.declared.table.Cell.{Cell}
use Rattle.result_sets.specs.declared.table.Cell.TheVariants.{Null, Value}

pub text-lawful : IsField text
text-lawful = counted-lawful lenenc lenenc-lawful

pub column-lawful : IsForm column
unfolding column
column-lawful = whole-lawful _ _ _ (▹-lawful _ _ (▸-lawful _ _ text-lawful (▸-lawful _ _ text-lawful (▸-lawful _ _ text-lawful (▸-lawful _ _ text-lawful
    (▸-lawful _ _ text-lawful (▸-lawful _ _ text-lawful (▸-lawful _ _ (mark-lawful 0x0c (omega arith))
    (▸-lawful _ _ (bytes-lawful 6) (▸-lawful _ _ (number-lawful 1) (bytes-lawful 5)))))))))) nothing-lawful)

pub ending-lawful : IsForm ending
unfolding ending
ending-lawful = whole-lawful (λ _. tt) (λ _. ((tt, 0 ∷ 0 ∷ 2 ∷ 0 ∷ []), tt)) _ (▹-lawful _ _ (▸-lawful _ _ (mark-lawful 0xfe (omega arith)) (bytes-lawful 4)) nothing-lawful)

-- ## A number that isn't 0

-- bytes of 0, and the same bytes of another number, with 1 in place of the last byte
record RaisedTail (bytes : List ℕ) : Type 0 where
  front : List ℕ
  split : bytes ≡ front ++ 0 ∷ []
  size : length (front ++ 1 ∷ []) ≡ length bytes
  raised : 0 < little (front ++ 1 ∷ [])

raise_tail : (b : ℕ) (bytes : List ℕ) → little (b ∷ bytes) ≡ 0 → RaisedTail (b ∷ bytes)
raise_tail b [] e =
    let none : b ≡ 0 = omega (arith, e) in
    record { front = []; split = ap (λ (x : ℕ). x ∷ []) none; size = refl; raised = omega arith }
raise_tail b (d ∷ bytes) e =
    let t : RaisedTail (d ∷ bytes) = raise_tail d bytes (omega (arith, e)) in
    record {
      front = b ∷ t.front;
      split = ap (λ (x : List ℕ). b ∷ x) t.split;
      size = omega (arith, t.size);
      raised = omega (arith, t.raised);
    }

raise_all : (size : ℕ) (bytes : List ℕ) → length bytes ≡ suc size → little bytes ≡ 0 → RaisedTail bytes
raise_all size [] e none = absurd (omega (arith, e))
raise_all size (b ∷ bytes) e none = raise_tail b bytes none

record Raised (bytes : List ℕ) : Type 0 where
  front : List ℕ
  split : bytes ≡ front ++ 0 ∷ []
  number : ℕ
  raised : 0 < number
  spelled : SpellsLenenc number (front ++ 1 ∷ [])

raise_behind : (b size : ℕ) (bytes : List ℕ) → length bytes ≡ suc size → little bytes ≡ 0 →
    ((n : ℕ) (t : List ℕ) → length t ≡ suc size → little t ≡ n → SpellsLenenc n (b ∷ t)) → Raised (b ∷ bytes)
raise_behind b size bytes e none spells =
    let t : RaisedTail bytes = raise_all size bytes e none in
    record {
      front = b ∷ t.front;
      split = ap (λ (x : List ℕ). b ∷ x) t.split;
      number = little (t.front ++ 1 ∷ []);
      raised = t.raised;
      spelled = spells (little (t.front ++ 1 ∷ [])) (t.front ++ 1 ∷ []) (t.size ∙ e) refl;
    }

raise : (bytes : List ℕ) → SpellsLenenc 0 bytes → Raised bytes
raise [] s = absurd s
raise (b ∷ bytes) (inl p) =
    let alone : b ∷ bytes ≡ 0 ∷ [] = ap (λ (x : ℕ). x ∷ bytes) (sym p.1) ∙ ap (λ (x : List ℕ). 0 ∷ x) p.2 in
    record { front = []; split = alone; number = 1; raised = omega arith; spelled = inl (omega arith, refl, refl) }
raise (b ∷ bytes) (inr (inl p)) = raise_behind b 1 bytes p.1 p.2 (λ n t size is. inr (inl (p.0, size, is)))
raise (b ∷ bytes) (inr (inr (inl p))) = raise_behind b 2 bytes p.1 p.2 (λ n t size is. inr (inr (inl (p.0, size, is))))
raise (b ∷ bytes) (inr (inr (inr p))) = raise_behind b 7 bytes p.1 p.2 (λ n t size is. inr (inr (inr (p.0, size, is))))

-- a list of some bytes has a last one
record Last (bytes : List ℕ) : Type 0 where
  front : List ℕ
  last : ℕ
  split : bytes ≡ front ++ last ∷ []

last_of : (b : ℕ) (bytes : List ℕ) → Last (b ∷ bytes)
last_of b [] = record { front = []; last = b; split = refl }
last_of b (d ∷ bytes) =
    let t : Last (d ∷ bytes) = last_of d bytes in
    record { front = b ∷ t.front; last = t.last; split = ap (λ (x : List ℕ). b ∷ x) t.split }

no_end : (xs : List ℕ) (x : ℕ) → xs ++ x ∷ [] ≡ [] → ⊥
no_end [] x e = no_cons x [] (sym e)
no_end (y ∷ xs) x e = no_cons y (xs ++ x ∷ []) (sym e)

same_front : (xs ys : List ℕ) (x y : ℕ) → xs ++ x ∷ [] ≡ ys ++ y ∷ [] → xs ≡ ys
same_front [] [] x y e = refl
same_front [] (b ∷ ys) x y e = let tail : [] ≡ ys ++ y ∷ [] = cc in absurd (no_end ys y (sym tail))
same_front (a ∷ xs) [] x y e = let tail : xs ++ x ∷ [] ≡ [] = cc in absurd (no_end xs x tail)
same_front (a ∷ xs) (b ∷ ys) x y e =
    let head : a ≡ b = cc in
    let tail : xs ++ x ∷ [] ≡ ys ++ y ∷ [] = cc in
    let front : xs ≡ ys = same_front xs ys x y tail in
    cc

All-front : (P : ℕ → Type 0) (xs ys : List ℕ) → All P (xs ++ ys) → All P xs
All-front P [] ys h = All-nil P
All-front P (x ∷ xs) ys h = All-cons P x xs (All-head P x (xs ++ ys) h) (All-front P xs ys (All-tail P x (xs ++ ys) h))

-- at the front of the same bytes stands one number
same_number : (m n : ℕ) (x y u v : List ℕ) → SpellsLenenc m x → SpellsLenenc n y → x ++ u ≡ y ++ v → m ≡ n
same_number m n x y u v s t e =
    let one = lenenc-lawful.only 0 m x u s in
    let two = lenenc-lawful.only 0 n y v t in
    let three = subst (λ (w : List ℕ). lenenc.read (record { at = 0; rest = w }) ≡ Ok (m, record { at = 0 + length x; rest = u })) e one in
    (same_found m n (record { at = 0 + length x; rest = u }) (record { at = 0 + length y; rest = v }) (sym three ∙ two)).0

above_zero : (n : ℕ) → (n ≡ 0 → ⊥) → 0 < n
above_zero n some = omega (arith, some)

-- a front of a number is one of a number that isn't 0, unless it is a whole one
begins_positive : (c : Cursor) (n : ℕ) → lenenc.read c ≡ Err n → (front back : List ℕ) → c.rest ≡ front ++ back → Begins lenenc.Spells front → Begins positive.Spells front
begins_positive c n e front back split p = by_number (cases_eq p.0 0)
  where
    by_more : (more : List ℕ) → All (λ x. x < 256) more → SpellsLenenc 0 (front ++ more) → Begins positive.Spells front
    by_more [] small s =
        let one = lenenc-lawful.only c.at 0 (front ++ []) back s in
        let is : c.rest ≡ (front ++ []) ++ back = split ∙ sym (append_assoc front [] back) in
        let read = subst (λ (w : List ℕ). lenenc.read (record { at = c.at; rest = w }) ≡ Ok (0, record { at = c.at + length (front ++ []); rest = back })) (sym is) one in
        absurd (not_found 0 (record { at = c.at + length (front ++ []); rest = back }) n (sym read ∙ e))
    by_more (x ∷ more) small s =
        let t : Last (x ∷ more) = last_of x more in
        let r : Raised (front ++ x ∷ more) = raise (front ++ x ∷ more) s in
        let ends : (front ++ t.front) ++ t.last ∷ [] ≡ r.front ++ 0 ∷ [] = append_assoc front t.front (t.last ∷ []) ∙ ap (λ (w : List ℕ). front ++ w) (sym t.split) ∙ r.split in
        let same : front ++ t.front ≡ r.front = same_front (front ++ t.front) r.front t.last 0 ends in
        let all : All (λ x. x < 256) t.front = All-front (λ x. x < 256) t.front (t.last ∷ []) (subst (λ (w : List ℕ). All (λ x. x < 256) w) t.split small) in (
          r.number,
          t.front ++ 1 ∷ [],
          All-append (λ x. x < 256) t.front (1 ∷ []) all (All-cons (λ x. x < 256) 1 [] (omega arith) (All-nil (λ x. x < 256))),
          (subst (λ (w : List ℕ). SpellsLenenc r.number w) (ap (λ (w : List ℕ). w ++ 1 ∷ []) (sym same) ∙ append_assoc front t.front (1 ∷ [])) r.spelled, r.raised),
        )

    by_number : (p.0 ≡ 0) ⊎ (p.0 ≡ 0 → ⊥) → Begins positive.Spells front
    by_number (inl none) = by_more p.1 p.2 (subst (λ (k : ℕ). SpellsLenenc k (front ++ p.1)) none p.3)
    by_number (inr some) = (p.0, p.1, p.2, (p.3, above_zero p.0 some))

pub positive-lawful : IsField positive
positive-lawful = record {
  found = λ c next n e. found_in c next n (and_then_ok (lenenc.read c) not_zero (n, next) e);
  only = λ at n text rest s. ap (λ (r : Found ℕ). and_then r not_zero) (lenenc-lawful.only at n text rest s.0) ∙ passes n (record { at = at + length text; rest = rest }) s.1;
  stops = λ c n e. ⊎_elim (λ p. stops_in_number c n p (lenenc-lawful.stops c n p)) (λ p. stops_at_zero c n p.0 p.1 p.2 p.3) (and_then_err (lenenc.read c) not_zero n e);
  written = λ n fits. (lenenc-lawful.written n fits.0, fits.1);
  begins = (1, 1 ∷ [], All-cons (λ x. x < 256) 1 [] (omega arith) (All-nil (λ x. x < 256)), (inl (omega arith, refl, refl), omega arith));
}
  where
    passes : (n : ℕ) (next : Cursor) → 0 < n → not_zero n next ≡ found_as n next
    passes n next some = ap (λ (b : Bool). cond b (failed_at (next.at - 1)) (found_as n next)) (ne_eqb n 0 (λ e. omega (arith, e, some)))

    after_test : (b : Bool) (m n : ℕ) (d next : Cursor) → cond b (failed_at (d.at - 1)) (found_as m d) ≡ found_as n next → (b ≡ false) × (m ≡ n) × (d ≡ next)
    after_test true m n d next e = absurd (not_found n next (d.at - 1) (sym e))
    after_test false m n d next e = let same = same_found m n d next e in (refl, same.0, same.1)

    failed_test : (b : Bool) (m n : ℕ) (d : Cursor) → cond b (failed_at (d.at - 1)) (found_as m d) ≡ failed_at n → (b ≡ true) × (d.at - 1 ≡ n)
    failed_test true m n d e = (refl, same_place (d.at - 1) n e)
    failed_test false m n d e = absurd (not_found m d n e)

    not_none : (m : ℕ) → (m == 0) ≡ false → 0 < m
    not_none m e = above_zero m (eqb-false m 0 e)

    is_none : (m : ℕ) → (m == 0) ≡ true → m ≡ 0
    is_none m e = eqb-true m 0 e

    found_in : (c next : Cursor) (n : ℕ) → ((m : ℕ) × (d : Cursor) × (lenenc.read c ≡ Ok (m, d)) × (not_zero m d ≡ Ok (n, next))) → FoundAt positive.Spells c next n
    found_in c next n p =
        let same = after_test (p.0 == 0) p.0 n p.1 next p.3 in
        let t : FoundAt lenenc.Spells c p.1 p.0 = lenenc-lawful.found c p.1 p.0 p.2 in
        subst (λ (d : Cursor). FoundAt positive.Spells c d n) same.2
        (subst (λ (m : ℕ). FoundAt positive.Spells c p.1 m) same.1
        (record { text = t.text; spelled = (t.spelled, not_none p.0 same.0); split = t.split; place = t.place }))

    stops_in_number : (c : Cursor) (n : ℕ) → lenenc.read c ≡ Err n → StopsAt lenenc.Spells c n → StopsAt positive.Spells c n
    stops_in_number c n e s = record {
      front = s.front;
      back = s.back;
      split = s.split;
      place = s.place;
      begins = begins_positive c n e s.front s.back s.split s.begins;
      no_further = λ b bs is a more spelled. s.no_further b bs is a more spelled.0;
    }

    head_of : (b : ℕ) (xs bs : List ℕ) → 0 ∷ xs ≡ b ∷ bs → 0 ≡ b
    head_of b xs bs e = cc

    stops_at_zero : (c : Cursor) (n m : ℕ) (d : Cursor) → lenenc.read c ≡ Ok (m, d) → not_zero m d ≡ Err n → StopsAt positive.Spells c n
    stops_at_zero c n m d e f =
        let test = failed_test (m == 0) m n d f in
        let t : FoundAt lenenc.Spells c d m = lenenc-lawful.found c d m e in
        let zero_spelled : SpellsLenenc 0 t.text = subst (λ (k : ℕ). SpellsLenenc k t.text) (is_none m test.0) t.spelled in
        let r : Raised t.text = raise t.text zero_spelled in
        record {
          front = r.front;
          back = 0 ∷ d.rest;
          split = t.split ∙ ap (λ (w : List ℕ). w ++ d.rest) r.split ∙ append_assoc r.front (0 ∷ []) d.rest;
          place = omega (arith, test.1, t.place, ap length r.split, length-append r.front (0 ∷ []));
          begins = (r.number, 1 ∷ [], All-cons (λ x. x < 256) 1 [] (omega arith) (All-nil (λ x. x < 256)), (r.spelled, r.raised));
          no_further = λ b bs is a more s. refused t.text r.front more b a zero_spelled r.split (head_of b d.rest bs is) s.0 s.1;
        }
      where
        refused : (whole front more : List ℕ) (b a : ℕ) → SpellsLenenc 0 whole → whole ≡ front ++ 0 ∷ [] → 0 ≡ b → SpellsLenenc a (front ++ b ∷ more) → 0 < a → ⊥
        refused whole front more b a none split is spelled some =
            let same : whole ++ more ≡ (front ++ b ∷ more) ++ [] =
            ap (λ (w : List ℕ). w ++ more) split ∙ append_assoc front (0 ∷ []) more ∙ ap (λ (x : ℕ). front ++ x ∷ more) is
            ∙ sym (append-nil (front ++ b ∷ more)) in
            omega (arith, same_number 0 a whole (front ++ b ∷ more) more [] none spelled same, some)

pub column_count-lawful : IsForm column_count
unfolding column_count
column_count-lawful = whole-lawful (λ p. p.0) (λ n. (n, tt)) _ (▹-lawful positive _ positive-lawful nothing-lawful)

-- ## A cell

cell_by-lawful : (o : Option ℕ) → IsField (cell_by o)
cell_by-lawful o = chosen-lawful (is_null o) null_cell value_cell
    (made-lawful (λ _. Null) (λ _. tt) (mark 0xfb) (mark-lawful 0xfb (omega arith)))
    (made-lawful Value bytes_of text text-lawful)

-- a cell has a first byte
some_first : (b : Bool) (v : Cell) (bytes : List ℕ) → (chosen b null_cell value_cell).Spells v bytes → (x : ℕ) × (xs : List ℕ) × (bytes ≡ x ∷ xs)
some_first true v bytes s = (s.1.0, [], s.1.1.0)
some_first false v bytes s = behind s.1.1.0 s.1.1.1 s.1.1.2 s.1.1.4
  where
    behind : (front back : List ℕ) → SpellsLenenc s.1.0.0 front → bytes ≡ front ++ back → (x : ℕ) × (xs : List ℕ) × (bytes ≡ x ∷ xs)
    behind [] back t e = absurd t
    behind (x ∷ front) back t e = (x, front ++ back, e)

first_stays : (bytes rest : List ℕ) → ((x : ℕ) × (xs : List ℕ) × (bytes ≡ x ∷ xs)) → first bytes ≡ first (bytes ++ rest)
first_stays bytes rest p = ap first p.2 ∙ sym (ap (λ (w : List ℕ). first (w ++ rest)) p.2)

cell_written : (b : Bool) (v : List ℕ) → (chosen b null_cell value_cell).Fits (Value v) → (chosen b null_cell value_cell).write (Value v) ≡ text_bytes v
cell_written true v fits = let wrong = fits.1 in absurd cc
cell_written false v fits = refl

pub cell-lawful : IsField cell
unfolding cell cell_text
cell-lawful = record {
  found = λ c next v e. found_in c next v ((cell_by-lawful (first c.rest)).found c next v e);
  only = λ at v bytes rest s.
      subst (λ (o : Option ℕ). (cell_by o).read (record { at = at; rest = bytes ++ rest }) ≡ found_as v (record { at = at + length bytes; rest = rest }))
      (first_stays bytes rest (some_first (is_null (first bytes)) v bytes s)) ((cell_by-lawful (first bytes)).only at v bytes rest s);
  stops = λ c n e. stops_in c n ((cell_by-lawful (first c.rest)).stops c n e);
  written = written;
  begins = null_begins;
}
  where
    null_begins : Begins cell.Spells []
    null_begins = (Null, 0xfb ∷ [], All-cons (λ x. x < 256) 0xfb [] (omega arith) (All-nil (λ x. x < 256)), (tt, (0xfb, (refl, refl), refl), refl))

    found_in : (c next : Cursor) (v : Cell) → FoundAt (cell_by (first c.rest)).Spells c next v → FoundAt cell.Spells c next v
    found_in c next v t =
        let same : first c.rest ≡ first t.text = ap first t.split ∙ sym (first_stays t.text next.rest (some_first (is_null (first c.rest)) v t.text t.spelled)) in
        record { text = t.text; spelled = subst (λ (o : Option ℕ). (cell_by o).Spells v t.text) same t.spelled; split = t.split; place = t.place }

    written : (v : Cell) → cell.Fits v → cell.Spells v (cell.write v)
    written Null fits = (tt, (0xfb, (refl, refl), refl), refl)
    written (Value v) fits =
        subst (λ (o : Option ℕ). (cell_by o).Spells (Value v) (text_bytes v)) (sym fits.1)
        (subst (λ (w : List ℕ). (cell_by (mark_of (Value v))).Spells (Value v) w) (cell_written (is_null (mark_of (Value v))) v fits.0)
        ((cell_by-lawful (mark_of (Value v))).written (Value v) fits.0))

    stops_at : (c : Cursor) (n : ℕ) (front back : List ℕ) → c.rest ≡ front ++ back → n ≡ c.at + length front → Begins (cell_by (first c.rest)).Spells front →
        ((b : ℕ) (bs : List ℕ) → back ≡ b ∷ bs → (v : Cell) (more : List ℕ) → (cell_by (first c.rest)).Spells v (front ++ b ∷ more) → ⊥) →
        StopsAt cell.Spells c n
    stops_at c n [] back split place begun ends = record {
      front = [];
      back = back;
      split = split;
      place = place;
      begins = null_begins;
      no_further = λ b bs e v more s. ends b bs e v more (subst (λ (o : Option ℕ). (cell_by o).Spells v (b ∷ more)) (sym (ap first (split ∙ e))) s);
    }
    stops_at c n (x ∷ front) back split place begun ends = record {
      front = x ∷ front;
      back = back;
      split = split;
      place = place;
      begins = (begun.0, begun.1, begun.2, subst (λ (o : Option ℕ). (cell_by o).Spells begun.0 (x ∷ front ++ begun.1)) (ap first split) begun.3);
      no_further = λ b bs e v more s. ends b bs e v more (subst (λ (o : Option ℕ). (cell_by o).Spells v (x ∷ (front ++ b ∷ more))) (sym (ap first split)) s);
    }

    stops_in : (c : Cursor) (n : ℕ) → StopsAt (cell_by (first c.rest)).Spells c n → StopsAt cell.Spells c n
    stops_in c n s = stops_at c n s.front s.back s.split s.place s.begins s.no_further

-- ## A row

pub cells-lawful : (n : ℕ) → IsField (cells n)
cells-lawful zero = already-lawful []
cells-lawful (suc n) = made-lawful joined parted (cell ▸ cells n) (▸-lawful cell (cells n) cell-lawful (cells-lawful n))

pub row-lawful : (n : ℕ) → IsForm (row n)
unfolding row
row-lawful n = whole-lawful (λ p. p.0) (λ v. (v, tt)) _ (▹-lawful (cells n) _ (cells-lawful n) nothing-lawful)
