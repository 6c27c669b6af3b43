-- A row, or EOF: no payload is both, and the form of either meets its laws.
use Rattle.std.proofs.Common.{◌≡◌, ℕ, zero, suc, ◌≤◌, ◌<◌, ◌==◌, Bool, true, false, IsTrue, List, [], ◌∷◌, ◌++◌, length, replicate, Option, Some, None, Result, Ok, Err, refl, sym, ap, ◌∙◌, subst, inl, inr, append_assoc, append-nil, length-append, arith}
use Rattle.std.proofs.lemmas.Bool.{eqb-true}
use Rattle.std.proofs.lemmas.List.{length-replicate}
use Rattle.lg_base.specs.Fields.{little}
use Rattle.lg_base.specs.Reading.{Cursor, first}
use Rattle.wire_form.specs.Fields.{SpellsLenenc, chosen}
use Rattle.wire_form.specs.Payloads.{Begins}
use Rattle.wire_form.proofs.Laws.{StopsAt, IsForm}
use Rattle.wire_form.proofs.Joined.{map_found_ok, map_found_err}
use Rattle.wire_form.proofs.Whole.{value_as, fault_as, no_fault}
use Rattle.result_sets.specs.Layout.{ending, null_cell, value_cell, is_null, cell, cells, row}
use Rattle.result_sets.specs.Reading.{line, line_from, SpellsLine}
use Rattle.result_sets.specs.declared.table.Cell.{Cell}
use Rattle.result_sets.specs.declared.table.Cell.TheVariants.{Value}
use Rattle.result_sets.proofs.Lawful.{ending-lawful, cells-lawful, row-lawful}

same_head : (x y : ℕ) (xs ys : List ℕ) → x ∷ xs ≡ y ∷ ys → x ≡ y
same_head x y xs ys e = cc

same_tail : (x y : ℕ) (xs ys : List ℕ) → x ∷ xs ≡ y ∷ ys → xs ≡ ys
same_tail x y xs ys e = cc

-- ## EOF has five bytes, a row that begins as it nine at least

record FiveBytes (payload : List ℕ) : Type 0 where
  tail : List ℕ
  split : payload ≡ 0xfe ∷ tail
  size : length tail ≡ 4

five_bytes : (payload : List ℕ) → ending.Spells tt payload → FiveBytes payload
unfolding ending
five_bytes payload s = of_parts s.0.0.1 s.1.0 s.1.1 s.1.2.0 s.1.2.1 s.1.2.2.0 s.1.2.2.1.0 (is_byte s.1.2.2.0 s.1.2.2.1.1) s.1.2.3.0 s.1.2.3.1 s.1.2.4 s.1.3 s.1.4
  where
    is_byte : (b : ℕ) → IsTrue (b == 0xfe) → b ≡ 0xfe
    is_byte b e = eqb-true b 0xfe e

    of_parts : (v front back marked bytes : List ℕ) (b : ℕ) → marked ≡ b ∷ [] → b ≡ 0xfe → length v ≡ 4 → bytes ≡ v → front ≡ marked ++ bytes → back ≡ [] →
        payload ≡ front ++ back → FiveBytes payload
    of_parts v front back marked bytes b one is size same joined none split = record {
      tail = v;
      split = split ∙ ap (λ (w : List ℕ). front ++ w) none ∙ append-nil front ∙ joined ∙ ap (λ (w : List ℕ). marked ++ w) same
          ∙ ap (λ (w : List ℕ). w ++ v) one ∙ ap (λ (x : ℕ). x ∷ v) is;
      size = size;
    }

nine_of_number : (n : ℕ) (number behind tail : List ℕ) → SpellsLenenc n number → number ++ behind ≡ 0xfe ∷ tail → 8 ≤ length tail
nine_of_number n [] behind tail s e = absurd s
nine_of_number n (b ∷ number) behind tail s e =
    by_kind s (same_head b 0xfe (number ++ behind) tail e) (same_tail b 0xfe (number ++ behind) tail e)
  where
    by_kind : SpellsLenenc n (b ∷ number) → b ≡ 0xfe → number ++ behind ≡ tail → 8 ≤ length tail
    by_kind (inl p) is rest = absurd (omega (arith, p.0, is))
    by_kind (inr (inl p)) is rest = absurd (omega (arith, p.0, is))
    by_kind (inr (inr (inl p))) is rest = absurd (omega (arith, p.0, is))
    by_kind (inr (inr (inr p))) is rest = omega (arith, p.1, ap length rest, length-append number behind)

nine_of_cell : (b : Bool) (v : Cell) (bytes behind tail : List ℕ) → (chosen b null_cell value_cell).Spells v bytes → bytes ++ behind ≡ 0xfe ∷ tail → 8 ≤ length tail
nine_of_cell true v bytes behind tail s e =
    let one : s.1.0 ∷ behind ≡ 0xfe ∷ tail = ap (λ (w : List ℕ). w ++ behind) (sym s.1.1.0) ∙ e in
    let is : s.1.0 ≡ 0xfb = eqb-true s.1.0 0xfb s.1.1.1 in
    absurd (omega (arith, is, same_head s.1.0 0xfe behind tail one))
nine_of_cell false v bytes behind tail s e =
    nine_of_number s.1.0.0 s.1.1.0 (s.1.1.1 ++ behind) tail s.1.1.2
    (sym (append_assoc s.1.1.0 s.1.1.1 behind) ∙ ap (λ (w : List ℕ). w ++ behind) (sym s.1.1.4) ∙ e)

nine_of_row : (n : ℕ) (v : List Cell) (tail : List ℕ) → (row (suc n)).Spells v (0xfe ∷ tail) → 8 ≤ length tail
unfolding row cell
nine_of_row n v tail s =
    let inner = s.1.2.1 in
    nine_of_cell (is_null (first inner.0)) s.1.2.0.0 inner.0 (inner.1 ++ s.1.1) tail inner.2
    (sym (append_assoc inner.0 inner.1 s.1.1) ∙ ap (λ (w : List ℕ). w ++ s.1.1) (sym inner.4) ∙ sym s.1.4)

pub not_both : (n : ℕ) (v : List Cell) (payload : List ℕ) → 0 < n → (row n).Spells v payload → ending.Spells tt payload → ⊥
not_both zero v payload some s t = omega (arith, some)
not_both (suc n) v payload some s t =
    let five : FiveBytes payload = five_bytes payload t in
    omega (arith, five.size, nine_of_row n v five.tail (subst (λ (w : List ℕ). (row (suc n)).Spells v w) five.split s))

-- ## EOF goes on to a row

record RowBehind (n : ℕ) (bytes : List ℕ) : Type 0 where
  more : List ℕ
  value : List Cell
  spelled : (row n).Spells value (bytes ++ more)

zeros : List ℕ
zeros = 0 ∷ 0 ∷ 0 ∷ 0 ∷ []

row_behind : (n : ℕ) (tail : List ℕ) → length tail ≡ 4 → RowBehind (suc n) (0xfe ∷ tail)
unfolding row cell zeros
row_behind n tail size =
    let length_text : List ℕ = 0xfe ∷ (tail ++ zeros) in
    let value : List ℕ = replicate (little (tail ++ zeros)) 0 in
    let others : Begins (cells n).Spells [] = (cells-lawful n).begins in
    let number : SpellsLenenc (little (tail ++ zeros)) length_text = inr (inr (inr (refl, omega (arith, size, length-append tail zeros), refl))) in
    let laid : 0xfe ∷ (tail ++ (zeros ++ (value ++ others.1))) ≡ ((length_text ++ value) ++ others.1) ++ [] =
    sym (append-nil ((length_text ++ value) ++ others.1) ∙ append_assoc length_text value others.1 ∙ ap (λ (w : List ℕ). 0xfe ∷ w) (append_assoc tail zeros (value ++ others.1))) in
    record {
      more = zeros ++ (value ++ others.1);
      value = Value value ∷ others.0;
      spelled = (
        (Value value ∷ others.0, tt),
        (
          (length_text ++ value) ++ others.1,
          [],
          (
            (Value value, others.0),
            (
              length_text ++ value,
              others.1,
              (value, ((little (tail ++ zeros), value), (length_text, value, number, (length-replicate (little (tail ++ zeros)) 0, refl), refl), refl), refl),
              others.3,
              refl,
            ),
            refl,
          ),
          refl,
          laid,
        ),
        refl,
      );
    }

-- ## The laws

same_line : (a b : Option (List Cell)) → value_as a ≡ value_as b → a ≡ b
same_line a b e = cc

pub line-lawful : (n : ℕ) → 0 < n → IsForm (line n)
unfolding line
line-lawful zero some = absurd (omega (arith, some))
line-lawful (suc m) some = record {
  found = λ c o e. found_in c o (ending.read c) refl e;
  only = λ c o s. only_in c o s;
  stops = λ c k e. stops_in c k (ending.read c) refl e;
  written = written;
  begins = (None, ending-lawful.begins.1, ending-lawful.begins.2, ending-lawful.begins.3);
}
  where
    found_in : (c : Cursor) (o : Option (List Cell)) (r : Result (Unit {0}) ℕ) → ending.read c ≡ r → line_from r ((row (suc m)).read c) ≡ value_as o → SpellsLine (suc m) o c.rest
    found_in c o (Ok u) e f = subst (λ (x : Option (List Cell)). SpellsLine (suc m) x c.rest) (same_line None o f) (ending-lawful.found c tt e)
    found_in c o (Err k) e f =
        let p = map_found_ok (λ (v : List Cell). Some v) ((row (suc m)).read c) o f in
        subst (λ (x : Option (List Cell)). SpellsLine (suc m) x c.rest) p.2 ((row-lawful (suc m)).found c p.0 p.1)

    only_row : (c : Cursor) (v : List Cell) (r : Result (Unit {0}) ℕ) → ending.read c ≡ r → (row (suc m)).Spells v c.rest → line_from r ((row (suc m)).read c) ≡ value_as (Some v)
    only_row c v (Ok u) e s = absurd (not_both (suc m) v c.rest (omega arith) s (ending-lawful.found c tt e))
    only_row c v (Err k) e s = ap (λ (r : Result (List Cell) ℕ). line_from (Err k) r) ((row-lawful (suc m)).only c v s)

    only_in : (c : Cursor) (o : Option (List Cell)) → SpellsLine (suc m) o c.rest → (line (suc m)).read c ≡ value_as o
    only_in c (Some v) s = only_row c v (ending.read c) refl s
    only_in c None s = ap (λ (r : Result (Unit {0}) ℕ). line_from r ((row (suc m)).read c)) (ending-lawful.only c tt s)

    written : (o : Option (List Cell)) → (line (suc m)).Fits o → (line (suc m)).Spells o ((line (suc m)).write o)
    written (Some v) fits = (row-lawful (suc m)).written v fits
    written None fits = ending-lawful.written tt fits

    -- where no row goes on, no EOF does
    no_ending : (front more : List ℕ) (b : ℕ) → ((v : List Cell) (further : List ℕ) → (row (suc m)).Spells v (front ++ b ∷ further) → ⊥) → ending.Spells tt (front ++ b ∷ more) → ⊥
    no_ending front more b ends s =
        let five : FiveBytes (front ++ b ∷ more) = five_bytes (front ++ b ∷ more) s in
        let behind : RowBehind (suc m) (0xfe ∷ five.tail) = row_behind m five.tail five.size in
        ends behind.value (more ++ behind.more)
        (subst (λ (w : List ℕ). (row (suc m)).Spells behind.value w)
        (ap (λ (w : List ℕ). w ++ behind.more) (sym five.split) ∙ append_assoc front (b ∷ more) behind.more) behind.spelled)

    no_line : (front more : List ℕ) (b : ℕ) → ((v : List Cell) (further : List ℕ) → (row (suc m)).Spells v (front ++ b ∷ further) → ⊥) → (o : Option (List Cell)) →
        SpellsLine (suc m) o (front ++ b ∷ more) → ⊥
    no_line front more b ends (Some v) s = ends v more s
    no_line front more b ends None s = no_ending front more b ends s

    stops_row : (c : Cursor) (k : ℕ) → StopsAt (row (suc m)).Spells c k → StopsAt (line (suc m)).Spells c k
    stops_row c k s = record {
      front = s.front;
      back = s.back;
      split = s.split;
      place = s.place;
      begins = (Some s.begins.0, s.begins.1, s.begins.2, s.begins.3);
      no_further = λ b bs e o more spelled. no_line s.front more b (λ v further. s.no_further b bs e v further) o spelled;
    }

    stops_in : (c : Cursor) (k : ℕ) (r : Result (Unit {0}) ℕ) → ending.read c ≡ r → line_from r ((row (suc m)).read c) ≡ fault_as k → StopsAt (line (suc m)).Spells c k
    stops_in c k (Ok u) e f = absurd (no_fault None k f)
    stops_in c k (Err j) e f = stops_row c k ((row-lawful (suc m)).stops c k (map_found_err (λ (v : List Cell). Some v) ((row (suc m)).read c) k f))
