-- How far the reading of a list has come, and what it answers.
use Rattle.std.proofs.Common.{◌≡◌, ℕ, ◌+◌, ◌≤◌, ◌<◌, ◌==◌, Bool, true, false, ◌⊎◌, inl, inr, List, [], ◌∷◌, ◌++◌, length, take, drop, get_or, Option, Some, None, IfSome, Result, Ok, Err, refl, sym, ap, ◌∙◌, subst, append_assoc, length-append, length-take-le, arith}
use Rattle.std.proofs.lemmas.Bool.{cases_eq, eqb-true, eqb-false}
use Rattle.wire_form.specs.Payloads.{IsFaultPlace, start}
use Rattle.wire_form.proofs.Joined.{map_found_ok, map_found_err}
use Rattle.wire_form.proofs.Payloads.{fault_place}
use Rattle.result_sets.specs.Faults.{malformed_at, in_payload}
use Rattle.result_sets.specs.Layout.{column_count, column, ending, row}
use Rattle.result_sets.specs.Reading.{line, SpellsLine, nothing_read, taken, taken_by, column_or_middle, with_columns, with_column, with_middle, with_line, Ends, EndsBy}
use Rattle.result_sets.specs.Table.{Each, tabulates, FitsBehind, IsFirstMisfit, IsReadTable}
use Rattle.result_sets.specs.Table.IsFirstMisfit.{misfit, too_many, too_few}
use Rattle.result_sets.specs.declared.fault.PayloadFault.{PayloadFault}
use Rattle.result_sets.specs.declared.fault.PayloadFault.TheVariants as payload
use Rattle.result_sets.specs.declared.fault.TableFault.{TableFault}
use Rattle.result_sets.specs.declared.fault.TableFault.TheVariants.{Malformed, Memory}
use Rattle.result_sets.specs.declared.reading.Awaited.{Awaited}
use Rattle.result_sets.specs.declared.reading.Awaited.TheVariants.{Count, Columns, Rows, Nothing}
use Rattle.result_sets.specs.declared.reading.Progress.{Progress}
use Rattle.result_sets.specs.declared.table.Column.{Column}
use Rattle.result_sets.specs.declared.table.Cell.{Cell}
use Rattle.result_sets.specs.declared.table.Table.{Table}
use Rattle.result_sets.proofs.Awaited.{Awaits, misfit_at, too_few_at, count_awaited, column_awaited, middle_awaited, line_awaited}
use Rattle.result_sets.proofs.Lawful.{column_count-lawful, column-lawful, ending-lawful}
use Rattle.result_sets.proofs.Lines.{line-lawful}
use Rattle.result_sets.proofs.Listed.{each_push, Parted, parted, Parts, parts_of, none_further, some_columns, same_count, one_table, ColumnsAndLines}
use Rattle.result_sets.proofs.Steps.{one_taken, parted_at}

-- the number of columns, and some columns
pub record InColumns (n : ℕ) (so_far : Progress) (done : List (List ℕ)) : Type 0 where
  count : List ℕ
  columns : List (List ℕ)
  split : done ≡ count ∷ columns
  count_spelled : column_count.Spells n count
  each : Each column.Spells so_far.columns columns
  within : length so_far.columns ≤ n
  no_rows : so_far.rows ≡ []

-- the number of columns, the columns, EOF, and some rows
pub record InRows (so_far : Progress) (done : List (List ℕ)) : Type 0 where
  count : List ℕ
  columns : List (List ℕ)
  middle : List ℕ
  rows : List (List ℕ)
  split : done ≡ count ∷ (columns ++ middle ∷ rows)
  count_spelled : column_count.Spells (length so_far.columns) count
  each : Each column.Spells so_far.columns columns
  middle_spelled : ending.Spells tt middle
  rows_each : Each (row (length so_far.columns)).Spells so_far.rows rows

pub table_of : Progress → Table
table_of so_far = record { columns = so_far.columns; rows = so_far.rows }

pub ReachedBy : Awaited → Progress → List (List ℕ) → Type 0
ReachedBy Count so_far done = (done ≡ []) × (so_far.columns ≡ []) × (so_far.rows ≡ [])
ReachedBy (Columns n) so_far done = InColumns n so_far done
ReachedBy Rows so_far done = InRows so_far done
ReachedBy Nothing so_far done = tabulates (table_of so_far) done

abbrev pub Reached : Progress → List (List ℕ) → Type 0
Reached so_far done = ReachedBy so_far.awaited so_far done

pub at_first : (so_far : Progress) → so_far ≡ nothing_read → Reached so_far []
unfolding ReachedBy
at_first so_far e = subst (λ (p : Progress). Reached p []) (sym e) (refl, refl, refl)

-- ## A payload that fits

columns_reached : (so_far : Progress) (done : List (List ℕ)) (p : List ℕ) (n : ℕ) → ReachedBy Count so_far done → column_count.Spells n p → Reached (with_columns so_far n) (done ++ p ∷ [])
unfolding ReachedBy
columns_reached so_far done p n r s = record {
  count = p;
  columns = [];
  split = ap (λ (w : List (List ℕ)). w ++ p ∷ []) r.0;
  count_spelled = s;
  each = subst (λ (cs : List Column). Each column.Spells cs []) (sym r.1) tt;
  within = omega (arith, ap length r.1);
  no_rows = r.2;
}

column_reached : (so_far : Progress) (done : List (List ℕ)) (p : List ℕ) (n : ℕ) (v : Column) → so_far.awaited ≡ Columns n → InColumns n so_far done → length so_far.columns < n →
    column.Spells v p → Reached (with_column so_far v) (done ++ p ∷ [])
unfolding ReachedBy
column_reached so_far done p n v e r fewer s = subst (λ (a : Awaited). ReachedBy a (with_column so_far v) (done ++ p ∷ [])) (sym e)
    (record {
      count = r.count;
      columns = r.columns ++ p ∷ [];
      split = ap (λ (w : List (List ℕ)). w ++ p ∷ []) r.split;
      count_spelled = r.count_spelled;
      each = each_push column.Spells so_far.columns r.columns v p r.each s;
      within = omega (arith, fewer, length-append so_far.columns (v ∷ []));
      no_rows = r.no_rows;
    })

middle_reached : (so_far : Progress) (done : List (List ℕ)) (p : List ℕ) (n : ℕ) → InColumns n so_far done → length so_far.columns ≡ n → ending.Spells tt p →
    Reached (with_middle so_far tt) (done ++ p ∷ [])
unfolding ReachedBy
middle_reached so_far done p n r all s = record {
  count = r.count;
  columns = r.columns;
  middle = p;
  rows = [];
  split = ap (λ (w : List (List ℕ)). w ++ p ∷ []) r.split;
  count_spelled = subst (λ (k : ℕ). column_count.Spells k r.count) (sym all) r.count_spelled;
  each = r.each;
  middle_spelled = s;
  rows_each = subst (λ (rs : List (List Cell)). Each (row (length so_far.columns)).Spells rs []) (sym r.no_rows) tt;
}

line_reached : (so_far : Progress) (done : List (List ℕ)) (p : List ℕ) (o : Option (List Cell)) → so_far.awaited ≡ Rows → InRows so_far done →
    SpellsLine (length so_far.columns) o p → Reached (with_line so_far o) (done ++ p ∷ [])
unfolding ReachedBy table_of
line_reached so_far done p (Some cells) e r s = subst (λ (a : Awaited). ReachedBy a (with_line so_far (Some cells)) (done ++ p ∷ [])) (sym e)
    (record {
      count = r.count;
      columns = r.columns;
      middle = r.middle;
      rows = r.rows ++ p ∷ [];
      split = ap (λ (w : List (List ℕ)). w ++ p ∷ []) r.split ∙ ap (λ (w : List (List ℕ)). r.count ∷ w) (append_assoc r.columns (r.middle ∷ r.rows) (p ∷ []));
      count_spelled = r.count_spelled;
      each = r.each;
      middle_spelled = r.middle_spelled;
      rows_each = each_push (row (length so_far.columns)).Spells so_far.rows r.rows cells p r.rows_each s;
    })
line_reached so_far done p None e r s = record {
  count = r.count;
  columns = r.columns;
  middle = r.middle;
  rows = r.rows;
  last = p;
  list = ap (λ (w : List (List ℕ)). w ++ p ∷ []) r.split ∙ ap (λ (w : List (List ℕ)). r.count ∷ w) (append_assoc r.columns (r.middle ∷ r.rows) (p ∷ []));
  count_spelled = r.count_spelled;
  columns_spelled = r.each;
  middle_spelled = r.middle_spelled;
  rows_spelled = r.rows_each;
  last_spelled = s;
}

module _ (so_far after : Progress) (done : List (List ℕ)) (p : List ℕ) where
  column_or_middle_reached : (n : ℕ) (b : Bool) → (length so_far.columns == n) ≡ b → so_far.awaited ≡ Columns n → InColumns n so_far done → column_or_middle b so_far p ≡ Ok after →
      Reached after (done ++ p ∷ [])
  column_or_middle_reached n true test e r f =
      let q = map_found_ok (with_middle so_far) (ending.read (start p)) after f in
      subst (λ (h : Progress). Reached h (done ++ p ∷ [])) q.2
      (middle_reached so_far done p n r (eqb-true (length so_far.columns) n test) (ending-lawful.found (start p) tt q.1))
  column_or_middle_reached n false test e r f =
      let q = map_found_ok (with_column so_far) (column.read (start p)) after f in
      subst (λ (h : Progress). Reached h (done ++ p ∷ [])) q.2
      (column_reached so_far done p n q.0 e r (fewer (eqb-false (length so_far.columns) n test) r.within) (column-lawful.found (start p) q.0 q.1))
    where
      fewer : (length so_far.columns ≡ n → ⊥) → length so_far.columns ≤ n → length so_far.columns < n
      fewer differ within = omega (arith, differ, within)

  reached_by : (a : Awaited) → so_far.awaited ≡ a → ReachedBy a so_far done → taken_by a so_far p ≡ Ok after → Reached after (done ++ p ∷ [])
  unfolding ReachedBy line
  reached_by Count e r f =
      let q = map_found_ok (with_columns so_far) (column_count.read (start p)) after f in
      subst (λ (h : Progress). Reached h (done ++ p ∷ [])) q.2 (columns_reached so_far done p q.0 r (column_count-lawful.found (start p) q.0 q.1))
  reached_by (Columns n) e r f = column_or_middle_reached n (length so_far.columns == n) refl e r f
  reached_by Rows e r f =
      let q = map_found_ok (with_line so_far) ((line (length so_far.columns)).read (start p)) after f in
      subst (λ (h : Progress). Reached h (done ++ p ∷ [])) q.2
      (line_reached so_far done p q.0 e r ((line-lawful (length so_far.columns) (some_columns (length so_far.columns) r.count r.count_spelled)).found (start p) q.0 q.1))
  reached_by Nothing e r f = absurd cc

  one_more : Reached so_far done → taken so_far p ≡ Ok after → Reached after (done ++ p ∷ [])
  unfolding taken
  one_more r f = reached_by so_far.awaited refl r f

-- ## A payload that doesn't fit

module _ (so_far : Progress) (done : List (List ℕ)) (p : List ℕ) (others : List (List ℕ)) (at : ℕ) where
  misfit_behind : {A : Type 0} (S : A → List ℕ → Type 0) (front : List (List ℕ)) → done ≡ front → Awaits S front → IsFaultPlace S p at → IsFirstMisfit (done ++ p ∷ others) (length done) at
  misfit_behind S front e is f = subst (λ (d : List (List ℕ)). IsFirstMisfit (d ++ p ∷ others) (length d) at) (sym e) (misfit_at S front is p others at f)

  column_or_middle_refused : (n : ℕ) (b : Bool) → (length so_far.columns == n) ≡ b → InColumns n so_far done → column_or_middle b so_far p ≡ Err at → IsFirstMisfit (done ++ p ∷ others) (length done) at
  column_or_middle_refused n true test r f =
      misfit_behind ending.Spells (r.count ∷ r.columns) r.split
      (middle_awaited n r.count r.columns so_far.columns r.count_spelled r.each r.within (eqb-true (length so_far.columns) n test))
      (fault_place ending ending-lawful p at (map_found_err (with_middle so_far) (ending.read (start p)) at f))
  column_or_middle_refused n false test r f =
      misfit_behind column.Spells (r.count ∷ r.columns) r.split
      (column_awaited n r.count r.columns so_far.columns r.count_spelled r.each r.within (fewer (eqb-false (length so_far.columns) n test) r.within))
      (fault_place column column-lawful p at (map_found_err (with_column so_far) (column.read (start p)) at f))
    where
      fewer : (length so_far.columns ≡ n → ⊥) → length so_far.columns ≤ n → length so_far.columns < n
      fewer differ within = omega (arith, differ, within)

  nothing_behind : (t : Table) → tabulates t done → (v : Table × List (List ℕ)) (q : List ℕ) → FitsBehind done v q → ⊥
  nothing_behind t is v q fits =
      let a : Parted t done = parted t done is in
      let b : Parts v.0 a.count (a.rest ++ q ∷ v.1) = parts_of v.0 a.count (a.rest ++ q ∷ v.1) (subst (λ (d : List (List ℕ)). tabulates v.0 (d ++ q ∷ v.1)) a.split fits) in
      let n : length t.columns ≡ length v.0.columns = same_count (length t.columns) (length v.0.columns) a.count a.parts.count_spelled b.count_spelled in
      none_further (length t.columns) (some_columns (length t.columns) a.count a.parts.count_spelled) t.columns v.0.columns t.rows v.0.rows a.rest q v.1 n a.parts.behind
      (subst (λ (k : ℕ). ColumnsAndLines k v.0.columns v.0.rows (a.rest ++ q ∷ v.1)) (sym n) b.behind)

  no_place : (fails : taken_by Nothing so_far p ≡ Err at) → at ≡ 0
  no_place fails = cc

  refused_by : (a : Awaited) → ReachedBy a so_far done → taken_by a so_far p ≡ Err at → IsFirstMisfit (done ++ p ∷ others) (length done) at
  unfolding ReachedBy line
  refused_by Count r f =
      misfit_behind column_count.Spells [] r.0 count_awaited
      (fault_place column_count column_count-lawful p at (map_found_err (with_columns so_far) (column_count.read (start p)) at f))
  refused_by (Columns n) r f = column_or_middle_refused n (length so_far.columns == n) refl r f
  refused_by Rows r f =
      let n : ℕ = length so_far.columns in
      misfit_behind (SpellsLine (length so_far.columns)) (r.count ∷ (r.columns ++ r.middle ∷ r.rows)) r.split
      (line_awaited (length so_far.columns) r.count r.columns so_far.columns r.count_spelled r.each (omega arith) refl r.middle r.rows so_far.rows r.middle_spelled r.rows_each)
      (fault_place (line (length so_far.columns)) (line-lawful (length so_far.columns) (some_columns (length so_far.columns) r.count r.count_spelled)) p at
      (map_found_err (with_line so_far) ((line (length so_far.columns)).read (start p)) at f))
  refused_by Nothing r f = too_many done others p (table_of so_far) refl refl r (nothing_behind (table_of so_far) r) (no_place f)

  refused : Reached so_far done → taken so_far p ≡ Err at → IsFirstMisfit (done ++ p ∷ others) (length done) at
  unfolding taken
  refused r f = refused_by so_far.awaited r f

-- ## What is answered

read_whole : (payloads : List (List ℕ)) (t : Table) → tabulates t payloads → IsReadTable payloads (Ok t)
read_whole payloads t s = record { found = s; only = λ u is. one_table payloads t u s is; fault = tt }

no_table : (payloads : List (List ℕ)) (index at : ℕ) → IsFirstMisfit payloads index at → (t : Table) → tabulates t payloads → ⊥
no_table payloads index at (misfit before behind p split place fault) t is = fault.none (t, behind) (subst (λ (w : List (List ℕ)). tabulates t w) split is)
no_table payloads index at (too_many before behind p u split place whole none first) t is = none (t, behind) p (subst (λ (w : List (List ℕ)). tabulates t w) split is)
no_table payloads index at (too_few v p fits none place first) t is = none t is

read_misfit : (payloads : List (List ℕ)) (index at : ℕ) → IsFirstMisfit payloads index at → IsReadTable payloads (Err (Malformed index at))
read_misfit payloads index at f = record { found = tt; only = λ t is. absurd (no_table payloads index at f t is); fault = f }

read_nothing : (payloads : List (List ℕ)) → IsReadTable payloads (Err Memory)
read_nothing payloads = record { found = tt; only = λ t is. refl; fault = tt }

-- ## The end of the list

module _ (so_far : Progress) (done : List (List ℕ)) where
  too_few_behind : (front : List (List ℕ)) → done ≡ front → IsFirstMisfit front (length front) 0 → IsReadTable done (Err (Malformed (length done) 0))
  too_few_behind front e f = read_misfit done (length done) 0 (subst (λ (d : List (List ℕ)). IsFirstMisfit d (length d) 0) (sym e) f)

  columns_end : (n : ℕ) → InColumns n so_far done → ((length so_far.columns ≡ n) ⊎ (length so_far.columns ≡ n → ⊥)) → IsReadTable done (Err (Malformed (length done) 0))
  columns_end n r (inl all) =
      too_few_behind (r.count ∷ r.columns) r.split
      (too_few_at ending.Spells (r.count ∷ r.columns) (middle_awaited n r.count r.columns so_far.columns r.count_spelled r.each r.within all) ending-lawful.begins)
  columns_end n r (inr differ) =
      let fewer : length so_far.columns < n = omega (arith, differ, r.within) in
      too_few_behind (r.count ∷ r.columns) r.split
      (too_few_at column.Spells (r.count ∷ r.columns) (column_awaited n r.count r.columns so_far.columns r.count_spelled r.each r.within fewer) column-lawful.begins)

  rows_end : InRows so_far done → IsReadTable done (Err (Malformed (length done) 0))
  unfolding line
  rows_end r =
      too_few_behind (r.count ∷ (r.columns ++ r.middle ∷ r.rows)) r.split
      (too_few_at (SpellsLine (length so_far.columns)) (r.count ∷ (r.columns ++ r.middle ∷ r.rows))
      (line_awaited (length so_far.columns) r.count r.columns so_far.columns r.count_spelled r.each (omega arith) refl r.middle r.rows so_far.rows r.middle_spelled r.rows_each)
      (line-lawful (length so_far.columns) (some_columns (length so_far.columns) r.count r.count_spelled)).begins)

  ended_by : (a : Awaited) (result : Result Table TableFault) → ReachedBy a so_far done → EndsBy a so_far (length done) result → IsReadTable done result
  unfolding ReachedBy table_of
  ended_by Count result r e = subst (λ (x : Result Table TableFault). IsReadTable done x) (sym e)
      (too_few_behind [] r.0 (too_few_at column_count.Spells [] count_awaited column_count-lawful.begins))
  ended_by (Columns n) result r e = subst (λ (x : Result Table TableFault). IsReadTable done x) (sym e) (columns_end n r (cases_eq (length so_far.columns) n))
  ended_by Rows result r e = subst (λ (x : Result Table TableFault). IsReadTable done x) (sym e) (rows_end r)
  ended_by Nothing result r e = subst (λ (x : Result Table TableFault). IsReadTable done x) (sym e) (read_whole done (table_of so_far) r)

pub ended : (payloads done : List (List ℕ)) (so_far : Progress) (size : ℕ) (result : Result Table TableFault) → Reached so_far done → done ≡ payloads → size ≡ length payloads →
    Ends so_far size result → IsReadTable payloads result
ended payloads done so_far size result r all is e =
    ended_by so_far payloads so_far.awaited result (subst (λ (d : List (List ℕ)). Reached so_far d) all r)
    (subst (λ (k : ℕ). Ends so_far k result) is e)

-- ## One payload of the list

module _ (payloads : List (List ℕ)) (i : ℕ) (p : List ℕ) (h : i < length payloads) (is : p ≡ get_or payloads i p) (so_far : Progress) (r : Reached so_far (take i payloads)) where
  pub next_reached : (after : Progress) → taken so_far p ≡ Ok after → Reached after (take (i + 1) payloads)
  next_reached after f = subst (λ (d : List (List ℕ)). Reached after d) (sym (one_taken payloads i p h is)) (one_more so_far after (take i payloads) p r f)

  pub next_refused : (fault : PayloadFault) → IfSome (malformed_at fault) (λ at. taken so_far p ≡ Err at) → IsReadTable payloads (Err (in_payload fault i))
  next_refused payload.Memory f = read_nothing payloads
  next_refused (payload.Malformed at) f =
      let size : length (take i payloads) ≡ i = length-take-le i payloads (omega (arith, h)) in
      let whole : payloads ≡ take i payloads ++ p ∷ drop (i + 1) payloads = parted_at payloads i p h is in
      read_misfit payloads i at
      (subst (λ (k : ℕ). IsFirstMisfit payloads k at) size
      (subst (λ (w : List (List ℕ)). IsFirstMisfit w (length (take i payloads)) at) (sym whole)
      (refused so_far (take i payloads) p (drop (i + 1) payloads) at r f)))
