-- Which payload has to stand behind those that were read, and where one that doesn't fit is faulty.
use Rattle.std.proofs.Common.{◌≡◌, ℕ, ◌+◌, ◌-◌, ◌≤◌, ◌<◌, List, [], ◌∷◌, ◌++◌, length, take, Option, refl, sym, subst, append_assoc, append-nil, length-append, arith}
use Rattle.wire_form.specs.Payloads.{Begins, IsFaultPlace}
use Rattle.result_sets.specs.Layout.{column_count, column, ending, ending_text, row}
use Rattle.result_sets.specs.Reading.{SpellsLine}
use Rattle.result_sets.specs.Table.{Each, tabulates, FitsBehind, IsFirstMisfit}
use Rattle.result_sets.specs.Table.IsFirstMisfit.{misfit, too_few}
use Rattle.result_sets.specs.declared.table.Column.{Column}
use Rattle.result_sets.specs.declared.table.Cell.{Cell}
use Rattle.result_sets.specs.declared.table.Table.{Table}
use Rattle.result_sets.proofs.Listed.{ColumnsAndLines, Lines, Parts, parts_of, whole, further, columns_on, columns_off, lines_on, line_behind, rows_alone, some_columns, same_count}
use Rattle.result_sets.proofs.Written.{ending_spelled}

-- Behind these payloads stands just what is spelled so, and they are no table's.
pub record Awaits {A : Type 0} (S : A → List ℕ → Type 0) (done : List (List ℕ)) : Type 0 where
  pub fits : (text : List ℕ) (a : A) → S a text → (v : Table × List (List ℕ)) × FitsBehind done v text
  pub only : (text : List ℕ) (v : Table × List (List ℕ)) → FitsBehind done v text → (a : A) × S a text
  pub not_whole : (t : Table) → tabulates t done → ⊥

module _ {A : Type 0} (S : A → List ℕ → Type 0) (done : List (List ℕ)) (is : Awaits S done) where
  pub misfit_at : (payload : List ℕ) (others : List (List ℕ)) (at : ℕ) → IsFaultPlace S payload at → IsFirstMisfit (done ++ payload ∷ others) (length done) at
  misfit_at payload others at f = misfit done others payload refl refl
      (record {
        within = f.within;
        begins = fitting f.begins (is.fits (take at payload ++ f.begins.1) f.begins.0 f.begins.3);
        longest = λ n longer within p. f.longest n longer within (spelling (take n payload) p);
        none = λ v fits. refused v (is.only payload v fits);
      })
    where
      fitting : (p : Begins S (take at payload)) → ((v : Table × List (List ℕ)) × FitsBehind done v (take at payload ++ p.1)) → Begins (FitsBehind done) (take at payload)
      fitting p q = (q.0, p.1, p.2, q.1)

      spelling_of : (front more : List ℕ) → ((a : A) × S a (front ++ more)) → (p : Begins (FitsBehind done) front) → p.1 ≡ more → Begins S front
      spelling_of front more q p e = (q.0, p.1, p.2, subst (λ (w : List ℕ). S q.0 (front ++ w)) (sym e) q.1)

      spelling : (front : List ℕ) → Begins (FitsBehind done) front → Begins S front
      spelling front p = spelling_of front p.1 (is.only (front ++ p.1) p.0 p.3) p refl

      refused : (v : Table × List (List ℕ)) → ((a : A) × S a payload) → ⊥
      refused v q = f.none q.0 q.1

  pub too_few_at : Begins S [] → IsFirstMisfit done (length done) 0
  too_few_at p = let q = is.fits p.1 p.0 p.3 in too_few q.0 p.1 q.1 is.not_whole refl refl

-- ## The number of columns

table : List Column → List (List Cell) → Table
table cs rs = record { columns = cs; rows = rs }

whole_of : (n : ℕ) (cs : List Column) (rs : List (List Cell)) (count : List ℕ) (rest : List (List ℕ)) → length cs ≡ n → column_count.Spells n count →
    ColumnsAndLines n cs rs rest → tabulates (table cs rs) (count ∷ rest)
unfolding table
whole_of n cs rs count rest size s t = whole (table cs rs) count rest (record {
  count_spelled = subst (λ (k : ℕ). column_count.Spells k count) (sym size) s;
  behind = subst (λ (k : ℕ). ColumnsAndLines k cs rs rest) (sym size) t;
})

-- a table whose list begins with this number of columns
record Counted (n : ℕ) (t : Table) (rest : List (List ℕ)) : Type 0 where
  size : length t.columns ≡ n
  behind : ColumnsAndLines n t.columns t.rows rest

counted : (n : ℕ) (t : Table) (count : List ℕ) (rest : List (List ℕ)) → column_count.Spells n count → tabulates t (count ∷ rest) → Counted n t rest
counted n t count rest s is =
    let p : Parts t count rest = parts_of t count rest is in
    let size : length t.columns ≡ n = same_count (length t.columns) n count p.count_spelled s in
    record { size = size; behind = subst (λ (k : ℕ). ColumnsAndLines k t.columns t.rows rest) size p.behind }

no_payload : (count : List ℕ) (rest : List (List ℕ)) → [] ≡ count ∷ rest → ⊥
no_payload count rest e = cc

pub count_awaited : Awaits column_count.Spells []
count_awaited = record {
  fits = λ text n s. let rest = further n n in ((table rest.0 [], rest.1), whole_of n rest.0 [] text rest.1 rest.2 s rest.3);
  only = λ text v is. let p : Parts v.0 text v.1 = parts_of v.0 text v.1 is in (length v.0.columns, p.count_spelled);
  not_whole = λ t is. no_payload is.count (is.columns ++ is.middle ∷ (is.rows ++ is.last ∷ [])) is.list;
}

-- ## A column, or EOF behind the columns

module _ (n : ℕ) (count : List ℕ) (columns : List (List ℕ)) (cs : List Column) (s : column_count.Spells n count) (each : Each column.Spells cs columns) (within : length cs ≤ n) where
  -- what stands behind these columns in a table's list
  record Left (t : Table) (rest : List (List ℕ)) : Type 0 where
    left : List Column
    size : n ≡ length cs + length left
    behind : ColumnsAndLines n left t.rows rest

  left_of : (t : Table) (rest : List (List ℕ)) → tabulates t (count ∷ (columns ++ rest)) → Left t rest
  left_of t rest is =
      let p : Counted n t (columns ++ rest) = counted n t count (columns ++ rest) s is in
      let q = columns_off n cs t.columns t.rows columns rest each (omega (arith, p.size, within)) p.behind in
      record { left = q.0; size = omega (arith, p.size, q.1); behind = q.2 }

  never_whole : (t : Table) → tabulates t (count ∷ columns) → ⊥
  never_whole t is =
      let p : Left t [] = left_of t [] (subst (λ (w : List (List ℕ)). tabulates t (count ∷ w)) (sym (append-nil columns)) is) in
      p.behind

  pub column_awaited : length cs < n → Awaits column.Spells (count ∷ columns)
  column_awaited fewer = record {
    fits = λ text v t. on text v t;
    only = λ text v is. next v.0 text v.1 (left_of v.0 (text ∷ v.1) is);
    not_whole = never_whole;
  }
    where
      on : (text : List ℕ) (v : Column) → column.Spells v text → (w : Table × List (List ℕ)) × FitsBehind (count ∷ columns) w text
      on text v t =
          let rest = further n (n - length cs - 1) in
          let size : length (cs ++ v ∷ rest.0) ≡ n = omega (arith, fewer, rest.2, length-append cs (v ∷ rest.0)) in (
            (table (cs ++ v ∷ rest.0) [], rest.1),
            whole_of n (cs ++ v ∷ rest.0) [] count (columns ++ text ∷ rest.1) size s
                (columns_on n cs (v ∷ rest.0) [] columns (text ∷ rest.1) each (t, rest.3)),
          )

      next_of : (t : Table) (text : List ℕ) (others : List (List ℕ)) (left : List Column) → n ≡ length cs + length left → ColumnsAndLines n left t.rows (text ∷ others) →
          (v : Column) × column.Spells v text
      next_of t text others [] size b = absurd (omega (arith, size, fewer))
      next_of t text others (v ∷ left) size b = (v, b.0)

      next : (t : Table) (text : List ℕ) (others : List (List ℕ)) → Left t (text ∷ others) → (v : Column) × column.Spells v text
      next t text others p = next_of t text others p.left p.size p.behind

  -- behind all columns stand EOF and the lines
  lines_of : (t : Table) (text : List ℕ) (others : List (List ℕ)) (left : List Column) → n ≡ length cs + length left → length cs ≡ n →
      ColumnsAndLines n left t.rows (text ∷ others) → ending.Spells tt text × Lines n t.rows others
  lines_of t text others [] size all b = b
  lines_of t text others (v ∷ left) size all b = absurd (omega (arith, size, all))

  all_off : (t : Table) (text : List ℕ) (others : List (List ℕ)) → length cs ≡ n → tabulates t (count ∷ (columns ++ text ∷ others)) → ending.Spells tt text × Lines n t.rows others
  all_off t text others all is = let p : Left t (text ∷ others) = left_of t (text ∷ others) is in lines_of t text others p.left p.size all p.behind

  all_on : (rs : List (List Cell)) (text : List ℕ) (others : List (List ℕ)) → length cs ≡ n → ending.Spells tt text → Lines n rs others →
      tabulates (table (cs ++ []) rs) (count ∷ (columns ++ text ∷ others))
  all_on rs text others all t lines =
      whole_of n (cs ++ []) rs count (columns ++ text ∷ others) (omega (arith, all, length-append cs [])) s
      (columns_on n cs [] rs columns (text ∷ others) each (t, lines))

  pub middle_awaited : length cs ≡ n → Awaits ending.Spells (count ∷ columns)
  middle_awaited all = record {
    fits = λ text u t. ((table (cs ++ []) [], ending_text ∷ []), all_on [] text (ending_text ∷ []) all t ending_spelled);
    only = λ text v is. (tt, (all_off v.0 text v.1 all is).0);
    not_whole = never_whole;
  }

  -- ## A row, or EOF behind the rows

  module _ (all : length cs ≡ n) (middle : List ℕ) (rows : List (List ℕ)) (rs : List (List Cell)) (t : ending.Spells tt middle) (rows_each : Each (row n).Spells rs rows) where
    pub line_awaited : Awaits (SpellsLine n) (count ∷ (columns ++ middle ∷ rows))
    line_awaited = record {
      fits = λ text o line. on text o line;
      only = λ text v is. line_behind n rs v.0.rows rows text v.1 rows_each (all_off v.0 middle (rows ++ text ∷ v.1) all
          (subst (λ (w : List (List ℕ)). tabulates v.0 (count ∷ w)) (append_assoc columns (middle ∷ rows) (text ∷ v.1)) is)).1;
      not_whole = λ u is. rows_alone n (some_columns n count s) rs u.rows rows rows_each (all_off u middle rows all is).1;
    }
      where
        on : (text : List ℕ) (o : Option (List Cell)) → SpellsLine n o text → (v : Table × List (List ℕ)) × FitsBehind (count ∷ (columns ++ middle ∷ rows)) v text
        on text o line =
            let rest = lines_on n rs rows o text rows_each line in (
              (table (cs ++ []) rest.0, rest.1),
              subst (λ (w : List (List ℕ)). tabulates (table (cs ++ []) rest.0) (count ∷ w)) (sym (append_assoc columns (middle ∷ rows) (text ∷ rest.1)))
                  (all_on rest.0 middle (rows ++ text ∷ rest.1) all t rest.2),
            )
