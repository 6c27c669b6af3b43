-- A table and its payloads from the first one on, and what stands behind the payloads that were read.
use Rattle.std.proofs.Common.{◌≡◌, ℕ, zero, suc, ◌+◌, ◌≤◌, ◌<◌, List, [], ◌∷◌, ◌++◌, length, Option, Some, None, refl, sym, ap, ◌∙◌, subst, append-nil, arith}
use Rattle.wire_form.proofs.Payloads.{one_value}
use Rattle.result_sets.specs.Layout.{column_count, column, ending, ending_text, row}
use Rattle.result_sets.specs.Reading.{SpellsLine}
use Rattle.result_sets.specs.Table.{Each, tabulates}
use Rattle.result_sets.specs.declared.table.Column.{Column}
use Rattle.result_sets.specs.declared.table.Cell.{Cell}
use Rattle.result_sets.specs.declared.table.Table.{Table}
use Rattle.result_sets.proofs.Lawful.{column-lawful, row-lawful, column_count-lawful}
use Rattle.result_sets.proofs.Lines.{not_both}
use Rattle.result_sets.proofs.Written.{ending_spelled}

-- ## A value more

pub each_push : {A : Type 0} (S : A → List ℕ → Type 0) (vs : List A) (ps : List (List ℕ)) (v : A) (p : List ℕ) → Each S vs ps → S v p → Each S (vs ++ v ∷ []) (ps ++ p ∷ [])
each_push S [] [] v p s t = (t, tt)
each_push S (w ∷ vs) (q ∷ ps) v p s t = (s.0, each_push S vs ps v p s.1 t)
each_push S [] (q ∷ ps) v p s t = absurd s
each_push S (w ∷ vs) [] v p s t = absurd s

pub each_size : {A : Type 0} (S : A → List ℕ → Type 0) (vs : List A) (ps : List (List ℕ)) → Each S vs ps → length vs ≡ length ps
each_size S [] [] s = refl
each_size S (w ∷ vs) (q ∷ ps) s = ap suc (each_size S vs ps s.1)
each_size S [] (q ∷ ps) s = absurd s
each_size S (w ∷ vs) [] s = absurd s

-- ## Rows and EOF

abbrev pub Lines : ℕ → List (List Cell) → List (List ℕ) → Type 0
Lines n rs [] = ⊥
Lines n [] (p ∷ []) = ending.Spells tt p
Lines n [] (p ∷ q ∷ ps) = ⊥
Lines n (r ∷ rs) (p ∷ ps) = (row n).Spells r p × Lines n rs ps

module _ (n : ℕ) where
  to_lines : (rs : List (List Cell)) (ps : List (List ℕ)) (last : List ℕ) → Each (row n).Spells rs ps → ending.Spells tt last → Lines n rs (ps ++ last ∷ [])
  to_lines [] [] last s t = t
  to_lines (r ∷ rs) (p ∷ ps) last s t = (s.0, to_lines rs ps last s.1 t)
  to_lines [] (p ∷ ps) last s t = absurd s
  to_lines (r ∷ rs) [] last s t = absurd s

  record RowsAndEnd (rs : List (List Cell)) (ps : List (List ℕ)) : Type 0 where
    rows : List (List ℕ)
    last : List ℕ
    split : ps ≡ rows ++ last ∷ []
    each : Each (row n).Spells rs rows
    ends : ending.Spells tt last

  from_lines : (rs : List (List Cell)) (ps : List (List ℕ)) → Lines n rs ps → RowsAndEnd rs ps
  from_lines [] [] s = absurd s
  from_lines (r ∷ rs) [] s = absurd s
  from_lines [] (p ∷ []) s = record { rows = []; last = p; split = refl; each = tt; ends = s }
  from_lines [] (p ∷ q ∷ ps) s = absurd s
  from_lines (r ∷ rs) (p ∷ ps) s =
      let t : RowsAndEnd rs ps = from_lines rs ps s.1 in
      record { rows = p ∷ t.rows; last = t.last; split = ap (λ (w : List (List ℕ)). p ∷ w) t.split; each = (s.0, t.each); ends = t.ends }

  -- behind rows stands a row or EOF
  pub line_behind : (rs rs' : List (List Cell)) (ps : List (List ℕ)) (p : List ℕ) (others : List (List ℕ)) → Each (row n).Spells rs ps → Lines n rs' (ps ++ p ∷ others) →
      (o : Option (List Cell)) × SpellsLine n o p
  line_behind [] [] [] p [] s t = (None, t)
  line_behind [] [] [] p (q ∷ others) s t = absurd t
  line_behind [] (r' ∷ rs') [] p others s t = (Some r', t.0)
  line_behind (r ∷ rs) (r' ∷ rs') (q ∷ ps) p others s t = line_behind rs rs' ps p others s.1 t.1
  line_behind (r ∷ rs) [] (q ∷ []) p others s t = absurd t
  line_behind (r ∷ rs) [] (q ∷ q' ∷ ps) p others s t = absurd t
  line_behind [] rs' (q ∷ ps) p others s t = absurd s
  line_behind (r ∷ rs) rs' [] p others s t = absurd s

  -- rows alone are no rows and EOF
  pub rows_alone : 0 < n → (rs rs' : List (List Cell)) (ps : List (List ℕ)) → Each (row n).Spells rs ps → Lines n rs' ps → ⊥
  rows_alone some rs rs' [] s t = absurd t
  rows_alone some (r ∷ rs) [] (p ∷ []) s t = not_both n r p some s.0 t
  rows_alone some (r ∷ rs) [] (p ∷ q ∷ ps) s t = absurd t
  rows_alone some (r ∷ rs) (r' ∷ rs') (p ∷ ps) s t = rows_alone some rs rs' ps s.1 t.1
  rows_alone some [] rs' (p ∷ ps) s t = absurd s

  -- a row or EOF behind rows goes on to rows and EOF
  pub lines_on : (rs : List (List Cell)) (ps : List (List ℕ)) (o : Option (List Cell)) (p : List ℕ) → Each (row n).Spells rs ps → SpellsLine n o p →
      (rs' : List (List Cell)) × (others : List (List ℕ)) × Lines n rs' (ps ++ p ∷ others)
  lines_on [] [] None p s t = ([], [], t)
  lines_on [] [] (Some r) p s t = (r ∷ [], ending_text ∷ [], (t, ending_spelled))
  lines_on (r ∷ rs) (q ∷ ps) o p s t = let rest = lines_on rs ps o p s.1 t in (r ∷ rest.0, rest.1, (s.0, rest.2))
  lines_on [] (q ∷ ps) o p s t = absurd s
  lines_on (r ∷ rs) [] o p s t = absurd s

  -- nothing stands behind EOF
  none_behind : 0 < n → (rs rs' : List (List Cell)) (ps : List (List ℕ)) (p : List ℕ) (others : List (List ℕ)) → Lines n rs ps → Lines n rs' (ps ++ p ∷ others) → ⊥
  none_behind some rs rs' [] p others s t = absurd s
  none_behind some [] [] (q ∷ []) p others s t = absurd t
  none_behind some [] (r' ∷ rs') (q ∷ []) p others s t = not_both n r' q some t.0 s
  none_behind some [] rs' (q ∷ q' ∷ ps) p others s t = absurd s
  none_behind some (r ∷ rs) [] (q ∷ []) p others s t = absurd t
  none_behind some (r ∷ rs) [] (q ∷ q' ∷ ps) p others s t = absurd t
  none_behind some (r ∷ rs) (r' ∷ rs') (q ∷ ps) p others s t = none_behind some rs rs' ps p others s.1 t.1

  -- the same payloads have the same rows
  same_rows : 0 < n → (rs rs' : List (List Cell)) (ps : List (List ℕ)) → Lines n rs ps → Lines n rs' ps → rs ≡ rs'
  same_rows some rs rs' [] s t = absurd s
  same_rows some [] [] (p ∷ ps) s t = refl
  same_rows some [] (r' ∷ rs') (p ∷ []) s t = absurd (not_both n r' p some t.0 s)
  same_rows some [] (r' ∷ rs') (p ∷ q ∷ ps) s t = absurd s
  same_rows some (r ∷ rs) [] (p ∷ []) s t = absurd (not_both n r p some s.0 t)
  same_rows some (r ∷ rs) [] (p ∷ q ∷ ps) s t = absurd t
  same_rows some (r ∷ rs) (r' ∷ rs') (p ∷ ps) s t =
      ap (λ (x : List Cell). x ∷ rs) (one_value (row n) (row-lawful n) p r r' s.0 t.0) ∙ ap (λ (x : List (List Cell)). r' ∷ x) (same_rows some rs rs' ps s.1 t.1)

-- ## Columns, EOF, and what follows

abbrev pub ColumnsAndLines : ℕ → List Column → List (List Cell) → List (List ℕ) → Type 0
ColumnsAndLines n cs rs [] = ⊥
ColumnsAndLines n [] rs (p ∷ ps) = ending.Spells tt p × Lines n rs ps
ColumnsAndLines n (c ∷ cs) rs (p ∷ ps) = column.Spells c p × ColumnsAndLines n cs rs ps

module _ (n : ℕ) where
  -- columns, and behind them the rest
  pub columns_on : (cs cs' : List Column) (rs : List (List Cell)) (ps qs : List (List ℕ)) → Each column.Spells cs ps → ColumnsAndLines n cs' rs qs →
      ColumnsAndLines n (cs ++ cs') rs (ps ++ qs)
  columns_on [] cs' rs [] qs s t = t
  columns_on (c ∷ cs) cs' rs (p ∷ ps) qs s t = (s.0, columns_on cs cs' rs ps qs s.1 t)
  columns_on [] cs' rs (p ∷ ps) qs s t = absurd s
  columns_on (c ∷ cs) cs' rs [] qs s t = absurd s

  -- the rest behind columns, as many as those
  pub columns_off : (cs cs' : List Column) (rs : List (List Cell)) (ps qs : List (List ℕ)) → Each column.Spells cs ps → length cs ≤ length cs' → ColumnsAndLines n cs' rs (ps ++ qs) →
      (left : List Column) × (length cs' ≡ length cs + length left) × ColumnsAndLines n left rs qs
  columns_off [] cs' rs [] qs s h t = (cs', omega arith, t)
  columns_off (c ∷ cs) [] rs (p ∷ ps) qs s h t = absurd (omega (arith, h))
  columns_off (c ∷ cs) (c' ∷ cs') rs (p ∷ ps) qs s h t = let rest = columns_off cs cs' rs ps qs s.1 (omega (arith, h)) t.1 in (rest.0, omega (arith, rest.1), rest.2)
  columns_off [] cs' rs (p ∷ ps) qs s h t = absurd s
  columns_off (c ∷ cs) cs' rs [] qs s h t = absurd s

  record ColumnsAndRest (cs : List Column) (rs : List (List Cell)) (ps : List (List ℕ)) : Type 0 where
    columns : List (List ℕ)
    middle : List ℕ
    lines : List (List ℕ)
    split : ps ≡ columns ++ middle ∷ lines
    each : Each column.Spells cs columns
    ends : ending.Spells tt middle
    behind : Lines n rs lines

  from_columns : (cs : List Column) (rs : List (List Cell)) (ps : List (List ℕ)) → ColumnsAndLines n cs rs ps → ColumnsAndRest cs rs ps
  from_columns [] rs [] s = absurd s
  from_columns (c ∷ cs) rs [] s = absurd s
  from_columns [] rs (p ∷ ps) s = record { columns = []; middle = p; lines = ps; split = refl; each = tt; ends = s.0; behind = s.1 }
  from_columns (c ∷ cs) rs (p ∷ ps) s =
      let t : ColumnsAndRest cs rs ps = from_columns cs rs ps s.1 in
      record { columns = p ∷ t.columns; middle = t.middle; lines = t.lines; split = ap (λ (w : List (List ℕ)). p ∷ w) t.split; each = (s.0, t.each); ends = t.ends; behind = t.behind }

  -- the same payloads have the same columns and rows
  same_table : 0 < n → (cs cs' : List Column) (rs rs' : List (List Cell)) (ps : List (List ℕ)) → length cs ≡ length cs' → ColumnsAndLines n cs rs ps → ColumnsAndLines n cs' rs' ps →
      (cs ≡ cs') × (rs ≡ rs')
  same_table some cs cs' rs rs' [] h s t = absurd s
  same_table some [] [] rs rs' (p ∷ ps) h s t = (refl, same_rows n some rs rs' ps s.1 t.1)
  same_table some (c ∷ cs) (c' ∷ cs') rs rs' (p ∷ ps) h s t =
      let rest = same_table some cs cs' rs rs' ps (omega (arith, h)) s.1 t.1 in
      (ap (λ (x : Column). x ∷ cs) (one_value column column-lawful p c c' s.0 t.0) ∙ ap (λ (x : List Column). c' ∷ x) rest.0, rest.1)
  same_table some [] (c' ∷ cs') rs rs' (p ∷ ps) h s t = absurd (omega (arith, h))
  same_table some (c ∷ cs) [] rs rs' (p ∷ ps) h s t = absurd (omega (arith, h))

  -- nothing stands behind the last EOF
  pub none_further : 0 < n → (cs cs' : List Column) (rs rs' : List (List Cell)) (ps : List (List ℕ)) (p : List ℕ) (others : List (List ℕ)) → length cs ≡ length cs' →
      ColumnsAndLines n cs rs ps → ColumnsAndLines n cs' rs' (ps ++ p ∷ others) → ⊥
  none_further some cs cs' rs rs' [] p others h s t = absurd s
  none_further some [] [] rs rs' (q ∷ ps) p others h s t = none_behind n some rs rs' ps p others s.1 t.1
  none_further some (c ∷ cs) (c' ∷ cs') rs rs' (q ∷ ps) p others h s t = none_further some cs cs' rs rs' ps p others (omega (arith, h)) s.1 t.1
  none_further some [] (c' ∷ cs') rs rs' (q ∷ ps) p others h s t = absurd (omega (arith, h))
  none_further some (c ∷ cs) [] rs rs' (q ∷ ps) p others h s t = absurd (omega (arith, h))

  -- so many columns more, and no rows
  pub further : (k : ℕ) → (cs : List Column) × (ps : List (List ℕ)) × (length cs ≡ k) × ColumnsAndLines n cs [] ps
  further zero = ([], ending_text ∷ ending_text ∷ [], refl, (ending_spelled, ending_spelled))
  further (suc k) =
      let rest = further k in
      let begun = column-lawful.begins in
      (begun.0 ∷ rest.0, begun.1 ∷ rest.1, ap suc rest.2, (begun.3, rest.3))

-- ## The whole list

pub record Parts (t : Table) (count : List ℕ) (rest : List (List ℕ)) : Type 0 where
  pub count_spelled : column_count.Spells (length t.columns) count
  pub behind : ColumnsAndLines (length t.columns) t.columns t.rows rest

pub record Parted (t : Table) (payloads : List (List ℕ)) : Type 0 where
  pub count : List ℕ
  pub rest : List (List ℕ)
  pub split : payloads ≡ count ∷ rest
  pub parts : Parts t count rest

pub parted : (t : Table) (payloads : List (List ℕ)) → tabulates t payloads → Parted t payloads
parted t payloads s = record {
  count = s.count;
  rest = s.columns ++ s.middle ∷ (s.rows ++ s.last ∷ []);
  split = s.list;
  parts = record {
    count_spelled = s.count_spelled;
    behind = subst (λ (cs : List Column). ColumnsAndLines (length t.columns) cs t.rows (s.columns ++ s.middle ∷ (s.rows ++ s.last ∷ []))) (append-nil t.columns)
        (columns_on (length t.columns) t.columns [] t.rows s.columns (s.middle ∷ (s.rows ++ s.last ∷ [])) s.columns_spelled
        (s.middle_spelled, to_lines (length t.columns) t.rows s.rows s.last s.rows_spelled s.last_spelled));
  };
}

same_cons : (x y : List ℕ) (xs ys : List (List ℕ)) → x ∷ xs ≡ y ∷ ys → (x ≡ y) × (xs ≡ ys)
same_cons x y xs ys e = let head : x ≡ y = cc in let tail : xs ≡ ys = cc in (head, tail)

-- the list that begins with this payload
pub parts_of : (t : Table) (count : List ℕ) (rest : List (List ℕ)) → tabulates t (count ∷ rest) → Parts t count rest
parts_of t count rest s =
    let p : Parted t (count ∷ rest) = parted t (count ∷ rest) s in
    let same = same_cons count p.count rest p.rest p.split in
    record {
      count_spelled = subst (λ (w : List ℕ). column_count.Spells (length t.columns) w) (sym same.0) p.parts.count_spelled;
      behind = subst (λ (w : List (List ℕ)). ColumnsAndLines (length t.columns) t.columns t.rows w) (sym same.1) p.parts.behind;
    }

pub whole : (t : Table) (count : List ℕ) (rest : List (List ℕ)) → Parts t count rest → tabulates t (count ∷ rest)
whole t count rest s =
    let a : ColumnsAndRest (length t.columns) t.columns t.rows rest = from_columns (length t.columns) t.columns t.rows rest s.behind in
    let b : RowsAndEnd (length t.columns) t.rows a.lines = from_lines (length t.columns) t.rows a.lines a.behind in
    record {
      count = count;
      columns = a.columns;
      middle = a.middle;
      rows = b.rows;
      last = b.last;
      list = ap (λ (w : List (List ℕ)). count ∷ w) (a.split ∙ ap (λ (w : List (List ℕ)). a.columns ++ a.middle ∷ w) b.split);
      count_spelled = s.count_spelled;
      columns_spelled = a.each;
      middle_spelled = a.ends;
      rows_spelled = b.each;
      last_spelled = b.ends;
    }

-- the number of columns is above 0
pub some_columns : (n : ℕ) (count : List ℕ) → column_count.Spells n count → 0 < n
unfolding column_count
some_columns n count s = subst (λ (k : ℕ). 0 < k) s.2 s.1.2.1

pub same_count : (n m : ℕ) (count : List ℕ) → column_count.Spells n count → column_count.Spells m count → n ≡ m
same_count n m count s t = one_value column_count column_count-lawful count n m s t

-- no list is two tables'
pub one_table : (payloads : List (List ℕ)) (t u : Table) → tabulates t payloads → tabulates u payloads → t ≡ u
one_table payloads t u s v =
    let p : Parted t payloads = parted t payloads s in
    let a : Parts t p.count p.rest = p.parts in
    let b : Parts u p.count p.rest = parts_of u p.count p.rest (subst (λ (w : List (List ℕ)). tabulates u w) p.split v) in
    let n : length t.columns ≡ length u.columns = same_count (length t.columns) (length u.columns) p.count a.count_spelled b.count_spelled in
    let same = same_table (length t.columns) (some_columns (length t.columns) p.count a.count_spelled) t.columns u.columns t.rows u.rows p.rest n a.behind
    (subst (λ (k : ℕ). ColumnsAndLines k u.columns u.rows p.rest) (sym n) b.behind) in
    alike t u same.0 same.1
  where
    alike : (t u : Table) → t.columns ≡ u.columns → t.rows ≡ u.rows → t ≡ u
    alike t u e f = ap (λ (cs : List Column). record { columns = cs; rows = t.rows }) e ∙ ap (λ (rs : List (List Cell)). record { columns = u.columns; rows = rs }) f
