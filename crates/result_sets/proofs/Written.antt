-- What is written of a table spells it.
use Rattle.std.proofs.Common.{◌≡◌, ℕ, ◌<◌, ◌^◌, List, [], ◌∷◌, ◌++◌, length, All, map, Bool, false, refl, sym, ap, ◌∙◌, subst, append_assoc, append-nil, inl, inr, arith, ne_eqb}
use Rattle.lg_base.specs.Fields.{lenenc_text}
use Rattle.lg_base.specs.Reading.{first}
use Rattle.std.proofs.lemmas.List.Elements.{All-head, All-tail}
use Rattle.wire_form.proofs.Lenenc.{lenenc-lawful}
use Rattle.wire_form.specs.Fields.{chosen, SpellsLenenc}
use Rattle.result_sets.proofs.Lawful.{text-lawful, column-lawful, ending-lawful}
use Rattle.result_sets.specs.Layout.{text_bytes, kind_text, is_null, null_cell, value_cell, column_count, column, column_text, ending, ending_text, cell, cell_text, cells, row}
use Rattle.result_sets.specs.Table.{Each, IsShort, IsWhole, row_text, table_text, tabulates}
use Rattle.result_sets.specs.declared.table.Kind.{Kind}
use Rattle.result_sets.specs.declared.table.Kind.TheVariants.{Text, Number}
use Rattle.result_sets.specs.declared.table.Column.{Column}
use Rattle.result_sets.specs.declared.table.Cell.{Cell}
use Rattle.result_sets.specs.declared.table.Cell.TheVariants.{Null, Value}
use Rattle.result_sets.specs.declared.table.Table.{Table}

-- ## The payloads, one by one

front : List ℕ → List ℕ
front t = (0x03 ∷ 0x64 ∷ 0x65 ∷ 0x66 ∷ 0 ∷ 0 ∷ 0 ∷ []) ++ t

laid : (t kind zeros : List ℕ) → front (t ++ (0 ∷ 0x0c ∷ (kind ++ zeros))) ++ [] ≡ ((front t ++ (0 ∷ 0x0c ∷ [])) ++ kind) ++ zeros
unfolding front
laid t kind zeros = append-nil (front (t ++ (0 ∷ 0x0c ∷ (kind ++ zeros)))) ∙ ap front (sym (append_assoc t (0 ∷ 0x0c ∷ []) (kind ++ zeros)))
    ∙ sym (append_assoc (front t ++ (0 ∷ 0x0c ∷ [])) kind zeros)

pub column_spelled : (v : Column) → length v.name < 2 ^ 64 → column.Spells v (column_text v)
unfolding column column_text front
column_spelled v wide = by_kind v.kind
  where
    by_kind : (k : Kind) → column.Spells (record { name = v.name; kind = k }) (column_text (record { name = v.name; kind = k }))
    by_kind Text = subst (λ (w : List ℕ). column.Spells (record { name = v.name; kind = Text }) w)
        (laid (text_bytes v.name) (kind_text Text) (0 ∷ 0 ∷ 0 ∷ 0 ∷ 0 ∷ []))
        (column-lawful.written (record { name = v.name; kind = Text }) (((((omega arith, refl), refl), (((omega arith, refl), refl), (((omega arith, refl), refl), (((omega arith, refl), refl), (((wide, refl), refl), (((omega arith, refl), refl), ((refl, refl), (refl, (omega arith, refl))))))))), tt), refl))
    by_kind Number = subst (λ (w : List ℕ). column.Spells (record { name = v.name; kind = Number }) w)
        (laid (text_bytes v.name) (kind_text Number) (0 ∷ 0 ∷ 0 ∷ 0 ∷ 0 ∷ []))
        (column-lawful.written (record { name = v.name; kind = Number }) (((((omega arith, refl), refl), (((omega arith, refl), refl), (((omega arith, refl), refl), (((omega arith, refl), refl), (((wide, refl), refl), (((omega arith, refl), refl), ((refl, refl), (refl, (omega arith, refl))))))))), tt), refl))

pub ending_spelled : ending.Spells tt ending_text
unfolding ending
ending_spelled = ending-lawful.written tt ((((refl, refl), refl), tt), refl)

count_spelled : (n : ℕ) → 0 < n → n < 2 ^ 64 → column_count.Spells n (lenenc_text n)
unfolding column_count
count_spelled n some wide = ((n, tt), (lenenc_text n, [], (lenenc-lawful.written n wide, some), refl, sym (append-nil (lenenc_text n))), refl)

-- ## A row

-- no length begins as NULL does
not_null : (n : ℕ) (t v : List ℕ) → SpellsLenenc n t → is_null (first (t ++ v)) ≡ false
not_null n [] v s = absurd s
not_null n (b ∷ t) v (inl p) = ne_eqb b 251 (λ e. omega (arith, e, p.0))
not_null n (b ∷ t) v (inr (inl p)) = ne_eqb b 251 (λ e. omega (arith, e, p.0))
not_null n (b ∷ t) v (inr (inr (inl p))) = ne_eqb b 251 (λ e. omega (arith, e, p.0))
not_null n (b ∷ t) v (inr (inr (inr p))) = ne_eqb b 251 (λ e. omega (arith, e, p.0))

cell_spelled : (v : Cell) → IsShort v → cell.Spells v (cell_text v)
unfolding cell cell_text
cell_spelled Null h = (tt, (0xfb, (refl, refl), refl), refl)
cell_spelled (Value v) h =
    subst (λ (b : Bool). (chosen b null_cell value_cell).Spells (Value v) (text_bytes v))
    (sym (not_null (length v) (lenenc_text (length v)) v (lenenc-lawful.written (length v) h)))
    (v, text-lawful.written v ((h, refl), refl), refl)

cells_spelled : (vs : List Cell) → All IsShort vs → (cells (length vs)).Spells vs (row_text vs)
cells_spelled [] h = (refl, refl)
cells_spelled (v ∷ vs) h =
    ((v, vs), (cell_text v, row_text vs, cell_spelled v (All-head IsShort v vs h), cells_spelled vs (All-tail IsShort v vs h), refl), refl)

row_spelled : (n : ℕ) (vs : List Cell) → length vs ≡ n → All IsShort vs → (row n).Spells vs (row_text vs)
unfolding row
row_spelled n vs size h = subst (λ (m : ℕ). (row m).Spells vs (row_text vs)) size
    ((vs, tt), (row_text vs, [], cells_spelled vs h, refl, sym (append-nil (row_text vs))), refl)

-- ## The table

columns_spelled : (vs : List Column) → All (λ v. column.Spells v (column_text v)) vs → Each column.Spells vs (map column_text vs)
columns_spelled [] h = tt
columns_spelled (v ∷ vs) h = (All-head (λ w. column.Spells w (column_text w)) v vs h, columns_spelled vs (All-tail (λ w. column.Spells w (column_text w)) v vs h))

rows_spelled : (n : ℕ) (rs : List (List Cell)) → All (λ r. length r ≡ n) rs → All (λ r. All IsShort r) rs → Each (row n).Spells rs (map row_text rs)
rows_spelled n [] sizes h = tt
rows_spelled n (r ∷ rs) sizes h = (
  row_spelled n r (All-head (λ q. length q ≡ n) r rs sizes) (All-head (λ q. All IsShort q) r rs h),
  rows_spelled n rs (All-tail (λ q. length q ≡ n) r rs sizes) (All-tail (λ q. All IsShort q) r rs h),
)

pub table_spelled : (t : Table) → IsWhole t → All (λ v. column.Spells v (column_text v)) t.columns → All (λ r. All IsShort r) t.rows →
    tabulates t (table_text t)
unfolding table_text
table_spelled t is columns rows = record {
  count = lenenc_text (length t.columns);
  columns = map column_text t.columns;
  middle = ending_text;
  rows = map row_text t.rows;
  last = ending_text;
  list = refl;
  count_spelled = count_spelled (length t.columns) is.some (omega (arith, is.columns));
  columns_spelled = columns_spelled t.columns columns;
  middle_spelled = ending_spelled;
  rows_spelled = rows_spelled (length t.columns) t.rows is.cells rows;
  last_spelled = ending_spelled;
}

pub payloads_spelled : (t : Table) (payloads : List (List ℕ)) → IsWhole t → payloads ≡ table_text t →
    All (λ v. column.Spells v (column_text v)) t.columns → All (λ r. All IsShort r) t.rows → tabulates t payloads
payloads_spelled t payloads is written columns rows =
    subst (λ (ps : List (List ℕ)). tabulates t ps) (sym written) (table_spelled t is columns rows)
