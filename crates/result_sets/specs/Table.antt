-- A table and the list of its payloads: "Text Resultset" of the MySQL client/server protocol documentation.
use Rattle.std.specs.Prelude.{◌≡◌, ℕ, ◌<◌, ◌≤◌, ◌^◌, List, [], ◌∷◌, ◌++◌, length, All, map, IfOk, IfErr, Result}
use Rattle.std.specs.List.{flat_map}
use Rattle.lg_base.specs.Fields.{lenenc_text}
use Rattle.wire_form.specs.Payloads.{IsFaultPlace, Answers}
use Rattle.result_sets.specs.Faults.{malformed_index}
use Rattle.result_sets.specs.Layout.{column_count, column, column_text, ending, ending_text, row, cell_text, bytes_of}
use Rattle.result_sets.specs.declared.table.Cell.{Cell}
use Rattle.result_sets.specs.declared.table.Table.{Table}
use Rattle.result_sets.specs.declared.fault.TableFault.{TableFault}
use Rattle.result_sets.specs.declared.fault.TableFault.TheVariants.{Malformed, Memory}

-- each value is spelled by the payload at its place
abbrev pub Each : {A : Type 0} → (A → List ℕ → Type 0) → List A → List (List ℕ) → Type 0
Each Spells [] [] = Unit {0}
Each Spells (v ∷ vs) (p ∷ ps) = Spells v p × Each Spells vs ps
Each Spells [] (p ∷ ps) = ⊥
Each Spells (v ∷ vs) [] = ⊥

-- the number of columns, the columns, EOF, the rows, EOF
pub record tabulates (table : Table) (payloads : List (List ℕ)) : Type 0 where
  pub count : List ℕ
  pub columns : List (List ℕ)
  pub middle : List ℕ
  pub rows : List (List ℕ)
  pub last : List ℕ
  pub list : payloads ≡ count ∷ (columns ++ middle ∷ (rows ++ last ∷ []))
  pub count_spelled : column_count.Spells (length table.columns) count
  pub columns_spelled : Each column.Spells table.columns columns
  pub middle_spelled : ending.Spells tt middle
  pub rows_spelled : Each (row (length table.columns)).Spells table.rows rows
  pub last_spelled : ending.Spells tt last

-- ## Where a list of payloads stops being a table's

-- a payload fits behind others: with these payloads behind it they are that table's
abbrev pub FitsBehind : List (List ℕ) → Table × List (List ℕ) → List ℕ → Type 0
FitsBehind before v payload = tabulates v.0 (before ++ payload ∷ v.1)

-- the first payload that doesn't fit behind those before it, and the place in it
pub data IsFirstMisfit (payloads : List (List ℕ)) (index at : ℕ) : Type 0 where
  -- a payload of which a front fits, maybe an empty one
  misfit : (before behind : List (List ℕ)) (payload : List ℕ) → payloads ≡ before ++ payload ∷ behind → index ≡ length before →
      IsFaultPlace (FitsBehind before) payload at → IsFirstMisfit payloads index at
  -- a payload behind a whole table
  too_many : (before behind : List (List ℕ)) (payload : List ℕ) (t : Table) → payloads ≡ before ++ payload ∷ behind → index ≡ length before →
      tabulates t before → ((v : Table × List (List ℕ)) (p : List ℕ) → FitsBehind before v p → ⊥) → at ≡ 0 → IsFirstMisfit payloads index at
  -- no payload where one has to follow
  too_few : (v : Table × List (List ℕ)) (payload : List ℕ) → FitsBehind payloads v payload → ((t : Table) → tabulates t payloads → ⊥) →
      index ≡ length payloads → at ≡ 0 → IsFirstMisfit payloads index at

abbrev pub IsTableFault : List (List ℕ) → TableFault → Type 0
IsTableFault payloads (Malformed index at) = IsFirstMisfit payloads index at
IsTableFault payloads Memory = Unit {0}

-- A call reads a list of payloads as a table: what it answers has these payloads, a table that has them is answered, and
-- a fault is at the first payload that doesn't fit. Want of memory says nothing of the payloads.
pub record IsReadTable (payloads : List (List ℕ)) (result : Result Table TableFault) : Type 0 where
  pub found : IfOk result (λ t. tabulates t payloads)
  pub only : (t : Table) → tabulates t payloads → Answers malformed_index result t
  pub fault : IfErr result (IsTableFault payloads)

-- ## What is written

-- the payloads that are written: of a row its cells, one behind the other
abbrev pub row_text : List Cell → List ℕ
row_text vs = flat_map cell_text vs

unfoldable pub table_text : Table → List (List ℕ)
table_text t = lenenc_text (length t.columns) ∷ (map column_text t.columns ++ ending_text ∷ (map row_text t.rows ++ ending_text ∷ []))

-- a value's length is a number in eight bytes
abbrev pub IsShort : Cell → Type 0
IsShort v = length (bytes_of v) < 2 ^ 64

-- 1 to 8 columns, at most 65,536 rows, and as many cells in each row as columns
pub record IsWhole (t : Table) : Type 0 where
  pub some : 0 < length t.columns
  pub columns : length t.columns ≤ 8
  pub rows : length t.rows ≤ 65536
  pub cells : All (λ r. length r ≡ length t.columns) t.rows
