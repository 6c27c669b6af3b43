-- Where a row stands among rows that ascend, and what putting or removing it there makes of them.
use Rattle.std.proofs.Common.{◌≡◌, ◌≢◌, Ok, Err, ℕ, ◌<◌, ◌≤◌, ⊎_elim, true, false, List, [], ◌∷◌, ◌++◌, length, length-append, nat_lt, slice_index_or, slice_set, refl, sym, ap, ◌∙◌, subst, arith}
use Rattle.std.specs.List.{insert, remove}
use Rattle.std.proofs.lemmas.Bool.{cases_lt}
use Rattle.account_keeper.specs.Shelf.{IsPlace}
use Rattle.lg_outside.specs.Keeping.{Ascend, RiseAbove, rows_below, rows_above, put_row, remove_row}
use Rattle.lg_outside.specs.declared.keepers.Row.{Row}

pub below_none : (key low : ℕ) (rows : List Row) → key ≤ low → RiseAbove low rows → rows_below key rows ≡ []
below_none key low [] le h = refl
below_none key low (row ∷ rows) le h =
    let rest = below_none key row.key rows (omega (arith, h.0)) h.1 in
    let not_below : nat_lt row.key key ≡ false = grind (arith, h.0) in
    rw not_below rest

pub above_all : (key low : ℕ) (rows : List Row) → key ≤ low → RiseAbove low rows → rows_above key rows ≡ rows
above_all key low [] le h = refl
above_all key low (row ∷ rows) le h =
    let rest = above_all key row.key rows (omega (arith, h.0)) h.1 in
    let above : nat_lt key row.key ≡ true = grind (arith, h.0) in
    rw above (ap (λ (xs : List Row). row ∷ xs) rest)

-- what the first row adds to the rows on either side of a key
pub below_first : (key : ℕ) (row : Row) (rows : List Row) → row.key < key → rows_below key (row ∷ rows) ≡ row ∷ rows_below key rows
below_first key row rows h =
    let e : nat_lt row.key key ≡ true = grind (arith, h) in
    rw e refl

pub not_below_first : (key : ℕ) (row : Row) (rows : List Row) → key ≤ row.key → rows_below key (row ∷ rows) ≡ rows_below key rows
not_below_first key row rows h =
    let e : nat_lt row.key key ≡ false = grind (arith, h) in
    rw e refl

pub not_above_first : (key : ℕ) (row : Row) (rows : List Row) → row.key ≤ key → rows_above key (row ∷ rows) ≡ rows_above key rows
not_above_first key row rows h =
    let e : nat_lt key row.key ≡ false = grind (arith, h) in
    rw e refl

rise : (low : ℕ) (rows : List Row) → RiseAbove low rows → Ascend rows
rise low [] h = tt
rise low (row ∷ rows) h = h.1

-- rows in parts, where the parts are known by other words
around : (rows b c a e : List Row) (row : Row) → b ≡ c → a ≡ e → rows ≡ c ++ row ∷ e → rows ≡ b ++ row ∷ a
around rows b c a e row p q r = cc

beside : (rows b c a e : List Row) → b ≡ c → a ≡ e → rows ≡ c ++ e → rows ≡ b ++ a
beside rows b c a e p q r = cc

-- where the row at the place of a key has that key, it stands between the rows below and above
there : (key : ℕ) (rows : List Row) (d : Row) → Ascend rows → length (rows_below key rows) < length rows →
    (slice_index_or rows (length (rows_below key rows)) d).key ≡ key →
    (row : Row) × (rows ≡ rows_below key rows ++ row ∷ rows_above key rows)
there key [] d h within same = absurd (omega arith)
there key (first ∷ rows) d h within same = ⊎_elim (passed (λ w e. there key rows d (rise first.key rows h) w e)) found (cases_lt first.key key)
  where
    passed : (length (rows_below key rows) < length rows → (slice_index_or rows (length (rows_below key rows)) d).key ≡ key →
        (row : Row) × (rows ≡ rows_below key rows ++ row ∷ rows_above key rows)) →
        first.key < key → (row : Row) × (first ∷ rows ≡ rows_below key (first ∷ rows) ++ row ∷ rows_above key (first ∷ rows))
    passed further lt =
        let b = below_first key first rows lt in
        let a = not_above_first key first rows (omega (arith, lt)) in
        let rest = further (omega (arith, ap length b, within))
        (subst (λ (n : ℕ). (slice_index_or (first ∷ rows) n d).key ≡ key) (ap length b) same) in
        (rest.0, around (first ∷ rows) _ (first ∷ rows_below key rows) _ (rows_above key rows) rest.0 b a (ap (λ (xs : List Row). first ∷ xs) rest.1))

    found : key ≤ first.key → (row : Row) × (first ∷ rows ≡ rows_below key (first ∷ rows) ++ row ∷ rows_above key (first ∷ rows))
    found le =
        let b = not_below_first key first rows le ∙ below_none key first.key rows le h in
        let is : first.key ≡ key = subst (λ (n : ℕ). (slice_index_or (first ∷ rows) n d).key ≡ key) (ap length b) same in
        let a = not_above_first key first rows (omega (arith, is)) ∙ above_all key first.key rows (omega (arith, is)) h in
        (first, around (first ∷ rows) _ [] _ rows first b a refl)

-- and where it hasn't, no row has the key
absent : (key : ℕ) (rows : List Row) (d : Row) → Ascend rows →
    (length (rows_below key rows) < length rows → (slice_index_or rows (length (rows_below key rows)) d).key ≡ key → ⊥) →
    rows ≡ rows_below key rows ++ rows_above key rows
absent key [] d h other = refl
absent key (first ∷ rows) d h other = ⊎_elim (passed (λ k. absent key rows d (rise first.key rows h) k)) found (cases_lt first.key key)
  where
    passed : ((length (rows_below key rows) < length rows → (slice_index_or rows (length (rows_below key rows)) d).key ≡ key → ⊥) →
        rows ≡ rows_below key rows ++ rows_above key rows) → first.key < key → first ∷ rows ≡ rows_below key (first ∷ rows) ++ rows_above key (first ∷ rows)
    passed further lt =
        let b = below_first key first rows lt in
        let a = not_above_first key first rows (omega (arith, lt)) in
        let rest = further (λ within same. other (omega (arith, ap length b, within))
        (subst (λ (n : ℕ). (slice_index_or (first ∷ rows) n d).key ≡ key) (sym (ap length b)) same)) in
        beside (first ∷ rows) _ (first ∷ rows_below key rows) _ (rows_above key rows) b a (ap (λ (xs : List Row). first ∷ xs) rest)

    found : key ≤ first.key → first ∷ rows ≡ rows_below key (first ∷ rows) ++ rows_above key (first ∷ rows)
    found le =
        let b = not_below_first key first rows le ∙ below_none key first.key rows le h in
        let differs : first.key ≡ key → ⊥ = λ is. other (omega (arith, ap length b))
        (subst (λ (n : ℕ). (slice_index_or (first ∷ rows) n d).key ≡ key) (sym (ap length b)) is) in
        let a = above_all key key (first ∷ rows) (omega arith) (⊎_elim (λ lt. (lt, h)) (λ ge. absurd (differs (omega (arith, ge)))) (cases_lt key first.key)) in
        beside (first ∷ rows) _ [] _ (first ∷ rows) b a refl

pub there_at : (key place : ℕ) (rows : List Row) (d : Row) → Ascend rows → place ≡ length (rows_below key rows) → place < length rows →
    (slice_index_or rows place d).key ≡ key → IsPlace key rows (Ok place)
there_at key place rows d h is within same =
    (is, there key rows d h (omega (arith, is, within)) (subst (λ (n : ℕ). (slice_index_or rows n d).key ≡ key) is same))

pub absent_at : (key place : ℕ) (rows : List Row) (d : Row) → Ascend rows → place ≡ length (rows_below key rows) →
    (slice_index_or rows place d).key ≢ key → IsPlace key rows (Err place)
absent_at key place rows d h is differs =
    (is, absent key rows d h (λ within same. differs (subst (λ (n : ℕ). (slice_index_or rows n d).key ≡ key) (sym is) same)))

pub absent_behind : (key place : ℕ) (rows : List Row) → Ascend rows → place ≡ length (rows_below key rows) → length rows ≤ place →
    IsPlace key rows (Err place)
absent_behind key place [] h is behind = (is, refl)
absent_behind key place (first ∷ rows) h is behind =
    (is, absent key (first ∷ rows) first h (λ within same. absurd (omega (arith, within, is, behind))))

-- ## Rows that are put and removed ascend

lower : (low lowest : ℕ) (rows : List Row) → RiseAbove low rows → lowest ≤ low → RiseAbove lowest rows
lower low lowest [] h le = tt
lower low lowest (row ∷ rows) h le = (omega (arith, le, h.0), h.1)

above_rise : (key low : ℕ) (rows : List Row) → RiseAbove low rows → RiseAbove low (rows_above key rows)
above_rise key low [] h = tt
above_rise key low (first ∷ rows) h = ⊎_elim kept (dropped (above_rise key first.key rows h.1)) (cases_lt key first.key)
  where
    kept : key < first.key → RiseAbove low (rows_above key (first ∷ rows))
    kept lt = rw (above_all key key (first ∷ rows) (omega arith) (lt, h.1)) h

    dropped : RiseAbove first.key (rows_above key rows) → first.key ≤ key → RiseAbove low (rows_above key (first ∷ rows))
    dropped further le = rw (not_above_first key first rows le) (lower first.key low (rows_above key rows) further (omega (arith, h.0)))

-- what stands above a key rises from it
above_above : (key low : ℕ) (rows : List Row) → RiseAbove low rows → RiseAbove key (rows_above key rows)
above_above key low [] h = tt
above_above key low (first ∷ rows) h = ⊎_elim kept (dropped (above_above key first.key rows h.1)) (cases_lt key first.key)
  where
    kept : key < first.key → RiseAbove key (rows_above key (first ∷ rows))
    kept lt = rw (above_all key key (first ∷ rows) (omega arith) (lt, h.1)) (lt, h.1)

    dropped : RiseAbove key (rows_above key rows) → first.key ≤ key → RiseAbove key (rows_above key (first ∷ rows))
    dropped further le = rw (not_above_first key first rows le) further

above_all_above : (key : ℕ) (first : Row) (rows : List Row) → RiseAbove first.key rows → RiseAbove key (rows_above key (first ∷ rows))
above_all_above key first rows h = ⊎_elim kept dropped (cases_lt key first.key)
  where
    kept : key < first.key → RiseAbove key (rows_above key (first ∷ rows))
    kept lt = rw (above_all key key (first ∷ rows) (omega arith) (lt, h)) (lt, h)

    dropped : first.key ≤ key → RiseAbove key (rows_above key (first ∷ rows))
    dropped le = rw (not_above_first key first rows le) (above_above key first.key rows h)

put_rises : (key low : ℕ) (bytes : List ℕ) (rows : List Row) → RiseAbove low rows → low < key → RiseAbove low (put_row key bytes rows)
put_rises key low bytes [] h lt = (lt, tt)
put_rises key low bytes (first ∷ rows) h lt = ⊎_elim (passed (λ below. put_rises key first.key bytes rows h.1 below)) stops (cases_lt first.key key)
  where
    passed : (first.key < key → RiseAbove first.key (put_row key bytes rows)) → first.key < key → RiseAbove low (put_row key bytes (first ∷ rows))
    passed further below =
        rw (below_first key first rows below, not_above_first key first rows (omega (arith, below)))
        (h.0, further below)

    stops : key ≤ first.key → RiseAbove low (put_row key bytes (first ∷ rows))
    stops le =
        rw (not_below_first key first rows le, below_none key first.key rows le h.1)
        (lt, above_above key low (first ∷ rows) h)

pub put_ascends : (key : ℕ) (bytes : List ℕ) (rows : List Row) → Ascend rows → Ascend (put_row key bytes rows)
put_ascends key bytes [] h = tt
put_ascends key bytes (first ∷ rows) h = ⊎_elim passed stops (cases_lt first.key key)
  where
    passed : first.key < key → Ascend (put_row key bytes (first ∷ rows))
    passed below =
        rw (below_first key first rows below, not_above_first key first rows (omega (arith, below)))
        (put_rises key first.key bytes rows h below)

    stops : key ≤ first.key → Ascend (put_row key bytes (first ∷ rows))
    stops le =
        rw (not_below_first key first rows le, below_none key first.key rows le h)
        (above_all_above key first rows h)

remove_rises : (key low : ℕ) (rows : List Row) → RiseAbove low rows → RiseAbove low (remove_row key rows)
remove_rises key low [] h = tt
remove_rises key low (first ∷ rows) h = ⊎_elim (passed (remove_rises key first.key rows h.1)) stops (cases_lt first.key key)
  where
    passed : RiseAbove first.key (remove_row key rows) → first.key < key → RiseAbove low (remove_row key (first ∷ rows))
    passed further below =
        rw (below_first key first rows below, not_above_first key first rows (omega (arith, below)))
        (h.0, further)

    stops : key ≤ first.key → RiseAbove low (remove_row key (first ∷ rows))
    stops le =
        rw (not_below_first key first rows le, below_none key first.key rows le h.1)
        (above_rise key low (first ∷ rows) h)

pub remove_ascends : (key : ℕ) (rows : List Row) → Ascend rows → Ascend (remove_row key rows)
remove_ascends key [] h = tt
remove_ascends key (first ∷ rows) h = ⊎_elim passed stops (cases_lt first.key key)
  where
    passed : first.key < key → Ascend (remove_row key (first ∷ rows))
    passed below =
        rw (below_first key first rows below, not_above_first key first rows (omega (arith, below)))
        (remove_rises key first.key rows h)

    stops : key ≤ first.key → Ascend (remove_row key (first ∷ rows))
    stops le =
        rw (not_below_first key first rows le, below_none key first.key rows le h)
        (rise key (rows_above key (first ∷ rows)) (above_all_above key first rows h))

-- ## What the vector's calls make of the parts

pub set_between : {A : Type 0} (front back : List A) (x y : A) → slice_set (front ++ x ∷ back) (length front) y ≡ front ++ y ∷ back
set_between [] back x y = refl
set_between (a ∷ front) back x y = ap (λ (xs : List _). a ∷ xs) (set_between front back x y)

pub insert_between : {A : Type 0} (front back : List A) (y : A) → insert (front ++ back) (length front) y ≡ front ++ y ∷ back
insert_between [] back y = refl
insert_between (a ∷ front) back y = ap (λ (xs : List _). a ∷ xs) (insert_between front back y)

pub remove_between : {A : Type 0} (front back : List A) (x : A) → remove (front ++ x ∷ back) (length front) ≡ front ++ back
remove_between [] back x = refl
remove_between (a ∷ front) back x = ap (λ (xs : List _). a ∷ xs) (remove_between front back x)

pub put_over : (key place : ℕ) (bytes : List ℕ) (rows : List Row) → IsPlace key rows (Ok place) →
    slice_set rows place (record { key = key; bytes = bytes }) ≡ put_row key bytes rows
put_over key place bytes rows is =
    let row : Row = record { key = key; bytes = bytes } in
    ap (λ (n : ℕ). slice_set rows n row) is.0
    ∙ ap (λ (xs : List Row). slice_set xs (length (rows_below key rows)) row) is.1.1
    ∙ set_between (rows_below key rows) (rows_above key rows) is.1.0 row

pub put_new : (key place : ℕ) (bytes : List ℕ) (rows : List Row) → IsPlace key rows (Err place) →
    insert rows place (record { key = key; bytes = bytes }) ≡ put_row key bytes rows
put_new key place bytes rows is =
    let row : Row = record { key = key; bytes = bytes } in
    ap (λ (n : ℕ). insert rows n row) is.0
    ∙ ap (λ (xs : List Row). insert xs (length (rows_below key rows)) row) is.1
    ∙ insert_between (rows_below key rows) (rows_above key rows) row

pub removed : (key place : ℕ) (rows : List Row) → IsPlace key rows (Ok place) → remove rows place ≡ remove_row key rows
removed key place rows is =
    ap (λ (n : ℕ). remove rows n) is.0
    ∙ ap (λ (xs : List Row). remove xs (length (rows_below key rows))) is.1.1
    ∙ remove_between (rows_below key rows) (rows_above key rows) is.1.0

pub is_within : (key place : ℕ) (rows : List Row) → IsPlace key rows (Ok place) → place < length rows
is_within key place rows is =
    omega (arith, is.0, ap length is.1.1, length-append (rows_below key rows) (is.1.0 ∷ rows_above key rows))

pub is_inside : (key place : ℕ) (rows : List Row) → IsPlace key rows (Err place) → place ≤ length rows
is_inside key place rows is =
    omega (arith, is.0, ap length is.1, length-append (rows_below key rows) (rows_above key rows))
