-- What is done at the place of the first that passes.
use Rattle.std.proofs.Common.{◌≡◌, refl, ap, sym, ◌∙◌, ℕ, zero, suc, ◌+◌, ◌<◌, List, [], ◌∷◌, length, map, cond, find, Bool, true, false, not, Some, None, option_map, slice_set, slice_index_or, remove, nat_lt, arith, ltb-true, take, drop, ◌++◌, if◌then◌else◌, Result, Ok, Err, IfOk}
use Rattle.std.specs.List.{position, position_or_len}
use Rattle.std.proofs.lemmas.Option.{get_or_from_slice_get}
use Rattle.lg_base.specs.declared.allocation.Memory.{Memory}
use Rattle.account_rules.specs.declared.accounts.Account.{Account}
use Rattle.account_history.specs.Effects.{with_changed, without}
use Rattle.account_machine.proofs.Found.{found-in}
use Rattle.account_machine.proofs.Places.{item-at}
use Rattle.account_machine.specs.Looks.{account_at, accounts_of}
use Rattle.account_machine.specs.declared.rows.Row.{Row}

place-is : {A : Type 0} (test : A → Bool) (xs : List A) (place : ℕ) → position test xs ≡ Some place
    → (position_or_len test xs ≡ place) × (place < length xs)
place-is test xs place p = cases (nat_lt (position_or_len test xs) (length xs)) refl p where
  cases : (b : Bool) → nat_lt (position_or_len test xs) (length xs) ≡ b → cond b (Some (position_or_len test xs)) None ≡ Some place
      → (position_or_len test xs ≡ place) × (place < length xs)
  cases true t p =
      let same : position_or_len test xs ≡ place = cc in
      let h = ltb-true (position_or_len test xs) (length xs) t in (same, omega arith)
  cases false t p = absurd (cc)

pub place-within : {A : Type 0} (test : A → Bool) (xs : List A) (place : ℕ) → position test xs ≡ Some place → place < length xs
place-within test xs place p = (place-is test xs place p).1

changed-at : {A : Type 0} (test : A → Bool) (change : A → A) (x : A) (xs : List A) (n : ℕ) → position_or_len test xs ≡ n → n < length xs
    → x ≡ slice_index_or xs n x → slice_set xs n (change x) ≡ with_changed test change xs
changed-at test change x [] n p h e = absurd (omega arith)
changed-at {A} test change x (y ∷ ys) n p h e = cases (test y) n p h e (changed-at test change x ys) where
  cases : (b : Bool) (n : ℕ) → cond (not b) (1 + position_or_len test ys) 0 ≡ n → n < suc (length ys) → x ≡ slice_index_or (y ∷ ys) n x
      → ((m : ℕ) → position_or_len test ys ≡ m → m < length ys → x ≡ slice_index_or ys m x → slice_set ys m (change x) ≡ with_changed test change ys)
      → slice_set (y ∷ ys) n (change x) ≡ cond b (change y ∷ ys) (y ∷ with_changed test change ys)
  cases true zero p h e rest = ap (λ (z : A). change z ∷ ys) e
  cases true (suc m) p h e rest = absurd (omega arith)
  cases false zero p h e rest = absurd (omega arith)
  cases false (suc m) p h e rest = ap (λ (zs : List A). y ∷ zs) (rest m (omega arith) (omega arith) e)

-- the first that passes, changed at its place
pub changed-there : {A : Type 0} (test : A → Bool) (change : A → A) (x : A) (xs : List A) (place : ℕ) → position test xs ≡ Some place
    → x ≡ slice_index_or xs place x → slice_set xs place (change x) ≡ with_changed test change xs
changed-there test change x xs place p e =
    let is = place-is test xs place p in changed-at test change x xs place is.0 is.1 e

removed-at : {A : Type 0} (test : A → Bool) (xs : List A) (n : ℕ) → position_or_len test xs ≡ n → n < length xs → remove xs n ≡ without test xs
removed-at test [] n p h = absurd (omega arith)
removed-at {A} test (y ∷ ys) n p h = cases (test y) n p h (removed-at test ys) where
  cases : (b : Bool) (n : ℕ) → cond (not b) (1 + position_or_len test ys) 0 ≡ n → n < suc (length ys)
      → ((m : ℕ) → position_or_len test ys ≡ m → m < length ys → remove ys m ≡ without test ys)
      → remove (y ∷ ys) n ≡ cond b ys (y ∷ without test ys)
  cases true zero p h rest = refl
  cases true (suc m) p h rest = absurd (omega arith)
  cases false zero p h rest = absurd (omega arith)
  cases false (suc m) p h rest = ap (λ (zs : List A). y ∷ zs) (rest m (omega arith) (omega arith))

-- the first that passes, taken from its place
pub removed-there : {A : Type 0} (test : A → Bool) (xs : List A) (place : ℕ) → position test xs ≡ Some place → remove xs place ≡ without test xs
removed-there test xs place p = let is = place-is test xs place p in removed-at test xs place is.0 is.1

-- the account of the row at the place where a test passes is the one that the test finds
pub found-there : (test : Account → Bool) (rows : List Row) (place : ℕ) (row : Row) → position (λ (r : Row). test r.account) rows ≡ Some place
    → row ≡ slice_index_or rows place row → find test (accounts_of rows) ≡ Some row.account
found-there test rows place row p e =
    let found = item-at rows place (place-within (λ (r : Row). test r.account) rows place p) in
    let same : row ≡ found.0 = e ∙ get_or_from_slice_get rows place found.0 row found.1 in
    sym (found-in rows test) ∙ ap (λ q. account_at rows q) p ∙ ap (λ r. option_map (λ (x : Row). x.account) r) found.1
    ∙ ap (λ (r : Row). Some r.account) (sym same)

-- one more of a list mapped from the front on
pub mapped-more : (f : Row → Row) (xs : List Row) (i : ℕ) (d : Row) → i < length xs
    → slice_set (map f (take i xs) ++ drop i xs) i (f (slice_index_or (map f (take i xs) ++ drop i xs) i d)) ≡ map f (take (suc i) xs) ++ drop (suc i) xs
mapped-more f [] i d h = absurd (omega arith)
mapped-more f (x ∷ xs) zero d h = refl
mapped-more f (x ∷ xs) (suc i) d h = ap (λ (rest : List Row). f x ∷ rest) (mapped-more f xs i d (omega arith))

-- ## What a call that may fail did

-- the rows after a call that was done or not
pub done-as : (result : Result Bool Memory) (new done done' before : List Row) → done ≡ done'
    → IfOk result (λ d. new ≡ (if d then done else before)) → IfOk result (λ d. new ≡ (if d then done' else before))
done-as (Ok true) new done done' before e h = h ∙ e
done-as (Ok false) new done done' before e h = h
done-as (Err x) new done done' before e h = tt
