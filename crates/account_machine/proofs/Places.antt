-- The place that is found is that of the account in force.
use Rattle.std.proofs.Common.{◌≡◌, refl, ℕ, zero, suc, ◌<◌, List, [], ◌∷◌, length, find, Bool, true, false, cond, Some, None, option_map, arith, slice_get, nat_lt, ltb-true, ltb-false}
use Rattle.std.specs.List.{position, position_or_len}
use Rattle.std.proofs.lemmas.List.Folds.{find_at}
use Rattle.std.proofs.lemmas.Option.{slice_get_past}
use Rattle.lg_base.specs.declared.names.Host.TheVariants as host
use Rattle.account_rules.specs.declared.accounts.Account.{Account}
use Rattle.account_history.specs.Records.{in_force, is_at, or_else}
use Rattle.account_machine.specs.declared.rows.Row.{Row}
use Rattle.account_machine.specs.Looks.{account_at, accounts_of}
use Rattle.account_machine.specs.Rows.{place_in_force}

-- a test of accounts finds the account of the row that the same test of rows finds
pub find-row : (p : Account → Bool) (rows : List Row) → find p (accounts_of rows) ≡ option_map (λ row. row.account) (find (λ row. p row.account) rows)
find-row p [] = refl
find-row p (row ∷ rows) = rw (find-row p rows) (cases (p row.account)) where
  cases : (b : Bool) → cond b (Some row.account) (option_map (λ (r : Row). r.account) (find (λ r. p r.account) rows))
      ≡ option_map (λ (r : Row). r.account) (cond b (Some row) (find (λ r. p r.account) rows))
  cases true = refl
  cases false = refl

-- the row that a test finds is the one at its position
pub find-position : (p : Row → Bool) (rows : List Row) → option_map (λ (r : Row). r.account) (find p rows) ≡ account_at rows (position p rows)
find-position p rows = rw (find_at p rows) (cases (nat_lt (position_or_len p rows) (length rows)) refl) where
  cases : (b : Bool) → nat_lt (position_or_len p rows) (length rows) ≡ b
      → option_map (λ (r : Row). r.account) (slice_get rows (position_or_len p rows)) ≡ account_at rows (cond b (Some (position_or_len p rows)) None)
  cases true e = refl
  cases false e = rw (slice_get_past rows (position_or_len p rows) (ltb-false (position_or_len p rows) (length rows) e)) refl

-- a place within a list has an element
pub item-at : {A : Type 0} (xs : List A) (place : ℕ) → place < length xs → (x : A) × (slice_get xs place ≡ Some x)
item-at [] place h = absurd (omega arith)
item-at (x ∷ xs) zero h = (x, refl)
item-at (x ∷ xs) (suc place) h = item-at xs place (omega arith)

-- an account at a found place comes first
or-place : (rows : List Row) (p q : Row → Bool)
    → or_else (account_at rows (position p rows)) (account_at rows (position q rows)) ≡ account_at rows (or_else (position p rows) (position q rows))
or-place rows p q = cases (nat_lt (position_or_len p rows) (length rows)) refl where
  n : ℕ
  n = position_or_len p rows

  cases : (b : Bool) → nat_lt (position_or_len p rows) (length rows) ≡ b
      → or_else (account_at rows (cond b (Some (position_or_len p rows)) None)) (account_at rows (position q rows))
      ≡ account_at rows (or_else (cond b (Some (position_or_len p rows)) None) (position q rows))
  cases true e =
      let found = item-at rows (position_or_len p rows) (ltb-true (position_or_len p rows) (length rows) e) in
      rw found.1 refl
  cases false e = refl

-- the account that stands at a user's place
pub in_force-place : (rows : List Row) (user : List ℕ) → in_force (accounts_of rows) user ≡ account_at rows (place_in_force rows user)
in_force-place rows user =
    rw (
      find-row (is_at user host.Localhost) rows,
      find-row (is_at user host.Any) rows,
      find-position (λ row. is_at user host.Localhost row.account) rows,
      find-position (λ row. is_at user host.Any row.account) rows,
    )
    (or-place rows (λ row. is_at user host.Localhost row.account) (λ row. is_at user host.Any row.account))

-- a found place is within the rows
pub place-within : (rows : List Row) (user : List ℕ) (place : ℕ) → place_in_force rows user ≡ Some place → place < length rows
place-within rows user place e = cases (nat_lt (position_or_len p rows) (length rows)) (nat_lt (position_or_len q rows) (length rows)) refl refl e where
  p : Row → Bool
  p = λ row. is_at user host.Localhost row.account

  q : Row → Bool
  q = λ row. is_at user host.Any row.account

  cases : (b c : Bool) → nat_lt (position_or_len p rows) (length rows) ≡ b → nat_lt (position_or_len q rows) (length rows) ≡ c
      → or_else (cond b (Some (position_or_len p rows)) None) (cond c (Some (position_or_len q rows)) None) ≡ Some place → place < length rows
  cases true c eb ec f = let same : position_or_len p rows ≡ place = cc in let h = ltb-true (position_or_len p rows) (length rows) eb in omega arith
  cases false true eb ec f = let same : position_or_len q rows ≡ place = cc in let h = ltb-true (position_or_len q rows) (length rows) ec in omega arith
  cases false false eb ec f = absurd (cc)
