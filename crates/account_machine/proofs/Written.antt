-- One row written is the rows of the history with the attempt.
use Rattle.std.proofs.Common.{◌≡◌, ◌≢◌, refl, ap, sym, ℕ, zero, suc, ◌<◌, ◌==◌, List, [], ◌∷◌, map, false, Some, None, subst, arith, slice_get, slice_set, ne_eqb}
use Rattle.account_rules.specs.declared.accounts.Account.{Account}
use Rattle.account_history.specs.declared.entries.Attempt.{Attempt}
use Rattle.account_history.specs.declared.entries.Entry.TheVariants.{Observed, Attempted}
use Rattle.account_history.specs.Failures.{failures}
use Rattle.account_history.specs.Histories.{History, ◌▹◌}
use Rattle.account_history.specs.Records.{in_force, records}
use Rattle.account_history.proofs.OneMore.{failures-nobody, failures-observed, failures-other}
use Rattle.login_lock.specs.Lock.{tally_of}
use Rattle.account_history.specs.declared.entries.Who.{Who}
use Rattle.factor_chain.specs.declared.credentials.Look.{Look}
use Rattle.account_machine.specs.Looks.{accounts_of}
use Rattle.account_machine.specs.declared.rows.Row.{Row}
use Rattle.account_machine.specs.Rows.{Rise, row_of, rows_of}

-- a list mapped by a function, with the other function's value at one place, where they agree elsewhere
map-set : {A B : Type 0} (f g : A → B) (xs : List A) (i : ℕ) (x : A) → slice_get xs i ≡ Some x
    → ((j : ℕ) (y : A) → slice_get xs j ≡ Some y → j ≢ i → f y ≡ g y) → slice_set (map f xs) i (g x) ≡ map g xs
map-set f g [] i x e same = refl
map-set {A} {B} f g (y ∷ ys) zero x e same =
    let head : x ≡ y = cc in
    rw head (ap (λ (zs : List B). g y ∷ zs) (agree ys (λ j z h. same (suc j) z h (λ n. omega arith)))) where
      agree : (zs : List A) → ((j : ℕ) (z : A) → slice_get zs j ≡ Some z → f z ≡ g z) → map f zs ≡ map g zs
      agree [] h = refl
      agree (z ∷ zs) h = λ i'. h zero z refl i' ∷ agree zs (λ j w k. h (suc j) w k) i'
map-set {A} {B} f g (y ∷ ys) (suc i) x e same =
    λ k. same zero y refl (λ n. omega arith) k ∷ map-set f g ys i x e (λ j z h d. same (suc j) z h (λ n. d (omega arith))) k

-- numbers that rise differ from the lowest
rise-above : (low : ℕ) (accounts : List Account) (i : ℕ) (account : Account) → Rise low accounts → slice_get accounts i ≡ Some account → low < account.id
rise-above low [] i account r e = absurd (cc)
rise-above low (first ∷ accounts) zero account r e = let same : first ≡ account = cc in subst (λ (a : Account). low < a.id) same r.0
rise-above low (first ∷ accounts) (suc i) account r e = let h = rise-above first.id accounts i account r.1 e in let k : low < first.id = r.0 in omega arith

-- accounts at two places have two numbers
rise-differ : (low : ℕ) (accounts : List Account) (i j : ℕ) (a b : Account) → Rise low accounts
    → slice_get accounts i ≡ Some a → slice_get accounts j ≡ Some b → j ≢ i → (a.id == b.id) ≡ false
rise-differ low [] i j a b r e f d = absurd (cc)
rise-differ low (x ∷ xs) zero zero a b r e f d = absurd (d refl)
rise-differ low (x ∷ xs) zero (suc j) a b r e f d =
    let same : x ≡ a = cc in let above = rise-above x.id xs j b r.1 f in
    ne_eqb a.id b.id (λ n. let k : x.id ≡ a.id = ap (λ (y : Account). y.id) same in absurd (omega arith))
rise-differ low (x ∷ xs) (suc i) zero a b r e f d =
    let same : x ≡ b = cc in let above = rise-above x.id xs i a r.1 e in
    ne_eqb a.id b.id (λ n. let k : x.id ≡ b.id = ap (λ (y : Account). y.id) same in absurd (omega arith))
rise-differ low (x ∷ xs) (suc i) (suc j) a b r e f d = rise-differ x.id xs i j a b r.1 e f (λ n. d (ap (λ k. suc k) n))

-- a row is the same where its failures are
pub row-same : (h k : History) (account : Account) → failures k account.id ≡ failures h account.id → row_of h account ≡ row_of k account
row-same h k account e = λ i. record { account = account; tally = tally_of account.lock (sym e i) }

-- the row of the account in force, written
pub rows-on : (h : History) (t : Attempt) (i : ℕ) (account : Account) → Rise 0 (records h)
    → slice_get (records h) i ≡ Some account → in_force (records h) t.user ≡ Some account
    → slice_set (rows_of h) i (row_of (h ▹ Attempted t) account) ≡ rows_of (h ▹ Attempted t)
rows-on h t i account r e f =
    map-set (row_of h) (row_of (h ▹ Attempted t)) (records h) i account e
    (λ j other g d. row-same h (h ▹ Attempted t) other (failures-other h t account other.id f (rise-differ 0 (records h) i j account other r e g d)))

pub map-agree : {A B : Type 0} (f g : A → B) (xs : List A) → ((x : A) → f x ≡ g x) → map f xs ≡ map g xs
map-agree f g [] h = refl
map-agree f g (x ∷ xs) h = λ i. h x i ∷ map-agree f g xs h i

-- no row changes without an account in force
pub rows-nobody : (h : History) (t : Attempt) → in_force (records h) t.user ≡ None → rows_of h ≡ rows_of (h ▹ Attempted t)
rows-nobody h t e = map-agree (row_of h) (row_of (h ▹ Attempted t)) (records h) (λ account. row-same h (h ▹ Attempted t) account (failures-nobody h t account.id e))

-- a look changes no row
pub rows-observed : (h : History) (who : Who) (look : Look) → rows_of h ≡ rows_of (h ▹ Observed who look)
rows-observed h who look = map-agree (row_of h) (row_of (h ▹ Observed who look)) (records h) (λ account. row-same h (h ▹ Observed who look) account (failures-observed h who look account.id))

-- the accounts of the rows
pub accounts-rows : (h : History) → accounts_of (rows_of h) ≡ records h
accounts-rows h = again (records h) where
  again : (accounts : List Account) → map (λ (row : Row). row.account) (map (row_of h) accounts) ≡ accounts
  again [] = refl
  again (account ∷ accounts) = ap (λ rest. account ∷ rest) (again accounts)
