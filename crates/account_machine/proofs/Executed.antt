-- The rows after a statement that was done are those of the history with it.
use Rattle.std.proofs.Common.{◌≡◌, refl, ap, sym, ◌∙◌, ℕ, ◌<◌, ◌≤◌, List, [], ◌∷◌, map, find, cond, Bool, true, false, ◌&&◌, if◌then◌else◌, ◌||◌, Option, Some, None, is_some, subst, arith, ne_eqb}
use Rattle.login_lock.specs.declared.LockRule.{LockRule}
use Rattle.login_lock.specs.Lock.{tally_of}
use Rattle.account_rules.specs.declared.accounts.Account.{Account}
use Rattle.account_history.specs.declared.entries.Entry.TheVariants.{Executed}
use Rattle.account_history.specs.declared.entries.Execution.{Execution}
use Rattle.stmt_rules.specs.declared.statement.Change.{Change}
use Rattle.stmt_rules.specs.declared.statement.Change.TheVariants.{Nothing, Password, Discard, Add, Modify, DropFactor}
use Rattle.stmt_rules.specs.declared.statement.Time.{Time}
use Rattle.account_history.specs.Effects.{changed, expired_without, with_changed, without}
use Rattle.account_history.specs.Failures.{clears_failures, failures}
use Rattle.account_history.specs.Given.{given, is_done}
use Rattle.account_history.specs.Histories.{History, ◌▹◌}
use Rattle.account_history.specs.Naming.{has_id}
use Rattle.account_history.specs.Numbers.{Rise}
use Rattle.account_history.specs.Options.{attempts_after, time_after}
use Rattle.account_history.specs.Passwords.{with_password}
use Rattle.account_history.specs.Records.{records}
use Rattle.account_history.specs.Targets.{of_account}
use Rattle.account_history.proofs.OneMore.{failures-executed}
use Rattle.account_machine.specs.Executing.{no_failures}
use Rattle.account_machine.specs.declared.rows.Row.{Row}
use Rattle.account_machine.specs.Rows.{row_of}

-- the number of an account that is found is above the lowest
pub found-above : (test : Account → Bool) (low : ℕ) (xs : List Account) (a : Account) → Rise low xs → find test xs ≡ Some a → low < a.id
found-above test low [] a r e = absurd (cc)
found-above test low (x ∷ xs) a r e = cases (test x) e (λ f. found-above test x.id xs a r.1 f) where
  cases : (b : Bool) → cond b (Some x) (find test xs) ≡ Some a → (find test xs ≡ Some a → x.id < a.id) → low < a.id
  cases true e later = let same : x ≡ a = cc in subst (λ (y : Account). low < y.id) same r.0
  cases false e later = let h = later e in let k : low < x.id = r.0 in omega arith

-- an account before the one that is found isn't it
not-found : (test : Account → Bool) (x : Account) (xs : List Account) → Rise x.id xs → of_account (has_id x.id) (find test xs) ≡ false
not-found test x xs r = cases (find test xs) refl where
  cases : (o : Option Account) → find test xs ≡ o → of_account (has_id x.id) o ≡ false
  cases None e = refl
  cases (Some a) e = ne_eqb a.id x.id (λ n. let h = found-above test x.id xs a r e in absurd (omega arith))

-- an account behind it isn't it either
behind : (x : Account) (low : ℕ) (xs : List Account) → Rise low xs → x.id ≤ low → (f g : Account → Row)
    → ((b : Account) → of_account (has_id b.id) (Some x) ≡ false → f b ≡ g b) → map f xs ≡ map g xs
behind x low [] r h f g same = refl
behind x low (b ∷ xs) r h f g same =
    λ i. same b (ne_eqb x.id b.id (λ n. let k : low < b.id = r.0 in absurd (omega arith))) i
    ∷ behind x b.id xs r.1 (let k : low < b.id = r.0 in omega arith) f g same i

-- Rows of accounts, where the first that passes is changed and the others are as before.
pub rows-changed-to : (f g : Account → Row) (test : Account → Bool) (change : Account → Account) (move : Row → Row)
    → ((a : Account) → (f a).account ≡ a)
    → (low : ℕ) (xs : List Account) → Rise low xs
    → ((b : Account) → of_account (has_id b.id) (find test xs) ≡ false → f b ≡ g b)
    → ((a : Account) → find test xs ≡ Some a → move (f a) ≡ g (change a))
    → with_changed (λ row. test row.account) move (map f xs) ≡ map g (with_changed test change xs)
rows-changed-to f g test change move is low [] r same there = refl
rows-changed-to f g test change move is low (x ∷ xs) r same there =
    ap (λ (a : Account). cond (test a) (move (f x) ∷ map f xs) (f x ∷ with_changed (λ (row : Row). test row.account) move (map f xs))) (is x)
    ∙ cases (test x) same there (rows-changed-to f g test change move is x.id xs r.1) where
      cases : (b : Bool) → ((y : Account) → of_account (has_id y.id) (cond b (Some x) (find test xs)) ≡ false → f y ≡ g y)
          → ((a : Account) → cond b (Some x) (find test xs) ≡ Some a → move (f a) ≡ g (change a))
          → (((y : Account) → of_account (has_id y.id) (find test xs) ≡ false → f y ≡ g y)
          → ((a : Account) → find test xs ≡ Some a → move (f a) ≡ g (change a))
          → with_changed (λ (row : Row). test row.account) move (map f xs) ≡ map g (with_changed test change xs))
          → cond b (move (f x) ∷ map f xs) (f x ∷ with_changed (λ (row : Row). test row.account) move (map f xs))
          ≡ map g (cond b (change x ∷ xs) (x ∷ with_changed test change xs))
      cases true same there rest = λ i. there x refl i ∷ behind x x.id xs r.1 (omega arith) f g same i
      cases false same there rest = λ i. same x (not-found test x xs r.1) i ∷ rest same there i

-- Rows of accounts that are as before, without the first that passes.
pub rows-without : (f g : Account → Row) (test : Account → Bool) → ((a : Account) → (f a).account ≡ a) → ((a : Account) → f a ≡ g a)
    → (xs : List Account) → without (λ row. test row.account) (map f xs) ≡ map g (without test xs)
rows-without f g test is same [] = refl
rows-without f g test is same (x ∷ xs) =
    ap (λ (a : Account). cond (test a) (map f xs) (f x ∷ without (λ (row : Row). test row.account) (map f xs))) (is x)
    ∙ cases (test x) (rows-without f g test is same xs) (agree xs) where
      agree : (ys : List Account) → map f ys ≡ map g ys
      agree [] = refl
      agree (y ∷ ys) = λ i. same y i ∷ agree ys i

      cases : (b : Bool) → without (λ (row : Row). test row.account) (map f xs) ≡ map g (without test xs) → map f xs ≡ map g xs
          → cond b (map f xs) (f x ∷ without (λ (row : Row). test row.account) (map f xs)) ≡ map g (cond b xs (x ∷ without test xs))
      cases true later all = all
      cases false later all = λ i. same x i ∷ later i

-- ## What a statement that was done clears

module _ (h : History) (e : Execution) where
  pub kept-failures : (id : ℕ) → clears_failures (records h) (given h) e.actor e.statement id ≡ false
      → failures (h ▹ Executed e) id ≡ failures h id
  kept-failures id n =
      failures-executed h e id
      ∙ ap (λ (c : Bool). if is_done e.reply && c then [] else failures h id) n
      ∙ off (is_done e.reply) where
        off : (b : Bool) → (if b && false then [] else failures h id) ≡ failures h id
        off true = refl
        off false = refl

  pub no-failures-left : (id : ℕ) → is_done e.reply ≡ true → clears_failures (records h) (given h) e.actor e.statement id ≡ true
      → failures (h ▹ Executed e) id ≡ []
  no-failures-left id d y =
      failures-executed h e id
      ∙ ap (λ (c : Bool). if is_done e.reply && c then [] else failures h id) y
      ∙ ap (λ (b : Bool). if b && true then [] else failures h id) d

  -- a row of an account whose failures stay, with the account changed but for its number and its lock
  pub row-kept : (a b : Account) → b.id ≡ a.id → b.lock ≡ a.lock → clears_failures (records h) (given h) e.actor e.statement a.id ≡ false
      → record { account = b; tally = (row_of h a).tally } ≡ row_of (h ▹ Executed e) b
  row-kept a b i l n =
      let same : tally_of a.lock (failures h a.id) ≡ tally_of b.lock (failures (h ▹ Executed e) b.id) =
      ap (λ (r : LockRule). tally_of r (failures h a.id)) (sym l)
      ∙ ap (λ (fs : List ℕ). tally_of b.lock fs) (sym (kept-failures a.id n) ∙ ap (λ (id : ℕ). failures (h ▹ Executed e) id) (sym i)) in
      λ k. record { account = b; tally = same k }

  -- a row of an account whose failures are cleared
  pub row-cleared : (b : Account) → is_done e.reply ≡ true → clears_failures (records h) (given h) e.actor e.statement b.id ≡ true
      → record { account = b; tally = no_failures } ≡ row_of (h ▹ Executed e) b
  row-cleared b d y =
      let same : no_failures ≡ tally_of b.lock (failures (h ▹ Executed e) b.id) = ap (λ (fs : List ℕ). tally_of b.lock fs) (sym (no-failures-left b.id d y)) in
      λ k. record { account = b; tally = same k }

-- ## The lock of an account that is changed

pub same-lock : (change : Change) (id : ℕ) (salt : List ℕ) (now : ℕ) (a : Account) → (changed change id salt now a).lock ≡ a.lock
same-lock Nothing id salt now a = refl
same-lock (Password auth) id salt now a = without-by auth.password where
  without-by : (password : Option (List ℕ)) → (expired_without password (with_password id salt now auth a)).lock ≡ a.lock
  without-by None = refl
  without-by (Some password) = refl
same-lock Discard id salt now a = refl
same-lock (Add n factor) id salt now a = refl
same-lock (Modify n factor) id salt now a = refl
same-lock (DropFactor n) id salt now a = refl

pub rule-kept : (attempts : Option ℕ) (time : Option Time) (unlocks : Bool) (rule : LockRule) → (is_some attempts || is_some time || unlocks) ≡ false
    → record { attempts = attempts_after attempts rule.attempts; time = time_after time rule.time } ≡ rule
rule-kept None None unlocks rule e = refl
rule-kept None (Some t) unlocks rule e = absurd (cc)
rule-kept (Some n) time unlocks rule e = absurd (clash (is_some time) unlocks e) where
  clash : (b c : Bool) → (true || b || c) ≡ false → ⊥
  clash true c e = cc
  clash false c e = cc
