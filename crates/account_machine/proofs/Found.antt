-- The account that a test finds, by its place and by what holds of all.
use Rattle.std.proofs.Common.{◌≡◌, sym, ◌∙◌, suc, List, [], ◌∷◌, find, cond, Bool, true, false, Some, IfSome, All, arith}
use Rattle.std.specs.List.{position}
use Rattle.account_rules.specs.declared.accounts.Account.{Account}
use Rattle.account_machine.specs.declared.rows.Row.{Row}
use Rattle.account_machine.specs.Looks.{account_at, accounts_of}
use Rattle.account_machine.proofs.Places.{find-position, find-row}

-- the account at the place where a test of rows passes is the one that the test of accounts finds
pub found-in : (rows : List Row) (p : Account → Bool) → account_at rows (position (λ row. p row.account) rows) ≡ find p (accounts_of rows)
found-in rows p = sym (find-row p rows ∙ find-position (λ row. p row.account) rows)

-- what holds of each account holds of one that is found
pub all-found : (P : Account → Type 0) (test : Account → Bool) (xs : List Account) → All P xs → IfSome (find test xs) P
all-found P test [] all = tt
all-found P test (x ∷ xs) all = cases (all-found P test xs (λ k d h. all (suc k) d (omega arith))) (test x) where
  cases : IfSome (find test xs) P → (b : Bool) → IfSome (cond b (Some x) (find test xs)) P
  cases later true = all 0 x (omega arith)
  cases later false = later
