-- The numbers of accounts rise in every history, and none is given twice.
use Rattle.std.specs.Prelude.{◌≡◌, ℕ, ◌<◌, ◌≤◌, List, [], ◌∷◌, find, None}
use Rattle.account_rules.specs.declared.accounts.Account.{Account}
use Rattle.account_history.specs.declared.entries.Entry.{Entry}
use Rattle.account_history.specs.Given.{given}
use Rattle.account_history.specs.Histories.{History, after_entries, start_of}
use Rattle.account_history.specs.Naming.{has_id}
use Rattle.account_history.specs.Records.{records}

-- the accounts' numbers rise, the first of them above a number
abbrev pub Rise : ℕ → List Account → Type 0
Rise low [] = Unit {0}
Rise low (account ∷ accounts) = (low < account.id) × Rise account.id accounts

-- and the last of them is at most another
abbrev pub RiseTo : (low high : ℕ) → List Account → Type 0
RiseTo low high [] = low ≤ high
RiseTo low high (account ∷ accounts) = (low < account.id) × RiseTo account.id high accounts

-- Where the numbers rise at the start, they rise after every history, up to the greatest that was given.
abbrev pub NumbersRise : Type 0
NumbersRise = (h : History) → Rise 0 (start_of h).accounts → RiseTo 0 (given h).account (records h)

-- A number that was given, and whose account no longer stands, is the number of no later account.
abbrev pub NumbersStayGone : Type 0
NumbersStayGone =
    (h : History) (entries : List Entry) (id : ℕ) → id ≤ (given h).account → find (has_id id) (records h) ≡ None
    → find (has_id id) (records (after_entries h entries)) ≡ None
