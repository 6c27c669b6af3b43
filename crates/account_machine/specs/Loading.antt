-- Accounts that are loaded from the rows of a keeper: each row is the record of one account, whose number is the row's key.
use Rattle.std.specs.Prelude.{◌≡◌, ◌≢◌, ℕ, ◌+◌, List, [], ◌∷◌, ◌++◌, find, Option, Some, None, Result, Ok, Err}
use Rattle.std.specs.List.{AllZip}
use Rattle.factor_chain.specs.declared.credentials.Stored.{Stored}
use Rattle.lg_outside.specs.declared.keepers.Row.{Row as Kept}
use Rattle.account_rules.specs.declared.accounts.Account.{Account}
use Rattle.account_rules.specs.declared.accounts.Settings.{Settings}
use Rattle.account_keeper.specs.Records.{IsRecord}
use Rattle.account_history.specs.declared.entries.Log.{Log}
use Rattle.account_history.specs.Given.{greatest_given}
use Rattle.account_history.specs.Histories.{latest_moment}
use Rattle.account_history.specs.Naming.{is_named}
use Rattle.account_history.specs.Sound.{NamesDiffer}
use Rattle.account_machine.specs.Executing.{given_of}
use Rattle.account_machine.specs.Openings.{root_account}
use Rattle.account_machine.specs.Rows.{new_rows}
use Rattle.account_machine.specs.declared.loading.Loaded.{Loaded}
use Rattle.account_machine.specs.declared.loading.MachineFault.{MachineFault}
use Rattle.account_machine.specs.declared.loading.MachineFault.TheVariants.{BadRow, Memory}
use Rattle.account_machine.specs.declared.rows.Row.{Row}

-- ## Which rows are records

abbrev pub IsRowOf : Kept → Account → Type 0
IsRowOf row a = IsRecord row.key a row.bytes

-- the rows are the records of these accounts, in order, and no name stands twice
pub record AreLoadable (rows : List Kept) (accounts : List Account) : Type 0 where
  pub records : AllZip IsRowOf rows accounts
  pub names : NamesDiffer accounts

-- a row behind those of these accounts is no record, or its account's name stands among them
abbrev pub IsBad : List Account → Kept → Type 0
IsBad before row = (a : Account) → IsRowOf row a → find (is_named a.name) before ≢ None

-- the key of the first bad row
pub record IsFirstBad (rows : List Kept) (key : ℕ) : Type 0 where
  pub before : List Kept
  pub row : Kept
  pub rest : List Kept
  pub accounts : List Account
  pub stands : rows ≡ before ++ row ∷ rest
  pub good : AreLoadable before accounts
  pub bad : IsBad accounts row
  pub its_key : row.key ≡ key

-- ## The accounts that are loaded

-- how many passwords an account has
abbrev pub passwords_of : Option (Stored × ℕ) → ℕ
passwords_of None = 1
passwords_of (Some second) = 2

abbrev pub numbered_secondary : ℕ → Option (Stored × ℕ) → Option (Stored × ℕ)
numbered_secondary id None = None
numbered_secondary id (Some second) = Some (second.0, id)

-- an account whose passwords have the next numbers behind the last
abbrev pub numbered_account : (last : ℕ) → Account → Account
numbered_account last a = record a { primary_id = last + 1; secondary = numbered_secondary (last + 2) a.secondary }

abbrev pub numbered : (last : ℕ) → List Account → List Account
numbered last [] = []
numbered last (a ∷ accounts) = numbered_account last a ∷ numbered (last + passwords_of a.secondary) accounts

-- the last number that is given
abbrev pub last_number : (last : ℕ) → List Account → ℕ
last_number last [] = last
last_number last (a ∷ accounts) = last_number (last + passwords_of a.secondary) accounts

-- the same of rows
abbrev pub numbered_rows : (last : ℕ) → List Row → List Row
numbered_rows last [] = []
numbered_rows last (row ∷ rows) =
    record row { account = numbered_account last row.account } ∷ numbered_rows (last + passwords_of row.account.secondary) rows

-- The numbers of passwords are given from 1 on, in order. Without a row the root account stands alone.
abbrev pub loaded_accounts : List Account → List Account
loaded_accounts [] = root_account ∷ []
loaded_accounts (a ∷ accounts) = numbered 0 (a ∷ accounts)

abbrev pub loaded : List Account → Settings → Log
loaded accounts settings = record { start = record { accounts = loaded_accounts accounts; settings = settings; count = 0 }; entries = [] }

-- what the machine keeps of accounts without an entry
pub record Keeps (made : Loaded) (accounts : List Account) : Type 0 where
  pub rows : made.rows.items ≡ new_rows accounts
  pub numbers : given_of made.numbers ≡ greatest_given accounts
  pub moment : made.moment ≡ latest_moment accounts

-- ## What a load answers

abbrev pub IsLoaded : List Kept → Settings → Log → Type 0
IsLoaded rows settings log = (accounts : List Account) × AreLoadable rows accounts × (log ≡ loaded accounts settings)

-- why nothing is loaded
abbrev pub IsFault : List Kept → MachineFault → Type 0
IsFault rows (BadRow key) = IsFirstBad rows key
IsFault rows Memory = Unit {0}

-- why one row isn't, behind those of these accounts
abbrev pub IsRowFault : List Account → Kept → MachineFault → Type 0
IsRowFault before row (BadRow key) = IsBad before row × (row.key ≡ key)
IsRowFault before row Memory = Unit {0}

-- what is given fits, unless memory is wanting
abbrev pub Loads : {A : Type 0} → (A → Type 0) → Result A MachineFault → Type 0
Loads Is (Ok made) = Is made
Loads Is (Err fault) = fault ≡ Memory

-- where this is the key of the first bad row, the fault names it, unless memory was wanting
abbrev pub Names : (key : ℕ) → MachineFault → Type 0
Names key (BadRow named) = named ≡ key
Names key Memory = Unit {0}

-- so nothing is loaded
abbrev pub Refuses : {A : Type 0} → (key : ℕ) → Result A MachineFault → Type 0
Refuses key (Ok made) = ⊥
Refuses key (Err fault) = Names key fault
