-- What a statement that isn't refused does to the rows that the machine keeps, and to those that the keeper tells.
use Rattle.std.specs.Prelude.{ℕ, Bool, true, false, if◌then◌else◌, List, [], ◌∷◌, ◌++◌, map, Option, Some, None, IfSome}
use Rattle.lg_outside.specs.Keeping.{put_row, remove_row}
use Rattle.lg_outside.specs.declared.keepers.Row.{Row as Kept}
use Rattle.account_keeper.specs.Record.{FitsRecord, record_text}
use Rattle.login_lock.specs.declared.Tally.{Tally}
use Rattle.account_rules.specs.declared.accounts.Account.{Account}
use Rattle.stmt_rules.specs.declared.statement.Statement.{Statement}
use Rattle.stmt_rules.specs.declared.statement.Statement.TheVariants.{Create, Alter, Drop, Flush, Grant, Revoke}
use Rattle.account_history.specs.Effects.{altered, created, granted, revoked, with_changed, without}
use Rattle.account_history.specs.Given.{Given}
use Rattle.account_history.specs.Options.{clear_failures}
use Rattle.account_history.specs.Targets.{is_named_by, target_of}
use Rattle.account_machine.specs.declared.executing.Numbers.{Numbers}
use Rattle.account_machine.specs.declared.rows.Row.{Row}

abbrev pub given_of : Numbers → Given
given_of numbers = record { account = numbers.account; credential = numbers.credential }

abbrev pub no_failures : Tally
no_failures = record { count = 0; locked = None }

-- an account that is changed, and its failures cleared or not
abbrev pub row_with : Bool → (Account → Account) → Row → Row
row_with clears change row = record { account = change row.account; tally = if clears then no_failures else row.tally }

-- the account after a statement that changes it
abbrev pub next_of : Statement → Given → (salt : List ℕ) → (now : ℕ) → Account → Account
next_of (Create name auth factors options) given salt now a = a
next_of (Alter target change options) given salt now a = altered given salt now change options a
next_of (Drop name) given salt now a = a
next_of Flush given salt now a = a
next_of (Grant privileges name) given salt now a = granted privileges a
next_of (Revoke privileges name) given salt now a = revoked privileges a

-- it clears the failures that count against it
abbrev pub clears_of : Statement → Bool
clears_of (Create name auth factors options) = false
clears_of (Alter target change options) = clear_failures options
clears_of (Drop name) = false
clears_of Flush = false
clears_of (Grant privileges name) = false
clears_of (Revoke privileges name) = false

abbrev pub rows_changed : Statement → Given → (actor : ℕ) → (salt : List ℕ) → (now : ℕ) → List Row → List Row
rows_changed statement given actor salt now rows =
    with_changed (λ row. is_named_by statement actor row.account) (row_with (clears_of statement) (next_of statement given salt now)) rows

abbrev pub rows_after : Statement → Given → (actor : ℕ) → (salt : List ℕ) → (now : ℕ) → List Row → List Row
rows_after (Create name auth factors options) given actor salt now rows =
    rows ++ record { account = created given salt now name auth factors options; tally = no_failures } ∷ []
rows_after (Alter target change options) given actor salt now rows = rows_changed (Alter target change options) given actor salt now rows
rows_after (Drop name) given actor salt now rows = without (λ row. is_named_by (Drop name) actor row.account) rows
rows_after Flush given actor salt now rows = map (row_with true (λ a. a)) rows
rows_after (Grant privileges name) given actor salt now rows = rows_changed (Grant privileges name) given actor salt now rows
rows_after (Revoke privileges name) given actor salt now rows = rows_changed (Revoke privileges name) given actor salt now rows

abbrev pub put_account : Account → List Kept → List Kept
put_account a kept = put_row a.id (record_text a) kept

abbrev pub put_target : (Account → Account) → Option Account → List Kept → List Kept
put_target next None kept = kept
put_target next (Some a) kept = put_account (next a) kept

abbrev pub remove_target : Option Account → List Kept → List Kept
remove_target None kept = kept
remove_target (Some a) kept = remove_row a.id kept

-- one record is put or removed; FLUSH PRIVILEGES changes none
abbrev pub kept_after : Statement → Given → (actor : ℕ) → (salt : List ℕ) → (now : ℕ) → List Account → List Kept → List Kept
kept_after (Create name auth factors options) given actor salt now accounts kept = put_account (created given salt now name auth factors options) kept
kept_after (Alter target change options) given actor salt now accounts kept =
    put_target (altered given salt now change options) (target_of accounts (Alter target change options) actor) kept
kept_after (Drop name) given actor salt now accounts kept = remove_target (target_of accounts (Drop name) actor) kept
kept_after Flush given actor salt now accounts kept = kept
kept_after (Grant privileges name) given actor salt now accounts kept =
    put_target (granted privileges) (target_of accounts (Grant privileges name) actor) kept
kept_after (Revoke privileges name) given actor salt now accounts kept =
    put_target (revoked privileges) (target_of accounts (Revoke privileges name) actor) kept

-- the account that a statement makes or changes has a record
abbrev pub NextFits : Statement → Given → (actor : ℕ) → (salt : List ℕ) → (now : ℕ) → List Account → Type 0
NextFits (Create name auth factors options) given actor salt now accounts = FitsRecord (created given salt now name auth factors options)
NextFits (Alter target change options) given actor salt now accounts =
    IfSome (target_of accounts (Alter target change options) actor) (λ a. FitsRecord (next_of (Alter target change options) given salt now a))
NextFits (Drop name) given actor salt now accounts = Unit {0}
NextFits Flush given actor salt now accounts = Unit {0}
NextFits (Grant privileges name) given actor salt now accounts =
    IfSome (target_of accounts (Grant privileges name) actor) (λ a. FitsRecord (next_of (Grant privileges name) given salt now a))
NextFits (Revoke privileges name) given actor salt now accounts =
    IfSome (target_of accounts (Revoke privileges name) actor) (λ a. FitsRecord (next_of (Revoke privileges name) given salt now a))
