-- Sound accounts: no two have one number or one name, no two passwords have one number, and each account has at most two
-- further factors. Every legal history keeps this of the accounts of its start.
--
-- The ranges that the fields of an account have in a record are those of the records' own crate, which isn't below this one:
-- that a history keeps them too is a law of the machine.
use Rattle.std.specs.Prelude.{◌≡◌, ℕ, ◌+◌, ◌<◌, ◌≤◌, ◌==◌, Bool, true, false, if◌then◌else◌, List, [], ◌∷◌, length, find, Option, Some, None}
use Rattle.std.specs.List.{All}
use Rattle.factor_chain.specs.declared.credentials.Stored.{Stored}
use Rattle.account_rules.specs.declared.accounts.Account.{Account}
use Rattle.stmt_tokens.specs.declared.token.Token.{Token}
use Rattle.stmt_rules.specs.Grammar.{statement}
use Rattle.stmt_rules.specs.declared.statement.Change.{Change}
use Rattle.stmt_rules.specs.declared.statement.Change.TheVariants.{Nothing, Password, Discard, Add, Modify, DropFactor}
use Rattle.stmt_rules.specs.declared.statement.Statement.{Statement}
use Rattle.stmt_rules.specs.declared.statement.Statement.TheVariants.{Create, Alter, Drop, Flush, Grant, Revoke}
use Rattle.account_history.specs.declared.entries.Entry.{Entry}
use Rattle.account_history.specs.declared.entries.Entry.TheVariants.{Observed, Attempted, Executed}
use Rattle.account_history.specs.Given.{Given, given}
use Rattle.account_history.specs.Histories.{History, From, ◌▹◌, after_entries, start_of}
use Rattle.account_history.specs.Legal.{IsLegal}
pub use Rattle.account_history.specs.Naming.{has_password}
use Rattle.account_history.specs.Naming.{is_named}
use Rattle.account_history.specs.Numbers.{Rise, RiseTo}
use Rattle.account_history.specs.Records.{records}
use Rattle.account_history.specs.Refusals.{retains}

-- ## Names

-- no account has the name of one before it
abbrev pub NamesDiffer : List Account → Type 0
NamesDiffer [] = Unit {0}
NamesDiffer (a ∷ accounts) = (find (is_named a.name) accounts ≡ None) × NamesDiffer accounts

-- ## Passwords

abbrev pub once_if : Bool → ℕ
once_if holds = if holds then 1 else 0

-- how many of an account's passwords have a number
abbrev pub uses_in : ℕ → Account → ℕ
uses_in id a = once_if (a.primary_id == id) + once_if (has_password id a.secondary)

-- how many passwords of all accounts have it
abbrev pub uses : ℕ → List Account → ℕ
uses id [] = 0
uses id (a ∷ accounts) = uses_in id a + uses id accounts

-- ## Further factors

-- an account has at most two further factors
abbrev pub HasFewLabels : Account → Type 0
HasFewLabels account = length account.labels ≤ 2

-- ## Sound accounts

pub record AreSound (accounts : List Account) : Type 0 where
  pub numbers : Rise 0 accounts
  pub names : NamesDiffer accounts
  pub passwords : (id : ℕ) → uses id accounts ≤ 1
  pub labels : All HasFewLabels accounts

-- no number is above the greatest that was given
pub record AreUpTo (g : Given) (accounts : List Account) : Type 0 where
  pub numbers : RiseTo 0 g.account accounts
  pub passwords : (id : ℕ) → g.credential < id → uses id accounts ≡ 0

-- ## Statements as the grammar has them

-- a factor that is added is the second or the third
abbrev pub AddsAtMostThird : Change → Type 0
AddsAtMostThird Nothing = Unit {0}
AddsAtMostThird (Password auth) = Unit {0}
AddsAtMostThird Discard = Unit {0}
AddsAtMostThird (Add n factor) = n ≤ 3
AddsAtMostThird (Modify n factor) = Unit {0}
AddsAtMostThird (DropFactor n) = Unit {0}

-- CREATE USER retains no password and has at most two further factors
abbrev pub IsWritten : Statement → Type 0
IsWritten (Create name auth factors options) = (retains auth ≡ false) × (length factors ≤ 2)
IsWritten (Alter target change options) = AddsAtMostThird change
IsWritten (Drop name) = Unit {0}
IsWritten Flush = Unit {0}
IsWritten (Grant privileges name) = Unit {0}
IsWritten (Revoke privileges name) = Unit {0}

abbrev pub HasWritten : Entry → Type 0
HasWritten (Observed who look) = Unit {0}
HasWritten (Attempted attempt) = Unit {0}
HasWritten (Executed execution) = IsWritten execution.statement

-- each statement of a history is as the grammar has it
abbrev pub AreWritten : History → Type 0
AreWritten (From start) = Unit {0}
AreWritten (h ▹ entry) = AreWritten h × HasWritten entry

-- Each statement that the grammar gives is so.
abbrev pub GrammarIsWritten : Type 0
GrammarIsWritten = (v : Statement) (ts rest : List Token) → statement.spells v ts rest → IsWritten v

-- ## The laws

-- From sound accounts every legal history has sound accounts, whose numbers were given.
abbrev pub AccountsAreSound : Type 0
AccountsAreSound =
    (h : History) → AreSound (start_of h).accounts → IsLegal h → AreWritten h → AreSound (records h) × AreUpTo (given h) (records h)

-- A number that was given to a password which no longer stands is the number of no later one.
abbrev pub PasswordsStayGone : Type 0
PasswordsStayGone =
    (h : History) (entries : List Entry) (id : ℕ) → 0 < id → id ≤ (given h).credential → uses id (records h) ≡ 0
    → uses id (records (after_entries h entries)) ≡ 0
