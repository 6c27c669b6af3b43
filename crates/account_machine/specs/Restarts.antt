-- What a keeper tells after a run, and what is loaded of it when the server starts again.
use Rattle.std.specs.Prelude.{◌≡◌, ◌<◌, ◌≤◌, ◌^◌, max, List, map, if◌then◌else◌}
use Rattle.std.specs.List.{All}
use Rattle.lg_outside.specs.Keeping.{Ascend}
use Rattle.lg_outside.specs.declared.keepers.Row.{Row as Kept}
use Rattle.account_rules.specs.declared.accounts.Account.{Account}
use Rattle.account_keeper.specs.Record.{FitsRecord, record_text}
use Rattle.account_keeper.specs.Records.{as_kept}
use Rattle.account_history.specs.declared.entries.Entry.{Entry}
use Rattle.account_history.specs.declared.entries.Entry.TheVariants.{Observed, Attempted, Executed}
use Rattle.account_history.specs.Given.{given, is_done}
use Rattle.account_history.specs.Histories.{History, From, ◌▹◌, moment, start_of}
use Rattle.account_history.specs.Legal.{IsLegal}
use Rattle.account_history.specs.Numbers.{Rise}
use Rattle.account_history.specs.Preparing.{IsSalt}
use Rattle.account_history.specs.Records.{records}
use Rattle.account_history.specs.Sound.{AreSound, AreWritten}
use Rattle.account_machine.specs.Executing.{kept_after}
use Rattle.account_machine.specs.Loading.{AreLoadable}

-- ## Rows along a run

-- the row of an account's record
abbrev pub row_kept : Account → Kept
row_kept a = record { key = a.id; bytes = record_text a }

abbrev pub rows_kept : List Account → List Kept
rows_kept accounts = map row_kept accounts

-- what the keeper tells after a history that began with the rows of its accounts: each statement that was done put or removed
-- its row
abbrev pub rows_after : History → List Kept
rows_after (From start) = rows_kept start.accounts
rows_after (h ▹ Observed who look) = rows_after h
rows_after (h ▹ Attempted attempt) = rows_after h
rows_after (h ▹ Executed e) =
    if is_done e.reply
    then kept_after e.statement (given h) e.actor e.salt (max e.reading (moment h)) (records h) (rows_after h)
    else rows_after h

-- The rows that are told after a history are the records of its accounts. Where no account is left, there is no row.
abbrev pub RowsAreRecords : Type 0
RowsAreRecords = (h : History) → Rise 0 (start_of h).accounts → rows_after h ≡ rows_kept (records h)

-- ## Records that fit

-- a reading of the clock is below 2 ^ 64, and a salt is one
abbrev pub HasRanges : Entry → Type 0
HasRanges (Observed who look) = Unit {0}
HasRanges (Attempted attempt) = attempt.reading < 2 ^ 64
HasRanges (Executed execution) = (execution.reading < 2 ^ 64) × IsSalt execution.salt

abbrev pub HaveRanges : History → Type 0
HaveRanges (From start) = Unit {0}
HaveRanges (h ▹ entry) = HaveRanges h × HasRanges entry

-- From accounts that have a record every legal history has accounts that have one.
abbrev pub RecordsFit : Type 0
RecordsFit =
    (h : History) → All FitsRecord (start_of h).accounts → IsLegal h → AreWritten h → HaveRanges h → All FitsRecord (records h)

-- ## Restarts

-- an account as its record is read, without the numbers of its passwords
abbrev pub as_read : Account → Account
as_read a = as_kept a.id a

-- rows that can be loaded, as these accounts but for the numbers of passwords
pub record AreLoadedAgain (rows : List Kept) (accounts : List Account) : Type 0 where
  pub ascend : Ascend rows
  pub loadable : AreLoadable rows (map as_read accounts)

-- A restart: the rows that are told after a history are loaded as its accounts. The greatest number of an account is one that
-- a record may have.
abbrev pub RestartsKeepAccounts : Type 0
RestartsKeepAccounts =
    (h : History) → All FitsRecord (start_of h).accounts → AreSound (start_of h).accounts → IsLegal h → AreWritten h → HaveRanges h
    → (given h).account ≤ 2 ^ 62 → AreLoadedAgain (rows_after h) (records h)
