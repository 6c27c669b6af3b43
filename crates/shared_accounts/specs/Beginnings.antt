-- What a book of accounts began with, and the history of what was added since.
use Rattle.std.specs.Prelude.{◌≡◌, List, Some}
use Rattle.account_history.specs.declared.entries.Entry.{Entry}
use Rattle.account_history.specs.declared.entries.Log.{Log}
use Rattle.account_history.specs.Histories.{History, history}
use Rattle.account_history.specs.Records.{records}
use Rattle.account_machine.specs.Restarts.{rows_kept}
use Rattle.shared_accounts.specs.declared.desk.Begun.{Begun}

-- these entries behind the start of the accounts
abbrev pub log_of : Begun → List Entry → Log
log_of begun entries = record { start = begun.log.start; entries = entries }

abbrev pub history_of : Begun → List Entry → History
history_of begun entries = history (log_of begun entries)

-- the keeper told the records of the accounts
abbrev pub BeganRecorded : Begun → Type 0
BeganRecorded begun = begun.rows ≡ Some (rows_kept (records (history begun.log)))
