-- Histories, and the moment of an entry.
--
-- A history is a start and the entries after it. It is written here by its newest entry, so that each
-- definition says what an entry does after the history before it; `history` and `noted` tie this form to the
-- list of entries, oldest first.
use Rattle.std.specs.Prelude.{ℕ, max, List, [], ◌∷◌, ◌++◌}
use Rattle.factor_chain.specs.declared.credentials.PastRecord.{PastRecord}
use Rattle.account_rules.specs.declared.accounts.Account.{Account}
use Rattle.account_history.specs.declared.entries.Entry.{Entry}
use Rattle.account_history.specs.declared.entries.Entry.TheVariants.{Observed, Attempted, Executed}
use Rattle.account_history.specs.declared.entries.Start.{Start}
use Rattle.account_history.specs.declared.entries.Log.{Log}

pub data History : Type 0 where
  From : Start → History
  ◌▹◌ : History → Entry → History

infixl 5 ◌▹◌
-- the history of a log
abbrev pub after_entries : History → List Entry → History
after_entries h [] = h
after_entries h (entry ∷ entries) = after_entries (h ▹ entry) entries

abbrev pub history : Log → History
history log = after_entries (From log.start) log.entries

-- a log with one entry more
abbrev pub noted : Log → Entry → Log
noted log entry = record { start = log.start; entries = log.entries ++ entry ∷ [] }

-- the start of a history
abbrev pub start_of : History → Start
start_of (From start) = start
start_of (h ▹ entry) = start_of h

-- the latest moment in the past records
abbrev pub latest_past : List PastRecord → ℕ
latest_past [] = 0
latest_past (past ∷ pasts) = max past.moment (latest_past pasts)

-- the latest moment in the accounts: of a change of password, or in the past records
abbrev pub latest_moment : List Account → ℕ
latest_moment [] = 0
latest_moment (account ∷ accounts) =
    max (max account.changed (latest_past account.past)) (latest_moment accounts)

-- the moment of the newest entry: the largest of the clock's readings so far and of the moments in the accounts
-- at the start
abbrev pub moment : History → ℕ
moment (From start) = latest_moment start.accounts
moment (h ▹ Observed who look) = moment h
moment (h ▹ Attempted attempt) = max attempt.reading (moment h)
moment (h ▹ Executed execution) = max execution.reading (moment h)
