-- An account that fits what is kept of it.
use Rattle.std.specs.Prelude.{ℕ, ◌≤◌}
use Rattle.account_rules.specs.declared.accounts.Account.{Account}
use Rattle.account_keeper.specs.Record.{FitsRecord}
use Rattle.account_history.specs.Histories.{latest_past}

-- the account has a record, and none of its past passwords was recorded later than a moment
abbrev pub FitsAt : (now : ℕ) → Account → Type 0
FitsAt now a = FitsRecord a × (latest_past a.past ≤ now)
