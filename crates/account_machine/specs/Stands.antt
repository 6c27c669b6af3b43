-- What the machine keeps stands for a history: its rows are the accounts after it with their tallies, its moment is the
-- newest one, and its stamps and the numbers that were given are the history's. Each of the accounts has a record, and none
-- of its past passwords was recorded later than the newest moment.
use Rattle.std.specs.Prelude.{◌≡◌, ℕ, List}
use Rattle.std.specs.List.{All}
use Rattle.account_rules.specs.declared.accounts.Settings.{Settings}
use Rattle.account_history.specs.Given.{given}
use Rattle.account_history.specs.Histories.{History, moment, start_of}
use Rattle.account_history.specs.Legal.{IsLegal}
use Rattle.account_history.specs.Numbers.{RiseTo}
use Rattle.account_history.specs.Records.{records}
use Rattle.account_machine.specs.Counting.{AreStamps}
use Rattle.account_machine.specs.Executing.{given_of}
use Rattle.account_machine.specs.Fitting.{FitsAt}
use Rattle.account_machine.specs.declared.executing.Numbers.{Numbers}
use Rattle.account_machine.specs.declared.stamps.Stamps.{Stamps}
use Rattle.account_machine.specs.declared.rows.Row.{Row}
use Rattle.account_machine.specs.Rows.{Rise, rows_of}

pub record Stands (rows : List Row) (settings : Settings) (now : ℕ) (numbers : Numbers) (stamps : Stamps) (changes : ℕ) (h : History) : Type 0 where
  pub same_rows : rows ≡ rows_of h
  pub same_settings : settings ≡ (start_of h).settings
  pub same_moment : now ≡ moment h
  pub same_numbers : given_of numbers ≡ given h
  pub same_stamps : AreStamps stamps changes h
  pub rising : Rise 0 (records h)
  pub up_to : RiseTo 0 (given h).account (records h)
  pub fits : All (FitsAt (moment h)) (records h)
  pub legal : IsLegal h
