-- The rows that the machine keeps, and the history that they stand for.
use Rattle.std.specs.Prelude.{ℕ, List, map, Option, None}
use Rattle.std.specs.List.{position}
use Rattle.lg_base.specs.declared.names.Host.{Host}
use Rattle.lg_base.specs.declared.names.Host.TheVariants as host
use Rattle.account_rules.specs.declared.accounts.Account.{Account}
use Rattle.account_history.specs.Failures.{tally}
use Rattle.account_history.specs.Histories.{History}
pub use Rattle.account_history.specs.Numbers.{Rise}
use Rattle.account_history.specs.Records.{is_at, or_else, records}
use Rattle.account_machine.specs.declared.rows.Row.{Row}

-- an account with its tally
abbrev pub row_of : History → Account → Row
row_of h account = record { account = account; tally = tally h account }

abbrev pub rows_of : History → List Row
rows_of h = map (row_of h) (records h)

-- the place of the account of a user at a host
abbrev pub place_at : List ℕ → Host → List Row → Option ℕ
place_at user host rows = position (λ row. is_at user host row.account) rows

-- the place of the account in force for a user
abbrev pub place_in_force : List Row → List ℕ → Option ℕ
place_in_force rows user = or_else (place_at user host.Localhost rows) (place_at user host.Any rows)

-- accounts without failures
abbrev pub new_rows : List Account → List Row
new_rows accounts = map (λ account. record { account = account; tally = record { count = 0; locked = None } }) accounts
