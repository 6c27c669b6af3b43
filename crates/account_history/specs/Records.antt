-- The accounts that stand after a history.
use Rattle.std.specs.Prelude.{max, if◌then◌else◌, List}
use Rattle.account_rules.specs.declared.accounts.Account.{Account}
use Rattle.account_history.specs.declared.entries.Entry.TheVariants.{Observed, Attempted, Executed}
use Rattle.account_history.specs.Effects.{effect}
use Rattle.account_history.specs.Given.{given, is_done}
use Rattle.account_history.specs.Histories.{History, From, ◌▹◌, moment}
pub use Rattle.account_history.specs.Naming.{has_id, in_force, is_at, is_named, or_else, same_host}

-- the accounts after a history, in ascending order of their numbers: each statement that was done has had its effect
abbrev pub records : History → List Account
records (From start) = start.accounts
records (h ▹ Observed who look) = records h
records (h ▹ Attempted attempt) = records h
records (h ▹ Executed execution) =
    if is_done execution.reply then effect (given h) execution (max execution.reading (moment h)) (records h) else records h
