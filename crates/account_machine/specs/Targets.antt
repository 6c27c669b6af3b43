-- The place of the account that a statement is about.
use Rattle.std.specs.Prelude.{ℕ, List, Option}
use Rattle.std.specs.List.{position}
use Rattle.stmt_rules.specs.declared.statement.Statement.{Statement}
use Rattle.account_history.specs.Targets.{is_named_by}
use Rattle.account_machine.specs.declared.rows.Row.{Row}

abbrev pub place_of_target : List Row → Statement → (actor : ℕ) → Option ℕ
place_of_target rows statement actor = position (λ row. is_named_by statement actor row.account) rows
