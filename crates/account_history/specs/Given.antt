-- The numbers that were given: each new account and each new password takes the number after the greatest one ever given,
-- so none is given twice.
use Rattle.std.specs.Prelude.{ℕ, ◌+◌, max, Bool, true, false, if◌then◌else◌, List, [], ◌∷◌, Option, Some, None}
use Rattle.factor_chain.specs.declared.credentials.Stored.{Stored}
use Rattle.account_rules.specs.declared.accounts.Account.{Account}
use Rattle.stmt_rules.specs.declared.statement.Change.{Change}
use Rattle.stmt_rules.specs.declared.statement.Change.TheVariants.{Nothing, Password, Discard, Add, Modify, DropFactor}
use Rattle.stmt_rules.specs.declared.statement.Statement.{Statement}
use Rattle.stmt_rules.specs.declared.statement.Statement.TheVariants.{Create, Alter, Drop, Flush, Grant, Revoke}
use Rattle.account_history.specs.declared.entries.Entry.TheVariants.{Observed, Attempted, Executed}
use Rattle.account_history.specs.declared.entries.StmtReply.{StmtReply}
use Rattle.account_history.specs.declared.entries.StmtReply.TheVariants.{Done, Refused}
use Rattle.account_history.specs.Histories.{History, From, ◌▹◌}

-- the greatest number of an account, and of a password, ever given
pub record Given : Type 0 where
  pub account : ℕ
  pub credential : ℕ

abbrev pub secondary_id : Option (Stored × ℕ) → ℕ
secondary_id None = 0
secondary_id (Some kept) = kept.1

-- the greatest numbers in a list of accounts
abbrev pub greatest_given : List Account → Given
greatest_given [] = record { account = 0; credential = 0 }
greatest_given (a ∷ accounts) = record {
  account = max a.id (greatest_given accounts).account;
  credential = max (max a.primary_id (secondary_id a.secondary)) (greatest_given accounts).credential;
}

-- a new password has a number of its own
abbrev pub given_in_change : Given → Change → Given
given_in_change g Nothing = g
given_in_change g (Password auth) = record { account = g.account; credential = g.credential + 1 }
given_in_change g Discard = g
given_in_change g (Add n factor) = g
given_in_change g (Modify n factor) = g
given_in_change g (DropFactor n) = g

-- what a statement gives: a new account has a number, and so has its password
abbrev pub given_after : Given → Statement → Given
given_after g (Create name auth factors options) = record { account = g.account + 1; credential = g.credential + 1 }
given_after g (Alter target change options) = given_in_change g change
given_after g (Drop name) = g
given_after g Flush = g
given_after g (Grant privileges name) = g
given_after g (Revoke privileges name) = g

abbrev pub is_done : StmtReply → Bool
is_done Done = true
is_done (Refused code) = false

-- the numbers that were given in a history; a statement that was refused gives none
abbrev pub given : History → Given
given (From start) = greatest_given start.accounts
given (h ▹ Observed who look) = given h
given (h ▹ Attempted attempt) = given h
given (h ▹ Executed execution) = if is_done execution.reply then given_after (given h) execution.statement else given h
