-- What contracts see of a ticket and of a stale answer.
use Rattle.std.specs.Prelude.{ℕ}
use Rattle.factor_chain.specs.declared.credentials.Look.{Look}
use Rattle.account_history.specs.declared.entries.Who.{Who}

-- the look, whose it is, and how many stale answers there were before it
pub record TicketOf : Type 0 where
  pub who : Who
  pub look : Look
  pub number : ℕ

-- whose look was late, the greater stamp, and which stale answer it is
pub record LateOf : Type 0 where
  pub who : Who
  pub stamp : ℕ
  pub number : ℕ
