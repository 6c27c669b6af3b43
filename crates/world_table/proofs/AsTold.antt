-- A statement for which the keeper went as the script tells.
use Rattle.std.proofs.Common.{◌≡◌, refl, ap, sym, ◌∙◌, ℕ, Bool, true, false, not, ◌&&◌, ◌++◌, List}
use Rattle.stmt_rules.specs.declared.statement.Statement.{Statement}
use Rattle.account_history.specs.declared.entries.Entry.TheVariants.{Executed}
use Rattle.account_history.specs.declared.entries.Execution.{Execution}
use Rattle.account_history.specs.declared.entries.Log.{Log}
use Rattle.account_history.specs.declared.entries.StmtReply.{StmtReply}
use Rattle.account_history.specs.Answers.{statement_refusal, statement_reply}
use Rattle.account_history.specs.Histories.{history, noted}
use Rattle.account_machine.specs.Committing as machine
use Rattle.account_machine.specs.Committing.{execution_of}
use Rattle.world_table.specs.Statements.{count_after, executed, has_failed, is_called, is_keeper_fault, was_called, with_execution}
use Rattle.world_table.specs.Printing.{statement_line}
use Rattle.world_table.specs.Table.{Common, next_number}
use Rattle.world_table.proofs.Refused.{Tells, reply-tells}

-- how a statement was answered, and what the code then found
pub record WentAsTold (c : Common) (st : Statement) (actor count : ℕ) (reply : StmtReply) (called failed : Bool) : Type 0 where
  pub replied : reply ≡ statement_reply (history c.log) st actor c.clock (machine.has_failed (history c.log) st actor c.clock reply)
  pub called_is : called ≡ was_called reply st
  pub failed_is : failed ≡ is_keeper_fault reply
  pub as_told : failed ≡ (called && c.fails)
  pub counted : count ≡ count_after c failed

module _ (c : Common) (st : Statement) (salt : List ℕ) (actor count : ℕ) (reply : StmtReply) (called failed : Bool)
    (w : WentAsTold c st actor count reply called failed) where
  tells : Tells (statement_refusal (history c.log) st actor c.clock) st reply
  tells = reply-tells (history c.log) st actor c.clock reply w.replied

  was_called_so : called ≡ is_called c st actor
  was_called_so = w.called_is ∙ tells.called

  failed_so : failed ≡ has_failed c st actor
  failed_so = w.as_told ∙ ap (λ (b : Bool). b && c.fails) was_called_so

  machine_failed : machine.has_failed (history c.log) st actor c.clock reply ≡ has_failed c st actor
  machine_failed = sym tells.failed ∙ (sym w.failed_is ∙ failed_so)

  pub is_reply : reply ≡ (executed c st salt actor).reply
  is_reply = w.replied ∙ ap (λ (b : Bool). statement_reply (history c.log) st actor c.clock b) machine_failed

  count_is : count ≡ count_after c (has_failed c st actor)
  count_is = w.counted ∙ ap (count_after c) failed_so

  is_executed : execution_of (history c.log) st salt actor c.clock count reply ≡ executed c st salt actor
  is_executed = λ i. record {
    statement = st;
    salt = salt;
    actor = actor;
    reading = c.clock;
    count = count_is i;
    called = is_called c st actor;
    failed = machine_failed i;
    reply = is_reply i;
  }

  abbrev left : Log → Bool → Common
  left log fails = record { log = log; clock = c.clock; drawn = c.drawn; fails = fails }

  -- what is left: the log has the entry, and a failure that was told is over once the keeper was called
  pub is_left_so : (log : Log) (fails : Bool) → log ≡ noted c.log (Executed (execution_of (history c.log) st salt actor c.clock count reply)) →
      fails ≡ (c.fails && not called) → left log fails ≡ with_execution c (executed c st salt actor)
  is_left_so log fails is over =
      ap (λ (l : Log). left l fails) (is ∙ ap (λ (e : Execution). noted c.log (Executed e)) is_executed)
      ∙ ap (left (noted c.log (Executed (executed c st salt actor)))) (over ∙ ap (λ (b : Bool). c.fails && not b) was_called_so)

  pub is_printed_so : (before now : List ℕ) (number : ℕ) → now ≡ before ++ statement_line number reply → number ≡ next_number c →
      now ≡ before ++ statement_line (next_number c) (executed c st salt actor).reply
  is_printed_so before now number printed is =
      printed ∙ (ap (λ (n : ℕ). before ++ statement_line n reply) is ∙ ap (λ (r : StmtReply). before ++ statement_line (next_number c) r) is_reply)
