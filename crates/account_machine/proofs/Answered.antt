-- A statement is answered as the history before it determines.
use Rattle.std.proofs.Common.{◌≡◌, refl, ap, sym, ◌∙◌, ℕ, ◌≤◌, List, Bool, true, false, Option, Some, None, arith}
use Rattle.lg_base.specs.declared.errors.Code.{Code}
use Rattle.lg_base.specs.declared.errors.Code.TheVariants.{KeeperFault}
use Rattle.lg_outside.specs.Faults.{Rose}
use Rattle.stmt_rules.specs.declared.statement.Statement.{Statement}
use Rattle.account_history.specs.declared.entries.StmtReply.TheVariants.{Done, Refused}
use Rattle.account_history.specs.Answers.{reply_to, statement_refusal}
use Rattle.account_history.specs.Histories.{History}
use Rattle.account_history.specs.Legal.{IsExecuted, calls_keeper, changes_accounts, last_count}
use Rattle.account_machine.specs.Committing.{execution_of, is_fault}

-- a count that rose since a call began rose since an earlier one
rose-since : (first before after : ℕ) → first ≤ before → Rose before after → Rose first after
rose-since first before after h r = omega arith

not-true : (b : Bool) → b ≡ false → b ≡ true → ⊥
not-true b e f = cc

module _ (h : History) (st : Statement) (salt : List ℕ) (actor reading count : ℕ) where
  pub refused-answered : (code : Code) → Some code ≡ statement_refusal h st actor reading → last_count h ≤ count
      → IsExecuted h (execution_of h st salt actor reading count (Refused code))
  refused-answered code e c = record {
    replied = ap (λ (r : Option Code). reply_to r (is_fault r (Refused code))) e;
    called = refl;
    failed = λ t. absurd (not-true (is_fault (statement_refusal h st actor reading) (Refused code)) (ap (λ (r : Option Code). is_fault r (Refused code)) (sym e)) t);
    counted = c;
  }

  pub failed-answered : (before : ℕ) → statement_refusal h st actor reading ≡ None → changes_accounts st ≡ true → last_count h ≤ before
      → before ≤ count → Rose before count → IsExecuted h (execution_of h st salt actor reading count (Refused KeeperFault))
  failed-answered before e changes c more rose = record {
    replied = ap (λ (r : Option Code). reply_to r (is_fault r (Refused KeeperFault))) (sym e);
    called = refl;
    failed = λ t. (ap (λ (r : Option Code). calls_keeper r st) e ∙ changes, rose-since (last_count h) before count c rose);
    counted = omega (arith, c, more);
  }

  pub done-answered : statement_refusal h st actor reading ≡ None → last_count h ≤ count
      → IsExecuted h (execution_of h st salt actor reading count Done)
  done-answered e c = record {
    replied = ap (λ (r : Option Code). reply_to r (is_fault r Done)) (sym e);
    called = refl;
    failed = λ t. absurd (not-true (is_fault (statement_refusal h st actor reading) Done) (ap (λ (r : Option Code). is_fault r Done) e) t);
    counted = c;
  }
