-- The desk in a turn: what holds of its accounts, and what it keeps after a call.
use Rattle.std.proofs.Common.{◌≡◌, ◌⊎◌, ⊎_elim, refl, ap, sym, ◌∙◌, ℕ, ◌<◌, ◌≤◌, max, Bool, true, false, if◌then◌else◌, List, Option, Some, option_map, Result, Ok, Err, IfOk, OnErr, subst, arith}
use Rattle.std.proofs.lemmas.Bool.{cases_order}
use Rattle.lg_base.specs.declared.allocation.Memory.{Memory}
use Rattle.lg_outside.specs.declared.keepers.Row.{Row}
use Rattle.factor_chain.specs.declared.credentials.Look.{Look}
use Rattle.account_rules.specs.declared.accounts.Account.{Account}
use Rattle.stmt_rules.specs.declared.statement.Statement.{Statement}
use Rattle.account_history.specs.Effects.{effect_of}
use Rattle.account_history.specs.Given.{given, is_done}
use Rattle.account_history.specs.Histories.{◌▹◌, history, moment, noted}
use Rattle.account_history.specs.Legal.{IsLegal, last_count}
use Rattle.account_history.specs.Numbers.{RiseTo}
use Rattle.account_history.specs.Records.{records}
use Rattle.account_history.specs.Stamps.{stamp}
use Rattle.account_history.specs.declared.entries.Entry.{Entry}
use Rattle.account_history.specs.declared.entries.Entry.TheVariants.{Executed}
use Rattle.account_history.specs.declared.entries.Log.{Log}
use Rattle.account_history.specs.declared.entries.Start.{Start}
use Rattle.account_history.specs.declared.entries.StmtReply.{StmtReply}
use Rattle.account_history.specs.declared.entries.Who.{Who}
use Rattle.account_history.proofs.OneMore.{history-noted}
use Rattle.account_machine.specs.Agreeing.{Agrees}
use Rattle.account_machine.specs.Committing.{execution_of, told_after}
use Rattle.account_machine.specs.Executing.{kept_after}
use Rattle.account_machine.specs.Restarts.{rows_kept}
use Rattle.account_machine.proofs.Told.{kept-effect}
use Rattle.shared_accounts.specs.Beginnings.{history_of, log_of}
use Rattle.shared_accounts.specs.Calls.{Came, IsTimely, run_of}
use Rattle.shared_accounts.specs.declared.calls.Outcome.TheVariants.{Stale}
use Rattle.shared_accounts.specs.declared.calls.Ran.{Ran}
use Rattle.shared_accounts.specs.declared.desk.Begun.{Begun}
use Rattle.shared_accounts.proofs.Agreed.{came-agrees}
use Rattle.shared_accounts.proofs.Placed.{came-less}

module _ (begun : Begun) (log : Log) (same : log.start ≡ begun.log.start) where
  -- the entries behind the book's start are the history of the accounts
  pub desk-log : log_of begun log.entries ≡ log
  desk-log i = record { start = sym same i; entries = log.entries }

  pub desk-history : history_of begun log.entries ≡ history log
  desk-history = ap history desk-log

  -- the stamp that the accounts give is the one of the entries
  pub current : (user : List ℕ) (found : ℕ) → found ≡ stamp (history log) user → found ≡ stamp (history_of begun log.entries) user
  current user found e = e ∙ ap (λ h. stamp h user) (sym desk-history)

  module _ (w : Who) (look : Look) (came : Came begun log.entries w look) (found : ℕ) (found-is : found ≡ stamp (history log) look.user) where
    pub agrees-now : found ≡ look.stamp → RiseTo 0 (given (history log)).account (records (history log)) → Agrees (history log) w look
    agrees-now e rise =
        subst (λ h. Agrees h w look) desk-history
        (came-agrees begun log.entries w look came
        (subst (λ h. RiseTo 0 (given h).account (records h)) (sym desk-history) rise)
        (ap (λ h. stamp h look.user) desk-history ∙ (sym found-is ∙ e)))

    pub late-now : {R : Type 0} (made : R → Entry) → (found ≡ look.stamp → ⊥) → IsLegal (history log) → IsTimely (history_of begun log.entries) look made (Stale found)
    late-now made other legal =
        let its : found ≡ stamp (history_of begun log.entries) look.user = current look.user found found-is in
        let less = came-less begun log.entries w look came in
        (subst IsLegal (sym desk-history) legal, its, above its less) where
          above : found ≡ stamp (history_of begun log.entries) look.user → look.stamp ≤ stamp (history_of begun log.entries) look.user → look.stamp < found
          above its less = ⊎_elim (λ (e : found ≡ look.stamp). absurd (other e))
              (λ (r : (found < look.stamp) ⊎ (look.stamp < found)). ⊎_elim (λ (l : found < look.stamp). absurd (omega (arith, its, less, l))) (λ l. l) r) (cases_order found look.stamp)

  -- a statement that was noted is a legal entry
  pub run-legal : (log' : Log) (statement : Statement) (salt : List ℕ) (actor reading : ℕ) (ran : Ran) (count : ℕ) → ran.count ≡ count
      → log' ≡ noted log (Executed (execution_of (history log) statement salt actor reading count ran.reply)) → IsLegal (history log')
      → IsLegal (history_of begun log.entries ▹ run_of (history_of begun log.entries) statement salt actor reading ran)
  run-legal log' statement salt actor reading ran count c n legal =
      let entry : ℕ → Entry = λ k. Executed (execution_of (history log) statement salt actor reading k ran.reply) in
      let noted-so : IsLegal (history log ▹ entry count) = subst IsLegal (ap history n ∙ history-noted log (entry count)) legal in
      let counted : IsLegal (history log ▹ entry ran.count) = subst (λ k. IsLegal (history log ▹ entry k)) (sym c) noted-so in
      subst (λ h. IsLegal (h ▹ run_of h statement salt actor reading ran)) (sym desk-history) counted

-- ## What the desk keeps

module _ (log log' : Log) (entry : Entry) (n : log' ≡ noted log entry) where
  pub same-start : (start : Start) → log.start ≡ start → log'.start ≡ start
  same-start start e = ap (λ (l : Log). l.start) n ∙ e

  -- after a look or an attempt
  pub same-count : (count : ℕ) → last_count (history log ▹ entry) ≡ last_count (history log) → last_count (history log) ≤ count → last_count (history log') ≤ count
  same-count count same low =
      let is : last_count (history log') ≡ last_count (history log ▹ entry) = ap (λ (l : Log). last_count (history l)) n ∙ ap last_count (history-noted log entry) in
      omega (arith, is, same, low)

  pub same-rows : (told : Option (List Row)) → records (history log ▹ entry) ≡ records (history log) → told ≡ Some (rows_kept (records (history log)))
      → told ≡ Some (rows_kept (records (history log')))
  same-rows told same e =
      e ∙ ap (λ (accounts : List Account). Some (rows_kept accounts))
      (sym (ap (λ (l : Log). records (history l)) n ∙ (ap records (history-noted log entry) ∙ same)))

-- after a statement, be it that memory was wanting
module _ (log log' : Log) (statement : Statement) (salt : List ℕ) (actor reading count : ℕ) where
  abbrev pub done : StmtReply → Entry
  done reply = Executed (execution_of (history log) statement salt actor reading count reply)

  pub start-after : (result : Result StmtReply Memory) (start : Start) → IfOk result (λ reply. log' ≡ noted log (done reply)) → OnErr result (log' ≡ log)
      → log.start ≡ start → log'.start ≡ start
  start-after (Ok reply) start ok err e = ap (λ (l : Log). l.start) ok ∙ e
  start-after (Err m) start ok err e = ap (λ (l : Log). l.start) err ∙ e

  done-rows : (reply : StmtReply) (b : Bool) → is_done reply ≡ b → RiseTo 0 (given (history log)).account (records (history log))
      → (if b then option_map (kept_after statement (given (history log)) actor salt (max reading (moment (history log))) (records (history log))) (Some (rows_kept (records (history log))))
      else Some (rows_kept (records (history log))))
      ≡ Some (rows_kept (if b then effect_of statement (given (history log)) actor salt (max reading (moment (history log))) (records (history log)) else records (history log)))
  done-rows reply true e rise =
      ap (λ (rows : List Row). Some rows) (kept-effect statement (given (history log)) actor salt (max reading (moment (history log))) (records (history log)) rise)
  done-rows reply false e rise = refl

  pub rows-after : (result : Result StmtReply Memory) (told told' : Option (List Row)) → IfOk result (λ reply. log' ≡ noted log (done reply)) → OnErr result (log' ≡ log)
      → IfOk result (λ reply. told' ≡ told_after (history log) statement salt actor reading reply told) → OnErr result (told' ≡ told)
      → RiseTo 0 (given (history log)).account (records (history log)) → told ≡ Some (rows_kept (records (history log)))
      → told' ≡ Some (rows_kept (records (history log')))
  rows-after (Ok reply) told told' ok err kept kept-err rise e =
      kept ∙ (ap (told_after (history log) statement salt actor reading reply) e
      ∙ (done-rows reply (is_done reply) refl rise
      ∙ ap (λ (accounts : List Account). Some (rows_kept accounts)) (sym (ap (λ (l : Log). records (history l)) ok ∙ ap records (history-noted log (done reply))))))
  rows-after (Err m) told told' ok err kept kept-err rise e =
      kept-err ∙ (e ∙ ap (λ (l : Log). Some (rows_kept (records (history l)))) (sym err))
