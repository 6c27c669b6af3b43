-- What a call on the accounts adds to their history, and what it is answered there.
use Rattle.std.specs.Prelude.{◌≡◌, ℕ, ◌<◌, ◌≤◌, List, ◌++◌, Option, Some, None, IfSome}
use Rattle.std.proofs.Common.{ap, ◌∙◌, append_assoc}
use Rattle.factor_chain.specs.CheckedOf.{CheckedOf}
use Rattle.factor_chain.specs.declared.credentials.Look.{Look}
use Rattle.factor_chain.specs.declared.evidence_list.Evidence.{Evidence}
use Rattle.stmt_rules.specs.declared.statement.Statement.{Statement}
use Rattle.account_history.specs.Answers.{look_of}
use Rattle.account_history.specs.Given.{given}
use Rattle.account_history.specs.Histories.{History, ◌▹◌}
use Rattle.account_history.specs.Legal.{IsLegal}
use Rattle.account_history.specs.Preparing.{PreparedOf}
use Rattle.account_history.specs.Stamps.{stamp}
use Rattle.account_history.specs.declared.entries.Entry.{Entry}
use Rattle.account_history.specs.declared.entries.Entry.TheVariants.{Attempted, Executed, Observed}
use Rattle.account_history.specs.declared.entries.Reply.{Reply}
use Rattle.account_history.specs.declared.entries.Who.{Who}
use Rattle.account_history.specs.declared.entries.Who.TheVariants.{Login, Account, Own}
use Rattle.account_machine.specs.Committing.{execution_of}
use Rattle.account_machine.specs.Labels.{ShowsFewLabels}
use Rattle.shared_accounts.specs.Beginnings.{history_of}
use Rattle.shared_accounts.specs.declared.calls.Outcome.{Outcome}
use Rattle.shared_accounts.specs.declared.calls.Outcome.TheVariants.{Done, Stale}
use Rattle.shared_accounts.specs.declared.calls.Ran.{Ran}
use Rattle.shared_accounts.specs.declared.desk.Begun.{Begun}

-- ## Where a look came from

-- of one's own account, its number was given
abbrev pub WasGiven : History → Who → Type 0
WasGiven h (Login user) = Unit {0}
WasGiven h (Account name) = Unit {0}
WasGiven h (Own id) = id ≤ (given h).account

-- the look was answered after a beginning of the entries
pub record Came (begun : Begun) (entries : List Entry) (who : Who) (look : Look) : Type 0 where
  pub earlier : List Entry
  pub later : List Entry
  pub front : entries ≡ earlier ++ later
  pub look_is : look ≡ look_of (history_of begun earlier) who
  pub own : WasGiven (history_of begun earlier) who

-- it stays so when entries are added
abbrev pub came-more : (begun : Begun) (entries others : List Entry) (w : Who) (look : Look) → Came begun entries w look → Came begun (entries ++ others) w look
came-more begun entries others w look c = record {
  earlier = c.earlier;
  later = c.later ++ others;
  front = ap (λ (l : List Entry). l ++ others) c.front ∙ append_assoc c.earlier c.later others;
  look_is = c.look_is;
  own = c.own;
}

-- ## What is added

abbrev pub attempt_of : (user : List ℕ) → List Evidence → (flags reading : ℕ) → Reply → Entry
attempt_of user evidences flags reading reply =
    Attempted (record { user = user; evidences = evidences; flags = flags; reading = reading; reply = reply })

abbrev pub attempt_on : CheckedOf → (flags reading : ℕ) → Reply → Entry
attempt_on checked flags reading reply = attempt_of checked.look.user checked.evidences flags reading reply

-- a statement with its reply, and with the keeper's count of faults after it
abbrev pub run_of : History → Statement → (salt : List ℕ) → (actor reading : ℕ) → Ran → Entry
run_of h statement salt actor reading ran = Executed (execution_of h statement salt actor reading ran.count ran.reply)

abbrev pub run_on : History → PreparedOf → (actor reading : ℕ) → Ran → Entry
run_on h prepared actor reading ran = run_of h prepared.statement prepared.salt actor reading ran

-- what is done is added, and a stale answer isn't
abbrev pub added_by : {R : Type 0} → (R → Entry) → Outcome R → Option Entry
added_by entry_of (Done reply) = Some (entry_of reply)
added_by entry_of (Stale stamp) = None

-- ## What is answered

-- the look agrees with an account that has at most two further factors
abbrev pub IsLooked : History → Who → Look → Type 0
IsLooked h who look = IsLegal (h ▹ Observed who look) × IfSome look.in_force ShowsFewLabels

-- what was prepared on a look is done exactly where the user's stamp is still that of the look
abbrev pub IsTimely : {R : Type 0} → History → Look → (R → Entry) → Outcome R → Type 0
IsTimely h look entry_of (Done reply) = IsLegal (h ▹ entry_of reply) × (stamp h look.user ≡ look.stamp)
IsTimely h look entry_of (Stale found) = IsLegal h × (found ≡ stamp h look.user) × (look.stamp < found)
