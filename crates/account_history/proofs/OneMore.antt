-- What one more entry does to what a history determines.
use Rattle.std.proofs.Common.{◌≡◌, refl, ap, ◌∙◌, ℕ, ◌+◌, ◌≤◌, max, List, [], ◌∷◌, ◌++◌, Bool, true, false, ◌&&◌, if◌then◌else◌, Some, None, ◌==◌, eq-eqb, arith}
use Rattle.std.proofs.lemmas.List.{append-nil}
use Rattle.account_rules.specs.declared.accounts.Account.{Account}
use Rattle.account_history.specs.declared.entries.Attempt.{Attempt}
use Rattle.account_history.specs.declared.entries.Entry.{Entry}
use Rattle.account_history.specs.declared.entries.Entry.TheVariants.{Observed, Attempted, Executed}
use Rattle.account_history.specs.declared.entries.Execution.{Execution}
use Rattle.account_history.specs.declared.entries.Who.{Who}
use Rattle.account_history.specs.declared.entries.Log.{Log}
use Rattle.factor_chain.specs.declared.credentials.Look.{Look}
use Rattle.login_lock.specs.Lock.{after}
use Rattle.account_history.specs.Failures.{clears_failures, failures, failures_in, opens, step_on, steps}
use Rattle.account_history.specs.Given.{given, is_done}
use Rattle.account_history.specs.Histories.{History, From, ◌▹◌, after_entries, history, moment, noted}
use Rattle.account_history.specs.Known.{known}
use Rattle.account_history.specs.Records.{in_force, records}
use Rattle.account_history.specs.Stamps.{clears, stamp}
use Rattle.account_history.specs.Verifying.{account_verifies}
use Rattle.account_history.proofs.Running.{failures_in-more, failures_in-nothing, with_attempt}

-- a log with an entry more is the history with it
pub after-more : (h : History) (entries : List Entry) (entry : Entry) → after_entries h (entries ++ entry ∷ []) ≡ (after_entries h entries ▹ entry)
after-more h [] entry = refl
after-more h (first ∷ entries) entry = after-more (h ▹ first) entries entry

pub history-noted : (log : Log) (entry : Entry) → history (noted log entry) ≡ (history log ▹ entry)
history-noted log entry = after-more (From log.start) log.entries entry

pub failures-observed : (h : History) (who : Who) (look : Look) (id : ℕ) → failures (h ▹ Observed who look) id ≡ failures h id
failures-observed h who look id = failures_in-nothing (steps h id) (moment h)

-- an attempt without an account in force counts against nobody
pub failures-nobody : (h : History) (t : Attempt) (id : ℕ) → in_force (records h) t.user ≡ None
    → failures (h ▹ Attempted t) id ≡ failures h id
failures-nobody h t id e =
    ap (λ found. failures_in (steps h id ++ step_on h found id (steps h id) t (max t.reading (moment h)) ∷ [])) e
    ∙ failures_in-nothing (steps h id) (max t.reading (moment h))

-- an attempt on one account counts against no other
pub failures-other : (h : History) (t : Attempt) (account : Account) (id : ℕ) → in_force (records h) t.user ≡ Some account
    → (account.id == id) ≡ false → failures (h ▹ Attempted t) id ≡ failures h id
failures-other h t account id e other =
    ap (λ found. failures_in (steps h id ++ step_on h found id (steps h id) t (max t.reading (moment h)) ∷ [])) e
    ∙ rw other (failures_in-nothing (steps h id) (max t.reading (moment h)))

-- an attempt on an account
pub failures-on : (h : History) (t : Attempt) (account : Account) → in_force (records h) t.user ≡ Some account
    → failures (h ▹ Attempted t) account.id
    ≡ after account.lock (failures h account.id) (opens t.reply) (account_verifies (known h) account t.evidences) (max t.reading (moment h))
failures-on h t account e =
    ap (λ found. failures_in (steps h account.id ++ step_on h found account.id (steps h account.id) t (max t.reading (moment h)) ∷ [])) e
    ∙ rw (eq-eqb account.id account.id refl) (failures_in-more (steps h account.id) _ ∙ with_attempt account.lock (failures h account.id) (opens t.reply) (account_verifies (known h) account t.evidences) (max t.reading (moment h)))

-- a statement clears the failures that count, or leaves them
pub failures-executed : (h : History) (e : Execution) (id : ℕ)
    → failures (h ▹ Executed e) id
    ≡ (if is_done e.reply && clears_failures (records h) (given h) e.actor e.statement id then [] else failures h id)
failures-executed h e id =
    failures_in-more (steps h id) _
    ∙ ap (λ kept. if is_done e.reply && clears_failures (records h) (given h) e.actor e.statement id then [] else kept) (append-nil (failures h id))

-- what a stamp is after one more entry
pub stamp-more : (h : History) (entry : Entry) (user : List ℕ) → stamp h user ≤ stamp (h ▹ entry) user
stamp-more h entry user = cases (clears h entry user) where
  cases : (b : Bool) → stamp h user ≤ (if b then stamp h user + 1 else stamp h user)
  cases true = omega arith
  cases false = omega arith
