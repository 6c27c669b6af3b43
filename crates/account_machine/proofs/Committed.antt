-- What stands after a statement.
use Rattle.std.proofs.Common.{◌≡◌, refl, ap, sym, ◌∙◌, subst, ℕ, ◌+◌, ◌<◌, ◌≤◌, ◌^◌, max, List, All, find, Bool, true, false, Option, None, option_map, Result, Ok, Err, IfOk, OnErr, if◌then◌else◌, arith}
use Rattle.lg_base.specs.declared.allocation.Memory.{Memory}
use Rattle.lg_base.specs.declared.errors.Code.{Code}
use Rattle.lg_outside.specs.declared.keepers.Row.{Row as Kept}
use Rattle.account_rules.specs.declared.accounts.Account.{Account}
use Rattle.account_rules.specs.declared.accounts.Settings.{Settings}
use Rattle.stmt_rules.specs.declared.statement.Statement.{Statement}
use Rattle.account_history.specs.declared.entries.Entry.TheVariants.{Executed}
use Rattle.account_history.specs.declared.entries.Execution.{Execution}
use Rattle.account_history.specs.declared.entries.Log.{Log}
use Rattle.account_history.specs.declared.entries.StmtReply.{StmtReply}
use Rattle.account_history.specs.declared.entries.StmtReply.TheVariants.{Done, Refused}
use Rattle.account_history.specs.Answers.{statement_refusal}
use Rattle.account_history.specs.Given.{Given, given, given_after}
use Rattle.account_history.specs.Histories.{History, ◌▹◌, history, moment, noted, start_of}
use Rattle.account_history.specs.Legal.{IsExecuted, last_count}
use Rattle.account_history.specs.Numbers.{RiseTo}
use Rattle.account_history.specs.Naming.{has_id}
use Rattle.account_history.specs.Preparing.{IsSalt}
use Rattle.account_history.specs.Records.{records}
use Rattle.account_history.specs.Sound.{IsWritten}
use Rattle.account_history.specs.Stamps.{clears_user, stamp}
use Rattle.account_history.specs.Targets.{target_of}
use Rattle.account_history.proofs.Accepted.{IsAccepted, accepted}
use Rattle.account_history.proofs.Numbered.{rise-effect}
use Rattle.account_history.proofs.OneMore.{failures-executed, history-noted}
use Rattle.account_machine.specs.Clearing.{cleared_user, raises}
use Rattle.account_machine.specs.Committing.{execution_of}
use Rattle.account_machine.specs.Counting.{stamp_in}
use Rattle.account_machine.specs.Executing.{NextFits, given_of, kept_after, rows_after}
use Rattle.account_machine.specs.Fitting.{FitsAt}
use Rattle.account_machine.specs.Looks.{accounts_of}
use Rattle.account_machine.specs.Rows.{row_of, rows_of}
use Rattle.account_machine.specs.Stands.{Stands}
use Rattle.account_machine.specs.declared.executing.Numbers.{Numbers}
use Rattle.account_machine.specs.declared.rows.Row.{Row}
use Rattle.account_machine.specs.declared.stamps.Stamps.{Stamps}
use Rattle.account_machine.proofs.Answered.{done-answered}
use Rattle.account_machine.proofs.Follows.{rise-of, rows-follow}
use Rattle.account_machine.proofs.Holding.{effect-holds, later-holds, next-fits}
use Rattle.account_machine.proofs.Raises.{raises-cleared}
use Rattle.account_machine.proofs.Written.{accounts-rows, map-agree, row-same}

-- the accounts of the rows that are kept are those of the history
pub accounts-kept : (rows : List Row) (h : History) → rows ≡ rows_of h → accounts_of rows ≡ records h
accounts-kept rows h r = ap accounts_of r ∙ accounts-rows h

-- the keeper's count after a statement is the history's last one
pub count-noted : (log log' : Log) (e : Execution) → log' ≡ noted log (Executed e) → last_count (history log') ≡ e.count
count-noted log log' e n = ap (λ (l : Log). last_count (history l)) n ∙ ap last_count (history-noted log (Executed e))

-- and it isn't above the keeper's, also where memory was wanting and nothing was noted
pub count-after : (result : Result StmtReply Memory) (log log' : Log) (before after : ℕ) (noted_of : StmtReply → Execution)
    → ((reply : StmtReply) → (noted_of reply).count ≡ after) → IfOk result (λ reply. log' ≡ noted log (Executed (noted_of reply)))
    → OnErr result (log' ≡ log) → last_count (history log) ≤ before → before ≤ after → last_count (history log') ≤ after
count-after (Ok reply) log log' before after noted_of same entry err low more =
    let last = count-noted log log' (noted_of reply) entry in let count = same reply in omega (arith, last, count)
count-after (Err e) log log' before after noted_of same entry err low more =
    let last : last_count (history log') ≡ last_count (history log) = ap (λ (l : Log). last_count (history l)) err in omega (arith, last, low, more)

-- the same rows, and stamps that tell the same
pub stands-same : (rows new : List Row) (settings : Settings) (now : ℕ) (numbers : Numbers) (stamps next : Stamps) (changes : ℕ) (h : History)
    → Stands rows settings now numbers stamps changes h → new ≡ rows → ((user : List ℕ) → stamp_in next user ≡ stamp_in stamps user)
    → Stands new settings now numbers next changes h
stands-same rows new settings now numbers stamps next changes h s r t = record {
  same_rows = r ∙ s.same_rows;
  same_settings = s.same_settings;
  same_moment = s.same_moment;
  same_numbers = s.same_numbers;
  same_stamps = record { same = λ user. t user ∙ s.same_stamps.same user; most = s.same_stamps.most };
  rising = s.rising;
  up_to = s.up_to;
  fits = s.fits;
  legal = s.legal;
}

-- ## A statement that changes no account

pub stands-refused : (log : Log) (st : Statement) (salt : List ℕ) (actor reading count : ℕ) (code : Code)
    (rows : List Row) (settings : Settings) (before now : ℕ) (numbers : Numbers) (stamps : Stamps) (changes : ℕ) (log' : Log)
    → Stands rows settings before numbers stamps changes (history log)
    → IsExecuted (history log) (execution_of (history log) st salt actor reading count (Refused code))
    → now ≡ max reading (moment (history log))
    → log' ≡ noted log (Executed (execution_of (history log) st salt actor reading count (Refused code)))
    → Stands rows settings now numbers stamps changes (history log')
stands-refused log st salt actor reading count code rows settings before now numbers stamps changes log' s a m e =
    let h : History = history log in
    let x : Execution = execution_of (history log) st salt actor reading count (Refused code) in
    let P : History → Type 0 = λ k. Stands rows settings now numbers stamps changes k in
    subst P (sym (ap history e ∙ history-noted log (Executed x))) (record {
      same_rows = s.same_rows ∙ map-agree (row_of h) (row_of (h ▹ Executed x)) (records h) (λ b. row-same h (h ▹ Executed x) b (failures-executed h x b.id));
      same_settings = s.same_settings;
      same_moment = m;
      same_numbers = s.same_numbers;
      same_stamps = record { same = s.same_stamps.same; most = s.same_stamps.most };
      rising = s.rising;
      up_to = s.up_to;
      fits = later-holds (moment h) (max reading (moment h)) (records h) (omega arith) s.fits;
      legal = (s.legal, a);
    })

-- ## A statement that was done

raised-within : (raised : Bool) (n most next : ℕ) → n ≤ most → next ≡ most + 1 → (if raised then n + 1 else n) ≤ next
raised-within true n most next h e = omega arith
raised-within false n most next h e = omega arith

module _ (log : Log) (st : Statement) (salt : List ℕ) (actor reading count : ℕ)
    (rows : List Row) (settings : Settings) (before now : ℕ) (numbers : Numbers) (stamps : Stamps) (changes : ℕ)
    (s : Stands rows settings before numbers stamps changes (history log)) (m : now ≡ max reading (moment (history log))) where
  abbrev done : Execution
  done = execution_of (history log) st salt actor reading count Done

  same-accounts : accounts_of rows ≡ records (history log)
  same-accounts = accounts-kept rows (history log) s.same_rows

  -- what is said of the rows, the numbers and the moment that are kept is said of the history's
  pub kept-history : (told : Option (List Kept))
      → option_map (kept_after st (given_of numbers) actor salt now (accounts_of rows)) told
      ≡ option_map (kept_after st (given (history log)) actor salt (max reading (moment (history log))) (records (history log))) told
  kept-history told =
      ap (λ (g : Given). option_map (kept_after st g actor salt now (accounts_of rows)) told) s.same_numbers
      ∙ ap (λ (n : ℕ). option_map (kept_after st (given (history log)) actor salt n (accounts_of rows)) told) m
      ∙ ap (λ (xs : List Account). option_map (kept_after st (given (history log)) actor salt (max reading (moment (history log))) xs) told) same-accounts

  abbrev own : Option Account
  own = find (has_id actor) (records (history log))

  accepted-here : statement_refusal (history log) st actor reading ≡ None
      → IsAccepted actor own (target_of (records (history log)) st actor) st (start_of (history log)).settings (max reading (moment (history log)))
  accepted-here none = accepted (records (history log)) st actor (start_of (history log)).settings (max reading (moment (history log))) none

  later-all : All (FitsAt (max reading (moment (history log)))) (records (history log))
  later-all = later-holds (moment (history log)) (max reading (moment (history log))) (records (history log)) (omega arith) s.fits

  below : now < 2 ^ 64 → max reading (moment (history log)) < 2 ^ 64
  below bound = subst (λ (n : ℕ). n < 2 ^ 64) m bound

  -- the account that the statement makes or changes has a record
  pub next-fits-here : statement_refusal (history log) st actor reading ≡ None → IsWritten st → IsSalt salt → now < 2 ^ 64
      → NextFits st (given_of numbers) actor salt now (accounts_of rows)
  next-fits-here none written letters bound =
      subst (λ (g : Given). NextFits st g actor salt now (accounts_of rows)) (sym s.same_numbers)
      (subst (λ (n : ℕ). NextFits st (given (history log)) actor salt n (accounts_of rows)) (sym m)
      (subst (λ (xs : List Account). NextFits st (given (history log)) actor salt (max reading (moment (history log))) xs) (sym same-accounts)
      (next-fits (given (history log)) actor salt (max reading (moment (history log))) letters (below bound) st own (start_of (history log)).settings
      (records (history log)) written (accepted-here none) later-all)))

  rows-done : (new : List Row) → new ≡ rows_after st (given_of numbers) actor salt now rows → new ≡ rows_of (history log ▹ Executed done)
  rows-done new r =
      r
      ∙ ap (λ (xs : List Row). rows_after st (given_of numbers) actor salt now xs) s.same_rows
      ∙ ap (λ (g : Given). rows_after st g actor salt now (rows_of (history log))) s.same_numbers
      ∙ ap (λ (n : ℕ). rows_after st (given (history log)) actor salt n (rows_of (history log))) m
      ∙ rows-follow (history log) done refl s.up_to st refl (max reading (moment (history log)))

  stamps-done : (next : Stamps)
      → ((user : List ℕ) → stamp_in next user ≡ (if raises st (cleared_user st (target_of (accounts_of rows) st actor)) user then stamp_in stamps user + 1 else stamp_in stamps user))
      → (user : List ℕ) → stamp_in next user ≡ stamp (history log ▹ Executed done) user
  stamps-done next t user =
      t user
      ∙ ap (λ (n : ℕ). if raises st (cleared_user st (target_of (accounts_of rows) st actor)) user then n + 1 else n) (s.same_stamps.same user)
      ∙ ap (λ (xs : List Account). if raises st (cleared_user st (target_of xs st actor)) user then stamp (history log) user + 1 else stamp (history log) user) same-accounts
      ∙ ap (λ (c : Bool). if c then stamp (history log) user + 1 else stamp (history log) user) (raises-cleared st (records (history log)) actor user)

  up-done : RiseTo 0 (given (history log ▹ Executed done)).account (records (history log ▹ Executed done))
  up-done = rise-effect st (given (history log)) actor salt (max reading (moment (history log))) (records (history log)) s.up_to

  pub stands-done : (new : List Row) (next : Numbers) (stamps' : Stamps) (changes' : ℕ) (log' : Log)
      → statement_refusal (history log) st actor reading ≡ None → last_count (history log) ≤ count
      → new ≡ rows_after st (given_of numbers) actor salt now rows
      → IsWritten st → IsSalt salt → now < 2 ^ 64
      → given_of next ≡ given_after (given_of numbers) st
      → ((user : List ℕ) → stamp_in stamps' user ≡ (if raises st (cleared_user st (target_of (accounts_of rows) st actor)) user then stamp_in stamps user + 1 else stamp_in stamps user))
      → changes' ≡ changes + 1
      → log' ≡ noted log (Executed (execution_of (history log) st salt actor reading count Done))
      → Stands new settings now next stamps' changes' (history log')
  stands-done new next stamps' changes' log' none counted r written letters bound g t c e =
      let P : History → Type 0 = λ k. Stands new settings now next stamps' changes' k in
      subst P (sym (ap history e ∙ history-noted log (Executed done))) (record {
        same_rows = rows-done new r;
        same_settings = s.same_settings;
        same_moment = m;
        same_numbers = g ∙ ap (λ (from : Given). given_after from st) s.same_numbers;
        same_stamps = record {
          same = stamps-done stamps' t;
          most = λ user. raised-within (clears_user (records (history log)) actor st user) (stamp (history log) user) changes changes' (s.same_stamps.most user) c;
        };
        rising = rise-of 0 (given (history log ▹ Executed done)).account (records (history log ▹ Executed done)) up-done;
        up_to = up-done;
        fits = effect-holds (given (history log)) actor salt (max reading (moment (history log))) letters (below bound) st own (start_of (history log)).settings (records (history log)) written (accepted-here none) later-all;
        legal = (s.legal, done-answered (history log) st salt actor reading count none counted);
      })
