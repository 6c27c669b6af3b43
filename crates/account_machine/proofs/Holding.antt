-- Each account fits what is kept of it, and does so after a statement that isn't refused.
use Rattle.std.proofs.Common.{◌≡◌, refl, ℕ, zero, suc, ◌+◌, ◌<◌, ◌≤◌, ◌^◌, List, [], ◌∷◌, take, find, Bool, true, false, ◌&&◌, if◌then◌else◌, Option, Some, None, IfSome, All, arith}
use Rattle.std.specs.List.{AllByRecursion, list_any}
use Rattle.std.proofs.lemmas.List.Elements.{All-from_recursion, All-push, recursion_from_All}
use Rattle.factor_chain.specs.Checking.{is_empty}
use Rattle.factor_chain.specs.declared.credentials.PastRecord.{PastRecord}
use Rattle.factor_chain.specs.declared.credentials.Stored.{Stored}
use Rattle.factor_chain.specs.declared.credentials.Stored.TheVariants as stored
use Rattle.password_history.specs.Reuse.{with_latest}
use Rattle.account_rules.specs.declared.accounts.Account.{Account}
use Rattle.account_rules.specs.declared.accounts.Settings.{Settings}
use Rattle.account_keeper.specs.Record.{FitsRecord, IsSet, PastFits}
use Rattle.stmt_rules.specs.declared.statement.Change.{Change}
use Rattle.stmt_rules.specs.declared.statement.Change.TheVariants.{Nothing, Password, Discard, Add, Modify, DropFactor}
use Rattle.stmt_rules.specs.declared.statement.Options.{Options}
use Rattle.stmt_rules.specs.declared.statement.Statement.{Statement}
use Rattle.stmt_rules.specs.declared.statement.Statement.TheVariants.{Create, Alter, Drop, Flush, Grant, Revoke}
use Rattle.account_history.specs.Effects.{altered, auth_or_none, begun_account, changed, created, effect_of, expired_without, granted, revoked, with_changed, without}
use Rattle.account_history.specs.Given.{Given}
use Rattle.account_history.specs.Histories.{latest_moment, latest_past}
use Rattle.account_history.specs.Naming.{is_named}
use Rattle.account_history.specs.Passwords.{recorded, with_password}
use Rattle.account_history.specs.Preparing.{IsSalt}
use Rattle.account_history.specs.Refusals.{auth_in, factors_in, is_bad_label, misfits, options_fit, retains}
use Rattle.account_history.specs.Sound.{AddsAtMostThird, IsWritten}
use Rattle.account_history.specs.Targets.{is_target, of_account, target_of}
use Rattle.account_history.proofs.Accepted.{IsAccepted}
use Rattle.account_history.proofs.Soundness.{all-changed, all-without, keeps-all}
use Rattle.account_machine.specs.Executing.{NextFits}
use Rattle.account_machine.specs.Fitting.{FitsAt}
use Rattle.account_machine.specs.Labels.{HasFewLabels}
use Rattle.account_history.specs.Pasts.{HasSetPast}
use Rattle.account_machine.proofs.Fitted.{change-fits, created-fits, options-fits}
use Rattle.account_machine.proofs.Found.{all-found}

-- ## Past passwords

past-take : (n : ℕ) (past : List PastRecord) → latest_past (take n past) ≤ latest_past past
past-take zero past = omega arith
past-take (suc n) [] = omega arith
past-take (suc n) (p ∷ past) = let later = past-take n past in omega arith

past-recorded : (now : ℕ) (kept : Stored) (past : List PastRecord) → latest_past past ≤ now → latest_past (recorded now kept past) ≤ now
past-recorded now kept past h = cases (is_empty kept) where
  latest : PastRecord
  latest = record { moment = now; stored = kept }

  cases : (b : Bool) → latest_past (if b then past else with_latest latest past) ≤ now
  cases true = h
  cases false = let short = past-take 256 (latest ∷ past) in omega arith

past-changed : (change : Change) (id : ℕ) (salt : List ℕ) (now : ℕ) (a : Account) → latest_past a.past ≤ now
    → latest_past (changed change id salt now a).past ≤ now
past-changed Nothing id salt now a h = h
past-changed (Password auth) id salt now a h =
    by auth.password (past-recorded now (with_password id salt now auth a).primary a.past h) where
      by : (password : Option (List ℕ)) → latest_past (with_password id salt now auth a).past ≤ now
          → latest_past (expired_without password (with_password id salt now auth a)).past ≤ now
      by None h = h
      by (Some password) h = h
past-changed Discard id salt now a h = h
past-changed (Add n factor) id salt now a h = h
past-changed (Modify n factor) id salt now a h = h
past-changed (DropFactor n) id salt now a h = h

-- ## The effect of a statement

-- two tests of the account that is found
if-both : (P : Account → Type 0) (r : Bool) (first second : Account → Bool) (change : Account → Account) (found : Option Account)
    → of_account first found ≡ false → (r && of_account second found) ≡ false
    → ((a : Account) → first a ≡ false → (r && second a) ≡ false → P a → P (change a)) → IfSome found (λ a. P a → P (change a))
if-both P r first second change None e f keeps = tt
if-both P r first second change (Some a) e f keeps = keeps a e f

-- a change of privileges alone
with-privileges : (b c : Bool) (a : Account) → FitsRecord a → FitsRecord (record a { create_user = b; password_admin = c })
with-privileges b c a fits = record {
  user = fits.user;
  primary = fits.primary;
  secondary = fits.secondary;
  labels = fits.labels;
  changed = fits.changed;
  lifetime = fits.lifetime;
  history = fits.history;
  reuse = fits.reuse;
  attempts = fits.attempts;
  lock_time = fits.lock_time;
  past = fits.past;
}

module _ (g : Given) (actor : ℕ) (salt : List ℕ) (now : ℕ) (s : IsSalt salt) (bound : now < 2 ^ 64) where
  altered-holds : (change : Change) (options : Options) (a : Account) → AddsAtMostThird change → list_any is_bad_label (factors_in change) ≡ false
      → options_fit options ≡ true → misfits change a ≡ false → (retains (auth_in change) && is_empty a.primary) ≡ false
      → FitsAt now a → FitsAt now (altered g salt now change options a)
  altered-holds change options a w labels ranges places kept holds = (
    options-fits options (changed change (g.credential + 1) salt now a) ranges
        (change-fits change (g.credential + 1) salt now a s bound holds.1 w places labels kept holds.0),
    past-changed change (g.credential + 1) salt now a holds.1,
  )

  pub effect-holds : (statement : Statement) (own : Option Account) (settings : Settings) (accounts : List Account) → IsWritten statement
      → IsAccepted actor own (target_of accounts statement actor) statement settings now
      → All (FitsAt now) accounts → All (FitsAt now) (effect_of statement g actor salt now accounts)
  effect-holds (Create name auth factors options) own settings accounts w accepted all =
      All-push (FitsAt now) accounts (created g salt now name auth factors options) all (
        created-fits g salt now name auth factors options s bound accepted.user accepted.labels accepted.options w.0 w.1,
        past-recorded now (with_password (g.credential + 1) salt now (auth_or_none auth) (begun_account (g.account + 1) name)).primary [] (omega arith),
      )
  effect-holds (Alter target change options) own settings accounts w accepted all =
      All-from_recursion (FitsAt now) (with_changed (is_target actor target) (altered g salt now change options) accounts)
      (all-changed (FitsAt now) (is_target actor target) (altered g salt now change options) accounts (recursion_from_All (FitsAt now) accounts all)
      (if-both (FitsAt now) (retains (auth_in change)) (misfits change) (λ a. is_empty a.primary) (altered g salt now change options)
      (find (is_target actor target) accounts) accepted.factors accepted.retained
      (λ a places kept holds. altered-holds change options a w accepted.labels accepted.options places kept holds)))
  effect-holds (Drop name) own settings accounts w accepted all =
      All-from_recursion (FitsAt now) (without (is_named name) accounts)
      (all-without (FitsAt now) (is_named name) accounts (recursion_from_All (FitsAt now) accounts all))
  effect-holds Flush own settings accounts w accepted all = all
  effect-holds (Grant privileges name) own settings accounts w accepted all =
      All-from_recursion (FitsAt now) (with_changed (is_named name) (granted privileges) accounts)
      (all-changed (FitsAt now) (is_named name) (granted privileges) accounts (recursion_from_All (FitsAt now) accounts all)
      (keeps-all (FitsAt now) (granted privileges) (find (is_named name) accounts)
      (λ a holds. (with-privileges (granted privileges a).create_user (granted privileges a).password_admin a holds.0, holds.1))))
  effect-holds (Revoke privileges name) own settings accounts w accepted all =
      All-from_recursion (FitsAt now) (with_changed (is_named name) (revoked privileges) accounts)
      (all-changed (FitsAt now) (is_named name) (revoked privileges) accounts (recursion_from_All (FitsAt now) accounts all)
      (keeps-all (FitsAt now) (revoked privileges) (find (is_named name) accounts)
      (λ a holds. (with-privileges (revoked privileges a).create_user (revoked privileges a).password_admin a holds.0, holds.1))))

  -- what an account that is found has, it has after a change
  changed-found : (change : Account → Account) (found : Option Account) → IfSome found (FitsAt now) → IfSome found (λ a. FitsAt now a → FitsAt now (change a))
      → IfSome found (λ a. FitsRecord (change a))
  changed-found change None holds keeps = tt
  changed-found change (Some a) holds keeps = (keeps holds).0

  -- the account that a statement makes or changes has a record
  pub next-fits : (statement : Statement) (own : Option Account) (settings : Settings) (accounts : List Account) → IsWritten statement
      → IsAccepted actor own (target_of accounts statement actor) statement settings now
      → All (FitsAt now) accounts → NextFits statement g actor salt now accounts
  next-fits (Create name auth factors options) own settings accounts w accepted all =
      created-fits g salt now name auth factors options s bound accepted.user accepted.labels accepted.options w.0 w.1
  next-fits (Alter target change options) own settings accounts w accepted all =
      changed-found (altered g salt now change options) (find (is_target actor target) accounts)
      (all-found (FitsAt now) (is_target actor target) accounts all)
      (if-both (FitsAt now) (retains (auth_in change)) (misfits change) (λ a. is_empty a.primary) (altered g salt now change options)
      (find (is_target actor target) accounts) accepted.factors accepted.retained
      (λ a places kept holds. altered-holds change options a w accepted.labels accepted.options places kept holds))
  next-fits (Drop name) own settings accounts w accepted all = tt
  next-fits Flush own settings accounts w accepted all = tt
  next-fits (Grant privileges name) own settings accounts w accepted all =
      changed-found (granted privileges) (find (is_named name) accounts) (all-found (FitsAt now) (is_named name) accounts all)
      (keeps-all (FitsAt now) (granted privileges) (find (is_named name) accounts)
      (λ a holds. (with-privileges (granted privileges a).create_user (granted privileges a).password_admin a holds.0, holds.1)))
  next-fits (Revoke privileges name) own settings accounts w accepted all =
      changed-found (revoked privileges) (find (is_named name) accounts) (all-found (FitsAt now) (is_named name) accounts all)
      (keeps-all (FitsAt now) (revoked privileges) (find (is_named name) accounts)
      (λ a holds. (with-privileges (revoked privileges a).create_user (revoked privileges a).password_admin a holds.0, holds.1)))

-- ## Moments

past-below : (past : List PastRecord) → AllByRecursion PastFits past → latest_past past < 2 ^ 64
past-below [] all = omega arith
past-below (p ∷ past) all = let later = past-below past all.1 in let one = all.0.0 in omega arith

pub moments-below : (accounts : List Account) → AllByRecursion FitsRecord accounts → latest_moment accounts < 2 ^ 64
moments-below [] all = omega arith
moments-below (a ∷ accounts) all =
    let later = moments-below accounts all.1 in
    let changed = all.0.changed in
    let past = past-below a.past (recursion_from_All PastFits a.past all.0.past.1) in omega arith

pub begun-holds : (now : ℕ) (accounts : List Account) → latest_moment accounts ≤ now → AllByRecursion FitsRecord accounts → AllByRecursion (FitsAt now) accounts
begun-holds now [] h all = tt
begun-holds now (a ∷ accounts) h all = ((all.0, omega arith), begun-holds now accounts (omega arith) all.1)

-- a later moment
pub later-holds : (before now : ℕ) (accounts : List Account) → before ≤ now → All (FitsAt before) accounts → All (FitsAt now) accounts
later-holds before now accounts h all = λ k d lt. let one = all k d lt in (one.0, (let past = one.1 in omega arith))

-- ## What follows of each account

pub few-of : (now : ℕ) (accounts : List Account) → All (FitsAt now) accounts → All HasFewLabels accounts
few-of now accounts all = λ k d lt. (all k d lt).0.labels.0

set-password : (kept : Stored) → IsSet kept → is_empty kept ≡ false
set-password stored.Empty s = absurd s
set-password (stored.Native digest) s = refl
set-password (stored.Sha2 value) s = refl

pub set-of : (now : ℕ) (accounts : List Account) → All (FitsAt now) accounts → All HasSetPast accounts
set-of now accounts all = λ k d lt j e h. set-password _ ((all k d lt).0.past.1 j e h).2
