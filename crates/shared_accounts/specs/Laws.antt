-- Failures count once, whatever threads do: each attempt is one entry of the one history, and what it counts is decided there.
use Rattle.std.specs.Prelude.{◌≡◌, ℕ, max, ◌==◌, [], ◌∷◌, ◌++◌, true, false, Some, None}
use Rattle.factor_chain.specs.declared.credentials.Look.{Look}
use Rattle.login_lock.specs.Lock.{counts, standing}
use Rattle.account_rules.specs.declared.accounts.Account.{Account}
use Rattle.account_history.specs.Failures.{failures, opens}
use Rattle.account_history.specs.Histories.{History, ◌▹◌, moment}
use Rattle.account_history.specs.Known.{known}
use Rattle.account_history.specs.Legal.{IsAnswered}
use Rattle.account_history.specs.Records.{in_force, records}
use Rattle.account_history.specs.Verifying.{account_verifies}
use Rattle.account_history.specs.declared.entries.Attempt.{Attempt}
use Rattle.account_history.specs.declared.entries.Entry.TheVariants.{Attempted, Observed}
use Rattle.account_history.specs.declared.entries.Who.{Who}

abbrev pub moment_of : History → Attempt → ℕ
moment_of h t = max t.reading (moment h)

-- what an attempt counts
pub record CountsOnce (h : History) (t : Attempt) : Type 0 where
  -- a failure that counts is one more behind those that still stand
  pub one_more : (a : Account) → in_force (records h) t.user ≡ Some a → opens t.reply ≡ false → account_verifies (known h) a t.evidences ≡ false
      → counts a.lock (standing a.lock (failures h a.id) (moment_of h t)) (moment_of h t) ≡ true
      → failures (h ▹ Attempted t) a.id ≡ standing a.lock (failures h a.id) (moment_of h t) ++ moment_of h t ∷ []
  -- it counts on no other account
  pub others : (a : Account) (id : ℕ) → in_force (records h) t.user ≡ Some a → (a.id == id) ≡ false → failures (h ▹ Attempted t) id ≡ failures h id
  pub nobody : (id : ℕ) → in_force (records h) t.user ≡ None → failures (h ▹ Attempted t) id ≡ failures h id

-- an attempt that opens fits an account that is in force at its place
abbrev pub FitsThere : History → Attempt → Type 0
FitsThere h t =
    IsAnswered h (Attempted t) → opens t.reply ≡ true
    → (a : Account) × (in_force (records h) t.user ≡ Some a) × (account_verifies (known h) a t.evidences ≡ true)

abbrev pub FailuresCountOnce : Type 0
FailuresCountOnce =
    (h : History) → ((t : Attempt) → CountsOnce h t × FitsThere h t)
    × ((who : Who) (look : Look) (id : ℕ) → failures (h ▹ Observed who look) id ≡ failures h id)
