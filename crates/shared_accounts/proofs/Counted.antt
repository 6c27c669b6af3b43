-- Failures count once.
use Rattle.std.proofs.Common.{◌≡◌, refl, ap, sym, ◌∙◌, ℕ, ◌&&◌, List, [], ◌∷◌, ◌++◌, Bool, true, false, if◌then◌else◌, Option, Some, None}
use Rattle.std.specs.List.{list_all}
use Rattle.login_lock.specs.declared.LockRule.{LockRule}
use Rattle.login_lock.specs.Lock.{after, counts, standing}
use Rattle.account_rules.specs.declared.accounts.Account.{Account}
use Rattle.account_history.specs.Deciding.{Condition, IsThere, IsUnblocked, IsProved, IsUnlocked, IsUsable, Login, conditions, holds_of, login_at}
use Rattle.account_history.specs.Failures.{failures, opens}
use Rattle.account_history.specs.Histories.{History}
use Rattle.account_history.specs.Known.{known}
use Rattle.account_history.specs.Records.{in_force, records}
use Rattle.account_history.specs.Verifying.{account_verifies}
use Rattle.account_history.specs.declared.entries.Attempt.{Attempt}
use Rattle.account_history.proofs.Decided.{attempts-decided}
use Rattle.account_history.proofs.OneMore.{failures-nobody, failures-observed, failures-on, failures-other}
use Rattle.shared_accounts.specs.Laws.{CountsOnce, FailuresCountOnce, FitsThere, moment_of}

after-failure : (rule : LockRule) (before : List ℕ) (opened verified : Bool) (now : ℕ) → opened ≡ false → verified ≡ false
    → counts rule (standing rule before now) now ≡ true → after rule before opened verified now ≡ standing rule before now ++ now ∷ []
after-failure rule before opened verified now o v c =
    ap (λ b. after rule before b verified now) o
    ∙ (ap (λ b. after rule before false b now) v
    ∙ ap (λ (b : Bool). if b then standing rule before now ++ now ∷ [] else standing rule before now) c)

counts-once : (h : History) (t : Attempt) → CountsOnce h t
counts-once h t = record {
  one_more = λ a e o v c. failures-on h t a e ∙ after-failure a.lock (failures h a.id) (opens t.reply) (account_verifies (known h) a t.evidences) (moment_of h t) o v c;
  others = λ a id e other. failures-other h t a id e other;
  nobody = λ id e. failures-nobody h t id e;
}

both-true : (a b : Bool) → (a && b) ≡ true → (a ≡ true) × (b ≡ true)
both-true true true e = (refl, refl)
both-true true false e = absurd (cc)
both-true false b e = absurd (cc)

abbrev login_of : History → Attempt → Login
login_of h t = login_at h t.user t.evidences t.flags t.reading

fits-there : (h : History) (t : Attempt) → FitsThere h t
fits-there h t answered opened = by (in_force (records h) t.user) refl all where
  all : list_all (holds_of (login_of h t) (in_force (records h) t.user)) conditions ≡ true
  all = sym (attempts-decided h t.user t.evidences t.flags t.reading).opened ∙ (ap opens (sym answered) ∙ opened)

  by : (found : Option Account) → in_force (records h) t.user ≡ found → list_all (holds_of (login_of h t) found) conditions ≡ true
      → (a : Account) × (in_force (records h) t.user ≡ Some a) × (account_verifies (known h) a t.evidences ≡ true)
  by None e f = absurd (cc)
  by (Some a) e f =
      let test : Condition → Bool = holds_of (login_of h t) (Some a) in
      let there = both-true (test IsThere) (list_all test (IsUnblocked ∷ IsProved ∷ IsUnlocked ∷ IsUsable ∷ [])) f in
      let unblocked = both-true (test IsUnblocked) (list_all test (IsProved ∷ IsUnlocked ∷ IsUsable ∷ [])) there.1 in
      let proved = both-true (test IsProved) (list_all test (IsUnlocked ∷ IsUsable ∷ [])) unblocked.1 in
      (a, e, proved.0)

pub failures-count-once : FailuresCountOnce
failures-count-once h = ((λ t. (counts-once h t, fits-there h t)), λ who look id. failures-observed h who look id)
