-- Each account, and so each that is seen, has at most two further factors.
use Rattle.std.proofs.Common.{◌≡◌, sym, subst, List, [], ◌∷◌, find, cond, suc, Bool, true, false, Option, Some, None, IfSome, Result, Ok, Err, IfOk, All, arith}
use Rattle.factor_chain.specs.declared.credentials.Look.{Look}
use Rattle.account_rules.specs.declared.accounts.Account.{Account}
use Rattle.account_history.specs.declared.entries.Who.{Who}
use Rattle.account_history.specs.declared.entries.Who.TheVariants as who
use Rattle.account_history.specs.Answers.{look_of, shown_login, shown_whole}
use Rattle.account_history.specs.Histories.{History}
use Rattle.account_history.specs.Records.{has_id, in_force, is_at, is_named, or_else, records}
use Rattle.lg_base.specs.declared.names.Host.TheVariants as host
use Rattle.account_machine.specs.Labels.{HasFewLabels, ShowsFewLabels}

-- ## What is seen

-- what holds of each account holds of one that is found
all-found : (test : Account → Bool) (xs : List Account) → All HasFewLabels xs → IfSome (find test xs) HasFewLabels
all-found test [] all = tt
all-found test (x ∷ xs) all = cases (all-found test xs (λ k d h. all (suc k) d (omega arith))) (test x) where
  cases : IfSome (find test xs) HasFewLabels → (b : Bool) → IfSome (cond b (Some x) (find test xs)) HasFewLabels
  cases later true = all 0 x (omega arith)
  cases later false = later

or-few : (o p : Option Account) → IfSome o HasFewLabels → IfSome p HasFewLabels → IfSome (or_else o p) HasFewLabels
or-few None p few other = other
or-few (Some account) p few other = few

login-few : (h : History) (o : Option Account) → IfSome o HasFewLabels → IfSome (shown_login h o) ShowsFewLabels
login-few h None few = tt
login-few h (Some account) few = few

whole-few : (h : History) (o : Option Account) → IfSome o HasFewLabels → IfSome (shown_whole h o) ShowsFewLabels
whole-few h None few = tt
whole-few h (Some account) few = few

look-few : (h : History) (whose : Who) → All HasFewLabels (records h) → IfSome (look_of h whose).in_force ShowsFewLabels
look-few h (who.Login user) all =
    login-few h (in_force (records h) user) (or-few _ _ (all-found (is_at user host.Localhost) (records h) all) (all-found (is_at user host.Any) (records h) all))
look-few h (who.Account name) all = whole-few h _ (all-found (is_named name) (records h) all)
look-few h (who.Own id) all = whole-few h _ (all-found (has_id id) (records h) all)

pub seen-few : {E : Type 0} (h : History) (whose : Who) (result : Result Look E) → All HasFewLabels (records h)
    → IfOk result (λ look. look ≡ look_of h whose) → IfOk result (λ look. IfSome look.in_force ShowsFewLabels)
seen-few h whose (Ok look) all is = subst (λ (l : Look). IfSome l.in_force ShowsFewLabels) (sym is) (look-few h whose all)
seen-few h whose (Err e) all is = tt
