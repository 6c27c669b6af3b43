-- What one more step does to the failures that count: the count over the span as a running list.
use Rattle.std.proofs.Common.{◌≡◌, refl, ap, ◌∙◌, ℕ, List, [], ◌∷◌, ◌++◌, map, filter, Bool, true, false, not, ◌&&◌, ◌||◌, if◌then◌else◌, Option, Some, None}
use Rattle.std.specs.List.{list_any}
use Rattle.std.proofs.lemmas.List.{append-nil, map-append}
use Rattle.std.proofs.lemmas.List.Elements.{filter-append}
use Rattle.std.proofs.lemmas.List.Folds.{list_any-append}
use Rattle.login_lock.specs.declared.LockRule.{LockRule}
use Rattle.login_lock.specs.Lock.{after, is_blocked, is_over, locked_at, tracks}
use Rattle.account_history.specs.Failures.{Step, failures_in, from_last, no_step}
use Rattle.account_history.specs.Searching.{after_last}

-- a test of a list with one element more
any-more : {T : Type 0} (p : T → Bool) (xs : List T) (y : T) → list_any p (xs ++ y ∷ []) ≡ (list_any p xs || p y)
any-more p xs y = list_any-append p xs (y ∷ []) ∙ ap (λ b. list_any p xs || b) (or_false (p y)) where
  or_false : (b : Bool) → (b || false) ≡ b
  or_false true = refl
  or_false false = refl

pub after_last-more : {T : Type 0} (p : T → Bool) (xs : List T) (y : T)
    → after_last p (xs ++ y ∷ []) ≡ (if p y then [] else after_last p xs ++ y ∷ [])
after_last-more p [] y = refl
after_last-more p (x ∷ xs) y =
    rw (any-more p xs y, after_last-more p xs y) (cases (list_any p xs) (p y) (p x)) where
      cases : (any last first : Bool)
          → (if any || last then (if last then [] else after_last p xs ++ y ∷ []) else if first then xs ++ y ∷ [] else x ∷ (xs ++ y ∷ []))
          ≡ (if last then [] else (if any then after_last p xs else if first then xs else x ∷ xs) ++ y ∷ [])
      cases true true first = refl
      cases true false first = refl
      cases false true first = refl
      cases false false true = refl
      cases false false false = refl

pub from_last-more : (p : Step → Bool) (xs : List Step) (y : Step)
    → from_last p (xs ++ y ∷ []) ≡ (if p y then y ∷ [] else from_last p xs ++ y ∷ [])
from_last-more p [] y = cases (p y) where
  cases : (last : Bool) → (y ∷ []) ≡ (if last then y ∷ [] else y ∷ [])
  cases true = refl
  cases false = refl
from_last-more p (x ∷ xs) y =
    rw (any-more p xs y, from_last-more p xs y) (cases (list_any p xs) (p y)) where
      cases : (any last : Bool)
          → (if any || last then (if last then y ∷ [] else from_last p xs ++ y ∷ []) else x ∷ (xs ++ y ∷ []))
          ≡ (if last then y ∷ [] else (if any then from_last p xs else x ∷ xs) ++ y ∷ [])
      cases true true = refl
      cases true false = refl
      cases false true = refl
      cases false false = refl

-- the failures that one more step leaves
abbrev pub with_step : List ℕ → Step → List ℕ
with_step failures y =
    if y.resets then []
    else ((if y.renews then [] else failures) ++ (if y.counts then y.moment ∷ [] else []))

pub failures_in-more : (xs : List Step) (y : Step) → failures_in (xs ++ y ∷ []) ≡ with_step (failures_in xs) y
failures_in-more xs y =
    rw (after_last-more (λ step. step.resets) xs y) (cleared y.resets) where
      moments : List Step → List ℕ
      moments steps = map (λ step. step.moment) (filter (λ step. step.counts) steps)

      one : (counts : Bool) → map (λ step. step.moment) (if counts then y ∷ [] else []) ≡ (if counts then y.moment ∷ [] else [])
      one true = refl
      one false = refl

      only : (counts : Bool) → (if counts then y ∷ [] else []) ≡ (if counts then y ∷ filter (λ step. step.counts) [] else [])
      only true = refl
      only false = refl

      renewed : (renews : Bool) (before : List Step)
          → map (λ step. step.moment) (filter (λ step. step.counts) (if renews then y ∷ [] else from_last (λ step. step.renews) before ++ y ∷ []))
          ≡ ((if renews then [] else map (λ step. step.moment) (filter (λ step. step.counts) (from_last (λ step. step.renews) before))) ++ (if y.counts then y.moment ∷ [] else []))
      renewed true before = one y.counts
      renewed false before =
          rw (
            filter-append (λ step. step.counts) (from_last (λ step. step.renews) before) (y ∷ []),
            map-append (λ (step : Step). step.moment) (filter (λ step. step.counts) (from_last (λ step. step.renews) before)) (filter (λ step. step.counts) (y ∷ [])),
          )
          (ap (λ last. map (λ step. step.moment) (filter (λ step. step.counts) (from_last (λ step. step.renews) before)) ++ last) (one y.counts))

      cleared : (resets : Bool)
          → map (λ step. step.moment) (filter (λ step. step.counts) (from_last (λ step. step.renews) (if resets then [] else after_last (λ step. step.resets) xs ++ y ∷ [])))
          ≡ (if resets then [] else ((if y.renews then [] else failures_in xs) ++ (if y.counts then y.moment ∷ [] else [])))
      cleared true = refl
      cleared false =
          rw (from_last-more (λ step. step.renews) (after_last (λ step. step.resets) xs) y)
          (renewed y.renews (after_last (λ step. step.resets) xs))

-- a step that does nothing leaves the failures
pub failures_in-nothing : (xs : List Step) (now : ℕ) → failures_in (xs ++ no_step now ∷ []) ≡ failures_in xs
failures_in-nothing xs now = failures_in-more xs (no_step now) ∙ append-nil (failures_in xs)

-- a lock that is over doesn't block
pub over-unblocked : (rule : LockRule) (locked : Option ℕ) (now : ℕ) → is_over rule locked now ≡ true → is_blocked rule locked now ≡ false
over-unblocked rule None now e = refl
over-unblocked rule (Some set) now e = rw e (and_false (tracks rule)) where
  and_false : (b : Bool) → (b && false) ≡ false
  and_false true = refl
  and_false false = refl

-- an attempt on an account does to its failures what the tally's step does
pub with_attempt : (rule : LockRule) (failures : List ℕ) (opened verified : Bool) (now : ℕ)
    → with_step failures (record {
      moment = now;
      resets = opened;
      renews = is_over rule (locked_at rule failures) now;
      counts = tracks rule && not (is_blocked rule (locked_at rule failures) now) && not verified;
    })
    ≡ after rule failures opened verified now
with_attempt rule failures true verified now = refl
with_attempt rule failures false verified now =
    let over : Bool = is_over rule (locked_at rule failures) now in
    elim over as (λ b. is_over rule (locked_at rule failures) now ≡ b →
    ((if b then [] else failures) ++ (if tracks rule && not (is_blocked rule (locked_at rule failures) now) && not verified then now ∷ [] else []))
    ≡ (if verified then (if b then [] else failures)
    else (if tracks rule && not (is_blocked rule (locked_at rule (if b then [] else failures)) now)
    then (if b then [] else failures) ++ now ∷ [] else (if b then [] else failures)))) [
      | true ↦ λ e. rw (over-unblocked rule (locked_at rule failures) now e) (ended (tracks rule) verified)
      | false ↦ λ e. standing (tracks rule) (is_blocked rule (locked_at rule failures) now) verified
    ] refl where
      ended : (tracking verified' : Bool)
          → (if tracking && true && not verified' then now ∷ [] else [])
          ≡ (if verified' then [] else (if tracking && true then now ∷ [] else []))
      ended true true = refl
      ended true false = refl
      ended false true = refl
      ended false false = refl

      standing : (tracking blocked verified' : Bool)
          → (failures ++ (if tracking && not blocked && not verified' then now ∷ [] else []))
          ≡ (if verified' then failures else (if tracking && not blocked then failures ++ now ∷ [] else failures))
      standing true true true = append-nil failures
      standing true true false = append-nil failures
      standing true false true = append-nil failures
      standing true false false = refl
      standing false true true = append-nil failures
      standing false true false = append-nil failures
      standing false false true = append-nil failures
      standing false false false = append-nil failures
