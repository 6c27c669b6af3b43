-- The rows after a statement that was done are those of the history with it, kind by kind.
use Rattle.std.proofs.Common.{◌≡◌, refl, ap, sym, ◌∙◌, ℕ, ◌+◌, ◌<◌, ◌≤◌, ◌==◌, List, [], ◌∷◌, ◌++◌, map, Bool, true, false, ◌&&◌, Option, Some, arith, ne_eqb, eq-eqb}
use Rattle.std.proofs.lemmas.List.{map-append}
use Rattle.account_rules.specs.declared.accounts.Account.{Account}
use Rattle.stmt_rules.specs.declared.statement.Options.{Options}
use Rattle.stmt_rules.specs.declared.statement.Statement.{Statement}
use Rattle.stmt_rules.specs.declared.statement.Statement.TheVariants.{Create, Alter, Drop, Flush, Grant, Revoke}
use Rattle.account_history.specs.declared.entries.Entry.TheVariants.{Executed}
use Rattle.account_history.specs.declared.entries.Execution.{Execution}
use Rattle.account_history.specs.Effects.{altered, changed, created, effect_of, granted, revoked}
use Rattle.account_history.specs.Failures.{clears_failures}
use Rattle.account_history.specs.Given.{given, is_done}
use Rattle.account_history.specs.Histories.{History, ◌▹◌}
use Rattle.account_history.specs.Naming.{has_id, is_named}
use Rattle.account_history.specs.Numbers.{Rise, RiseTo}
use Rattle.account_history.specs.Options.{clear_failures}
use Rattle.account_history.specs.Records.{records}
use Rattle.account_history.specs.Targets.{is_target, of_account, target_of}
use Rattle.account_history.proofs.Numbered.{same-id}
use Rattle.account_machine.specs.Executing.{no_failures, row_with, rows_after}
use Rattle.account_machine.specs.Rows.{row_of}
use Rattle.account_machine.specs.declared.rows.Row.{Row}
use Rattle.account_machine.proofs.Executed.{kept-failures, row-cleared, row-kept, rows-changed-to, rows-without, rule-kept, same-lock}
use Rattle.account_machine.proofs.Written.{row-same}

rise-le : (low high : ℕ) (xs : List Account) → RiseTo low high xs → low ≤ high
rise-le low high [] r = r
rise-le low high (x ∷ xs) r = let h = rise-le x.id high xs r.1 in let k : low < x.id = r.0 in omega arith

-- numbers that rise up to one rise
pub rise-of : (low high : ℕ) (xs : List Account) → RiseTo low high xs → Rise low xs
rise-of low high [] r = tt
rise-of low high (x ∷ xs) r = (r.0, rise-of x.id high xs r.1)

agree-upto : (f g : Account → Row) (low high : ℕ) (xs : List Account) → RiseTo low high xs → ((b : Account) → b.id ≤ high → f b ≡ g b)
    → map f xs ≡ map g xs
agree-upto f g low high [] r same = refl
agree-upto f g low high (x ∷ xs) r same = λ i. same x (rise-le x.id high xs r.1) i ∷ agree-upto f g x.id high xs r.1 same i

both-false : (b c : Bool) → c ≡ false → (b && c) ≡ false
both-false true c e = e
both-false false c e = refl

first-false : (b c : Bool) → b ≡ false → (b && c) ≡ false
first-false b c e = ap (λ x. x && c) e

both-true : (b c : Bool) → b ≡ true → c ≡ true → (b && c) ≡ true
both-true b c e f = ap (λ x. x && c) e ∙ f

flushed : (f g : Account → Row) (xs : List Account) → ((b : Account) → row_with true (λ a. a) (f b) ≡ g b) → map (row_with true (λ a. a)) (map f xs) ≡ map g xs
flushed f g [] same = refl
flushed f g (x ∷ xs) same = λ i. same x i ∷ flushed f g xs same i

module _ (h : History) (e : Execution) (d : is_done e.reply ≡ true) (r : RiseTo 0 (given h).account (records h)) where
  clears : Statement → ℕ → Bool
  clears st id = clears_failures (records h) (given h) e.actor st id

  kept : (b : Account) → clears_failures (records h) (given h) e.actor e.statement b.id ≡ false → row_of h b ≡ row_of (h ▹ Executed e) b
  kept b n = row-same h (h ▹ Executed e) b (kept-failures h e b.id n)

  -- an account that a statement changes
  there : (options : Options) (change : Account → Account) (a : Account) → (change a).id ≡ a.id
      → (clear_failures options ≡ false → (change a).lock ≡ a.lock)
      → ((b : Bool) → clear_failures options ≡ b → clears_failures (records h) (given h) e.actor e.statement a.id ≡ b)
      → row_with (clear_failures options) change (row_of h a) ≡ row_of (h ▹ Executed e) (change a)
  there options change a i l n = cases (clear_failures options) refl where
    cases : (b : Bool) → clear_failures options ≡ b → row_with b change (row_of h a) ≡ row_of (h ▹ Executed e) (change a)
    cases true f = row-cleared h e (change a) d (ap (λ (id : ℕ). clears_failures (records h) (given h) e.actor e.statement id) i ∙ n true f)
    cases false f = row-kept h e a (change a) i (l f) (n false f)

  pub rows-follow : (st : Statement) → e.statement ≡ st → (now : ℕ)
      → rows_after st (given h) e.actor e.salt now (map (row_of h) (records h))
      ≡ map (row_of (h ▹ Executed e)) (effect_of st (given h) e.actor e.salt now (records h))
  rows-follow (Create name auth factors options) s now =
      let a : Account = created (given h) e.salt now name auth factors options in
      let says : (id : ℕ) → clears_failures (records h) (given h) e.actor e.statement id ≡ ((given h).account + 1 == id) =
      λ id. ap (λ (st : Statement). clears_failures (records h) (given h) e.actor st id) s in
      let before = agree-upto (row_of h) (row_of (h ▹ Executed e)) 0 (given h).account (records h) r
      (λ b le. kept b (says b.id ∙ ne_eqb ((given h).account + 1) b.id (λ q. absurd (omega arith)))) in
      let new = row-cleared h e a d (says a.id ∙ eq-eqb ((given h).account + 1) ((given h).account + 1) refl) in
      ap (λ (rows : List Row). rows ++ record { account = a; tally = no_failures } ∷ []) before
      ∙ ap (λ (row : Row). map (row_of (h ▹ Executed e)) (records h) ++ row ∷ []) new
      ∙ sym (map-append (row_of (h ▹ Executed e)) (records h) (a ∷ []))
  rows-follow (Alter target change options) s now =
      let says : (id : ℕ) → clears_failures (records h) (given h) e.actor e.statement id
      ≡ (clear_failures options && of_account (has_id id) (target_of (records h) (Alter target change options) e.actor)) =
      λ id. ap (λ (st : Statement). clears_failures (records h) (given h) e.actor st id) s in
      rows-changed-to (row_of h) (row_of (h ▹ Executed e)) (is_target e.actor target) (altered (given h) e.salt now change options)
      (row_with (clear_failures options) (altered (given h) e.salt now change options)) (λ a. refl) 0 (records h) (rise-of 0 (given h).account (records h) r)
      (λ b n. kept b (says b.id ∙ both-false (clear_failures options) _ n))
      (λ a f. there options (altered (given h) e.salt now change options) a (same-id change ((given h).credential + 1) e.salt now a)
      (λ n. rule-kept options.attempts options.lock_time _ (changed change ((given h).credential + 1) e.salt now a).lock n ∙ same-lock change ((given h).credential + 1) e.salt now a)
      (λ b k. says a.id ∙ ap (λ (c : Bool). c && of_account (has_id a.id) (target_of (records h) (Alter target change options) e.actor)) k ∙ its b a f)) where
        its : (b : Bool) (a : Account) → target_of (records h) (Alter target change options) e.actor ≡ Some a
            → (b && of_account (has_id a.id) (target_of (records h) (Alter target change options) e.actor)) ≡ b
        its true a f = ap (λ (t : Option Account). of_account (has_id a.id) t) f ∙ eq-eqb a.id a.id refl
        its false a f = refl
  rows-follow (Drop name) s now =
      rows-without (row_of h) (row_of (h ▹ Executed e)) (is_named name) (λ a. refl)
      (λ b. kept b (ap (λ (st : Statement). clears_failures (records h) (given h) e.actor st b.id) s)) (records h)
  rows-follow Flush s now =
      flushed (row_of h) (row_of (h ▹ Executed e)) (records h)
      (λ b. row-cleared h e b d (ap (λ (st : Statement). clears_failures (records h) (given h) e.actor st b.id) s))
  rows-follow (Grant privileges name) s now =
      let says : (id : ℕ) → clears_failures (records h) (given h) e.actor e.statement id ≡ false =
      λ id. ap (λ (st : Statement). clears_failures (records h) (given h) e.actor st id) s in
      rows-changed-to (row_of h) (row_of (h ▹ Executed e)) (is_named name) (granted privileges)
      (row_with false (granted privileges)) (λ a. refl) 0 (records h) (rise-of 0 (given h).account (records h) r)
      (λ b n. kept b (says b.id)) (λ a f. row-kept h e a (granted privileges a) refl refl (says a.id))
  rows-follow (Revoke privileges name) s now =
      let says : (id : ℕ) → clears_failures (records h) (given h) e.actor e.statement id ≡ false =
      λ id. ap (λ (st : Statement). clears_failures (records h) (given h) e.actor st id) s in
      rows-changed-to (row_of h) (row_of (h ▹ Executed e)) (is_named name) (revoked privileges)
      (row_with false (revoked privileges)) (λ a. refl) 0 (records h) (rise-of 0 (given h).account (records h) r)
      (λ b n. kept b (says b.id)) (λ a f. row-kept h e a (revoked privileges a) refl refl (says a.id))
