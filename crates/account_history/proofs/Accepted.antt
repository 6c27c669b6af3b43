-- A statement that was done isn't refused, so none of the conditions of a refusal holds.
use Rattle.std.proofs.Common.{◌≡◌, refl, sym, ap, ◌∙◌, ℕ, max, Bool, true, false, not, ◌&&◌, List, [], ◌∷◌, find, Option, Some, None, option_map}
use Rattle.lg_base.specs.declared.errors.Code.{Code}
use Rattle.factor_chain.specs.Checking.{is_empty}
use Rattle.account_rules.specs.declared.accounts.Account.{Account}
use Rattle.account_rules.specs.declared.accounts.Settings.{Settings}
use Rattle.stmt_rules.specs.declared.statement.Statement.{Statement}
use Rattle.account_history.specs.declared.entries.Execution.{Execution}
use Rattle.account_history.specs.Answers.{reply_to, statement_refusal}
use Rattle.account_history.specs.Given.{is_done}
use Rattle.account_history.specs.Histories.{History, moment, start_of}
use Rattle.account_history.specs.Legal.{IsExecuted}
use Rattle.account_history.specs.Naming.{has_id, or_else}
use Rattle.account_history.specs.Records.{records}
use Rattle.account_history.specs.Refusals.{auth_of, changes_method, first_of, first_refusal, has_bad_label, has_bad_user, is_bad_password, is_overfull, is_reused, misfits_target, misplaced, new_password, options_fit, options_of, refusals, retains, unknown_method, unprivileged, when}
use Rattle.account_history.specs.Targets.{of_account, target_of}

-- what the lack of a refusal tells
pub record IsAccepted (actor : ℕ) (own target : Option Account) (statement : Statement) (settings : Settings) (now : ℕ) : Type 0 where
  pub privileged : unprivileged actor own target statement ≡ None
  pub placed : misplaced statement target ≡ None
  pub user : has_bad_user statement ≡ false
  pub methods : unknown_method statement ≡ None
  pub factors : misfits_target statement target ≡ false
  pub labels : has_bad_label statement ≡ false
  pub same_method : (retains (auth_of statement) && of_account (changes_method (auth_of statement)) target) ≡ false
  pub retained : (retains (auth_of statement) && of_account (λ a. is_empty a.primary) target) ≡ false
  pub password : is_bad_password (new_password statement) ≡ false
  pub options : options_fit (options_of statement) ≡ true
  pub unused : of_account (is_reused statement settings now) target ≡ false
  pub room : of_account (is_overfull statement settings now) target ≡ false

both-none : (x y : Option Code) → or_else x y ≡ None → (x ≡ None) × (y ≡ None)
both-none None y e = (refl, e)
both-none (Some code) y e = absurd (cc)

when-none : (holds : Bool) (code : Code) → when holds code ≡ None → holds ≡ false
when-none true code e = absurd (cc)
when-none false code e = refl

not-false : (b : Bool) → not b ≡ false → b ≡ true
not-false true e = refl
not-false false e = absurd (cc)

no-method : (word : Option (List ℕ)) (code : List ℕ → Code) → option_map code word ≡ None → word ≡ None
no-method None code e = refl
no-method (Some name) code e = absurd (cc)

module _ (actor : ℕ) (own target : Option Account) (statement : Statement) (settings : Settings) (now : ℕ) where
  none-holds : first_of (refusals actor own target statement settings now) ≡ None → IsAccepted actor own target statement settings now
  none-holds e =
      let r1227 = both-none _ _ e in
      let r1396 = both-none _ _ r1227.1 in
      let r50007 = both-none _ _ r1396.1 in
      let r1524 = both-none _ _ r50007.1 in
      let r50006 = both-none _ _ r1524.1 in
      let r50009 = both-none _ _ r50006.1 in
      let r50002 = both-none _ _ r50009.1 in
      let r50001 = both-none _ _ r50002.1 in
      let r50003 = both-none _ _ r50001.1 in
      let r50004 = both-none _ _ r50003.1 in
      let r3638 = both-none _ _ r50004.1 in
      let r50005 = both-none _ _ r3638.1 in
      record {
        privileged = r1227.0;
        placed = r1396.0;
        user = when-none _ _ r50007.0;
        methods = no-method _ _ r1524.0;
        factors = when-none _ _ r50006.0;
        labels = when-none _ _ r50009.0;
        same_method = when-none _ _ r50002.0;
        retained = when-none _ _ r50001.0;
        password = when-none _ _ r50003.0;
        options = not-false _ (when-none _ _ r50004.0);
        unused = when-none _ _ r3638.0;
        room = when-none _ _ r50005.0;
      }

pub accepted : (accounts : List Account) (statement : Statement) (actor : ℕ) (settings : Settings) (now : ℕ)
    → first_refusal accounts statement actor settings now ≡ None
    → IsAccepted actor (find (has_id actor) accounts) (target_of accounts statement actor) statement settings now
accepted accounts statement actor settings now e =
    none-holds actor (find (has_id actor) accounts) (target_of accounts statement actor) statement settings now e

done-not-refused : (refusal : Option Code) (failed : Bool) → is_done (reply_to refusal failed) ≡ true → refusal ≡ None
done-not-refused None failed e = refl
done-not-refused (Some code) failed e = absurd (cc)

-- a statement that was done was accepted
pub done-accepted : (h : History) (e : Execution) → IsExecuted h e → is_done e.reply ≡ true
    → IsAccepted e.actor (find (has_id e.actor) (records h)) (target_of (records h) e.statement e.actor) e.statement (start_of h).settings (max e.reading (moment h))
done-accepted h e x done =
    accepted (records h) e.statement e.actor (start_of h).settings (max e.reading (moment h))
    (done-not-refused (statement_refusal h e.statement e.actor e.reading) e.failed (ap is_done (sym x.replied) ∙ done))
