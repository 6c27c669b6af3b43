-- What is seen by the rows is what is seen after the history.
use Rattle.std.proofs.Common.{◌≡◌, refl, ap, sym, ◌∙◌, ℕ, List, Bool, true, false, find, Option, Some, None, Result, Ok, Err, IfOk, option_map}
use Rattle.std.specs.List.{position}
use Rattle.lg_base.specs.declared.names.Name.{Name}
use Rattle.factor_chain.specs.declared.credentials.Look.{Look}
use Rattle.account_rules.specs.declared.accounts.Account.{Account}
use Rattle.account_history.specs.declared.entries.Who.TheVariants as who
use Rattle.account_history.specs.Answers.{look_of, shown_login, shown_whole, user_of}
use Rattle.account_history.specs.Histories.{History}
use Rattle.account_history.specs.Known.{known}
use Rattle.account_history.specs.Records.{has_id, in_force, is_named, records}
use Rattle.account_history.specs.Stamps.{stamp}
use Rattle.account_machine.specs.declared.rows.Row.{Row}
use Rattle.account_machine.specs.Looks.{account_at, accounts_of, plain_look, shown_account}
use Rattle.account_machine.specs.Rows.{rows_of}
use Rattle.account_machine.proofs.Places.{find-position, find-row}
use Rattle.account_machine.proofs.Written.{accounts-rows}

login-is : (h : History) (account : Option Account) → option_map (shown_account (known h) false) account ≡ shown_login h account
login-is h None = refl
login-is h (Some account) = refl

whole-is : (h : History) (account : Option Account) → option_map (shown_account (known h) true) account ≡ shown_whole h account
whole-is h None = refl
whole-is h (Some account) = refl

-- a test of accounts finds the account at the place where the same test of rows passes
pub found-at : (h : History) (rows : List Row) (p : Account → Bool) → rows ≡ rows_of h
    → account_at rows (position (λ row. p row.account) rows) ≡ find p (records h)
found-at h rows p e =
    sym (find-row p rows ∙ find-position (λ row. p row.account) rows)
    ∙ ap (λ rs. find p (accounts_of rs)) e ∙ ap (λ accounts. find p accounts) (accounts-rows h)

module _ (h : History) (digests : ℕ → Option (List ℕ)) (same : (id : ℕ) → digests id ≡ known h id) where
  all-same : digests ≡ known h
  all-same = λ i id. same id i

  pub login-look : (user said : List ℕ) (n : ℕ) (found : Option Account) → said ≡ user → n ≡ stamp h said → found ≡ in_force (records h) user
      → plain_look digests said n false found ≡ look_of h (who.Login user)
  login-look user said n found u c f =
      ap (λ (d : ℕ → Option (List ℕ)). plain_look d said n false found) all-same
      ∙ (λ i. record { user = u i; stamp = (c ∙ ap (stamp h) u) i; in_force = (ap (option_map (shown_account (known h) false)) f ∙ login-is h (in_force (records h) user)) i })

  pub named-look : (name : Name) (said : List ℕ) (n : ℕ) (found : Option Account) → said ≡ name.user → n ≡ stamp h said → found ≡ find (is_named name) (records h)
      → plain_look digests said n true found ≡ look_of h (who.Account name)
  named-look name said n found u c f =
      ap (λ (d : ℕ → Option (List ℕ)). plain_look d said n true found) all-same
      ∙ (λ i. record { user = u i; stamp = (c ∙ ap (stamp h) u) i; in_force = (ap (option_map (shown_account (known h) true)) f ∙ whole-is h (find (is_named name) (records h))) i })

  pub own-look : (id : ℕ) (said : List ℕ) (n : ℕ) (found : Option Account) → said ≡ user_of found → n ≡ stamp h said → found ≡ find (has_id id) (records h)
      → plain_look digests said n true found ≡ look_of h (who.Own id)
  own-look id said n found u c f =
      ap (λ (d : ℕ → Option (List ℕ)). plain_look d said n true found) all-same
      ∙ (λ i. record {
        user = (u ∙ ap user_of f) i;
        stamp = (c ∙ ap (stamp h) (u ∙ ap user_of f)) i;
        in_force = (ap (option_map (shown_account (known h) true)) f ∙ whole-is h (find (has_id id) (records h))) i;
      })

-- a look that was made is one that is equal
pub ok-as : {E : Type 0} (result : Result Look E) (made wanted : Look) → made ≡ wanted → IfOk result (λ look. look ≡ made) → IfOk result (λ look. look ≡ wanted)
ok-as (Ok look) made wanted e h = h ∙ e
ok-as (Err x) made wanted e h = tt
