use Rattle.std.proofs.Common.{◌≡◌, ◌∙◌, ap, sym, subst, find, Option, IfSome, option_copied, ℕ}
use Rattle.account_rules.specs.declared.accounts.Account.{Account}
use Rattle.account_history.specs.Naming.{has_id}
use Rattle.account_history.specs.Refusals.{first_of, refusals}
use Rattle.account_history.specs.Targets.{is_named_by, target_of}
use Rattle.account_machine.specs.Looks.{account_at, accounts_of}
use Rattle.account_history.specs.Pasts.{HasSetPast}
use Rattle.account_machine.proofs.Found.{all-found, found-in}
use Rattle.account_machine.proofs.targets.first_refusal.Goals as goal

pub refusal_of-requires : goal.refusal_of-requires
refusal_of-requires c =
    let target : option_copied c.account_at-target.result ≡ target_of (accounts_of c.args.rows.now) c.args.statement.now c.args.actor =
    c.account_at-target.ensures ∙ ap (λ (place : Option ℕ). account_at c.args.rows.now place) c.find_target.ensures
    ∙ found-in c.args.rows.now (is_named_by c.args.statement.now c.args.actor) in
    subst (λ (found : Option Account). IfSome found HasSetPast) (sym target)
    (all-found HasSetPast (is_named_by c.args.statement.now c.args.actor) (accounts_of c.args.rows.now) c.requires)

pub returns : goal.returns
returns c =
    let own : option_copied c.account_at-own.result ≡ find (has_id c.args.actor) (accounts_of c.args.rows.now) =
    c.account_at-own.ensures ∙ ap (λ (place : Option ℕ). account_at c.args.rows.now place) c.find_numbered.ensures
    ∙ found-in c.args.rows.now (has_id c.args.actor) in
    let target : option_copied c.account_at-target.result ≡ target_of (accounts_of c.args.rows.now) c.args.statement.now c.args.actor =
    c.account_at-target.ensures ∙ ap (λ (place : Option ℕ). account_at c.args.rows.now place) c.find_target.ensures
    ∙ found-in c.args.rows.now (is_named_by c.args.statement.now c.args.actor) in
    c.in_ok-refusal.ensures
    ∙ ap (λ (o : Option Account). first_of (refusals c.args.actor o (option_copied c.account_at-target.result) c.args.statement.now c.args.settings.now c.args.now)) own
    ∙ ap (λ (t : Option Account). first_of (refusals c.args.actor (find (has_id c.args.actor) (accounts_of c.args.rows.now)) t c.args.statement.now c.args.settings.now c.args.now)) target
