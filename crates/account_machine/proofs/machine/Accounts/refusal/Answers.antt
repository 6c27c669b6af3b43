use Rattle.std.proofs.Common.{◌≡◌, ◌∙◌, ap, sym, subst, ℕ, List, All, max}
use Rattle.account_rules.specs.declared.accounts.Account.{Account}
use Rattle.account_rules.specs.declared.accounts.Settings.{Settings}
use Rattle.account_history.specs.declared.entries.Log.{Log}
use Rattle.account_history.specs.Answers.{statement_refusal}
use Rattle.account_history.specs.Histories.{history, moment, start_of}
use Rattle.account_history.specs.Records.{records}
use Rattle.account_history.specs.Refusals.{first_refusal}
use Rattle.account_machine.specs.Looks.{accounts_of}
use Rattle.account_history.specs.Pasts.{HasSetPast}
use Rattle.account_machine.proofs.Committed.{accounts-kept}
use Rattle.account_machine.proofs.Holding.{set-of}
use Rattle.account_machine.proofs.machine.Accounts.refusal.Goals as goal

pub first_refusal-requires : goal.first_refusal-requires
first_refusal-requires c =
    subst (λ (xs : List Account). All HasSetPast xs)
    (sym (accounts-kept c.as_slice.result.now (history c.self.inside.log.value) (c.as_slice.ensures.value ∙ c.self.invariant.0.same_rows)))
    (set-of (moment (history c.self.inside.log.value)) (records (history c.self.inside.log.value)) c.self.invariant.0.fits)

pub returns : goal.returns
returns c =
    let accounts : accounts_of c.as_slice.result.now ≡ records (history c.self.inside.log.value) =
    accounts-kept c.as_slice.result.now (history c.self.inside.log.value) (c.as_slice.ensures.value ∙ c.self.invariant.0.same_rows) in
    let now : c.moment_at-now.result ≡ max c.args.reading (moment (history c.self.inside.log.value)) =
    c.moment_at-now.ensures ∙ ap (λ (l : Log). max c.args.reading (moment (history l))) (sym c.self.view_is) in
    c.in_ok-refusal.ensures
    ∙ ap (λ (xs : List Account). first_refusal xs c.args.statement.now c.args.actor c.self.inside.settings c.moment_at-now.result) accounts
    ∙ ap (λ (settings : Settings). first_refusal (records (history c.self.inside.log.value)) c.args.statement.now c.args.actor settings c.moment_at-now.result) c.self.invariant.0.same_settings
    ∙ ap (λ (n : ℕ). first_refusal (records (history c.self.inside.log.value)) c.args.statement.now c.args.actor (start_of (history c.self.inside.log.value)).settings n) now
    ∙ ap (λ (l : Log). statement_refusal (history l) c.args.statement.now c.args.actor c.args.reading) c.self.view_is
