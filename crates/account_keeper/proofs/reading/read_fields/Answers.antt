use Rattle.std.proofs.Common.{◌≡◌, sym, ◌∙◌}
use Rattle.account_keeper.specs.Record.{FitsRecord, record_text}
use Rattle.account_keeper.specs.Records.{HasNoIds}
use Rattle.account_keeper.proofs.Parts.{record_parts, refused}
use Rattle.account_keeper.proofs.Whole.{account_of, same_account}
use Rattle.account_keeper.proofs.reading.read_fields.Goals as goal

pub returns-in_err-head-clause-finds : goal.returns-in_err-head-clause-finds
returns-in_err-head-clause-finds c =
    refused (λ x v. x ≡ v) record_text (λ a. FitsRecord a × HasNoIds c.args.key a) _ _ _ _ c.from_residual.ensures.1
    (λ a more fits is.
    c.in_err-head.ensures a _ fits.0 (is ∙ record_parts a more))

pub returns-in_err-passwords-clause-finds : goal.returns-in_err-passwords-clause-finds
returns-in_err-passwords-clause-finds c =
    refused (λ x v. x ≡ v) record_text (λ a. FitsRecord a × HasNoIds c.args.key a) _ _ _ _ c.from_residual-in_err-passwords.ensures.1
    (λ a more fits is.
    let one = c.in_ok-head.ensures a _ fits.0 (is ∙ record_parts a more) in
    c.in_err-passwords.ensures.finds a _ (fits.0, fits.1.secondary_id) one.1)

pub returns-in_err-labels-clause-finds : goal.returns-in_err-labels-clause-finds
returns-in_err-labels-clause-finds c =
    refused (λ x v. x ≡ v) record_text (λ a. FitsRecord a × HasNoIds c.args.key a) _ _ _ _ c.from_residual-in_err-labels.ensures.1
    (λ a more fits is.
    let one = c.in_ok-head.ensures a _ fits.0 (is ∙ record_parts a more) in
    let two = c.in_ok-passwords.ensures.finds a _ (fits.0, fits.1.secondary_id) one.1 in
    c.in_err-labels.ensures a.labels _ fits.0.labels two.1)

pub returns-in_err-terms-clause-finds : goal.returns-in_err-terms-clause-finds
returns-in_err-terms-clause-finds c =
    refused (λ x v. x ≡ v) record_text (λ a. FitsRecord a × HasNoIds c.args.key a) _ _ _ _ c.from_residual-in_err-terms.ensures.1
    (λ a more fits is.
    let one = c.in_ok-head.ensures a _ fits.0 (is ∙ record_parts a more) in
    let two = c.in_ok-passwords.ensures.finds a _ (fits.0, fits.1.secondary_id) one.1 in
    let three = c.in_ok-labels.ensures a.labels _ fits.0.labels two.1 in
    c.in_err-terms.ensures a _ fits.0 three.1)

pub returns-in_err-guard-clause-finds : goal.returns-in_err-guard-clause-finds
returns-in_err-guard-clause-finds c =
    refused (λ x v. x ≡ v) record_text (λ a. FitsRecord a × HasNoIds c.args.key a) _ _ _ _ c.from_residual-in_err-guard.ensures.1
    (λ a more fits is.
    let one = c.in_ok-head.ensures a _ fits.0 (is ∙ record_parts a more) in
    let two = c.in_ok-passwords.ensures.finds a _ (fits.0, fits.1.secondary_id) one.1 in
    let three = c.in_ok-labels.ensures a.labels _ fits.0.labels two.1 in
    let four = c.in_ok-terms.ensures a _ fits.0 three.1 in
    c.in_err-guard.ensures a _ fits.0 four.1)

pub returns-in_err-past-clause-finds : goal.returns-in_err-past-clause-finds
returns-in_err-past-clause-finds c =
    refused (λ x v. x ≡ v) record_text (λ a. FitsRecord a × HasNoIds c.args.key a) _ _ _ _ c.from_residual-in_err-past.ensures.1
    (λ a more fits is.
    let one = c.in_ok-head.ensures a _ fits.0 (is ∙ record_parts a more) in
    let two = c.in_ok-passwords.ensures.finds a _ (fits.0, fits.1.secondary_id) one.1 in
    let three = c.in_ok-labels.ensures a.labels _ fits.0.labels two.1 in
    let four = c.in_ok-terms.ensures a _ fits.0 three.1 in
    let five = c.in_ok-guard.ensures a _ fits.0 four.1 in
    c.in_err-past.ensures a.past _ fits.0.past five.1)

pub returns-clause-finds : goal.returns-clause-finds
returns-clause-finds c = λ a more fits is.
    let one = c.in_ok-head.ensures a _ fits.0 (is ∙ record_parts a more) in
    let two = c.in_ok-passwords.ensures.finds a _ (fits.0, fits.1.secondary_id) one.1 in
    let three = c.in_ok-labels.ensures a.labels _ fits.0.labels two.1 in
    let four = c.in_ok-terms.ensures a _ fits.0 three.1 in
    let five = c.in_ok-guard.ensures a _ fits.0 four.1 in
    let six = c.in_ok-past.ensures a.past _ fits.0.past five.1 in
    let read = account_of c.args.key c.in_ok-head.head.name c.in_ok-head.head.method c.in_ok-passwords.passwords.0 0 c.in_ok-passwords.passwords.1 c.in_ok-labels.labels c.in_ok-terms.terms.changed c.in_ok-terms.terms.expired c.in_ok-terms.terms.lifetime c.in_ok-terms.terms.history c.in_ok-terms.terms.reuse c.in_ok-guard.guard.lock c.in_ok-guard.guard.locked c.in_ok-guard.guard.privileges.0 c.in_ok-guard.guard.privileges.1 c.in_ok-past.past in (
      same_account read a (sym fits.1.id) one.0.0 one.0.1 two.0.0 (sym fits.1.primary_id) two.0.1 three.0 four.0.0 four.0.1 four.0.2 four.0.3 four.0.4
          five.0.0 five.0.1 five.0.2 five.0.3 six.0,
      six.1,
    )
