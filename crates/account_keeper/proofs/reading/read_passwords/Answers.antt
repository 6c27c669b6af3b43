use Rattle.std.proofs.Common.{◌∙◌}
use Rattle.account_keeper.specs.Finding.{ArePasswords, FitsUnnumbered}
use Rattle.account_keeper.specs.Record.{passwords_text}
use Rattle.account_keeper.proofs.Parts.{passwords_parts, refused, second_fits}
use Rattle.account_keeper.proofs.reading.read_passwords.Goals as goal

pub returns-in_err-primary-clause-finds : goal.returns-in_err-primary-clause-finds
returns-in_err-primary-clause-finds c =
    refused ArePasswords passwords_text FitsUnnumbered _ _ _ _ c.from_residual.ensures.1
    (λ a more fits is. c.in_err-primary.ensures a.primary _ fits.0.primary.1 (is ∙ passwords_parts a more))

pub returns-in_err-secondary-clause-finds : goal.returns-in_err-secondary-clause-finds
returns-in_err-secondary-clause-finds c =
    refused ArePasswords passwords_text FitsUnnumbered _ _ _ _ c.from_residual-in_err-secondary.ensures.1
    (λ a more fits is.
    let one = c.in_ok-primary.ensures a.primary _ fits.0.primary.1 (is ∙ passwords_parts a more) in
    c.in_err-secondary.ensures.finds a.secondary _ (second_fits a.method a.primary a.secondary fits.0.secondary fits.1) one.1)

pub returns-clause-finds : goal.returns-clause-finds
returns-clause-finds c = λ a more fits is.
    let one = c.in_ok-primary.ensures a.primary _ fits.0.primary.1 (is ∙ passwords_parts a more) in
    let two = c.in_ok-secondary.ensures.finds a.secondary _ (second_fits a.method a.primary a.secondary fits.0.secondary fits.1) one.1 in
    ((one.0, two.0), two.1)
