use Rattle.std.proofs.Common.{◌∙◌, arith}
use Rattle.account_keeper.specs.Finding.{AreTerms}
use Rattle.account_keeper.specs.Record.{FitsRecord, terms_text}
use Rattle.account_keeper.proofs.Parts.{limit_wider, refused, terms_parts}
use Rattle.account_keeper.proofs.reading.read_terms.Goals as goal

pub returns-in_err-changed : goal.returns-in_err-changed
returns-in_err-changed c =
    refused AreTerms terms_text FitsRecord _ _ _ _ c.from_residual.ensures.1
    (λ a more fits is. c.in_err-changed.ensures a.changed _ fits.changed (is ∙ terms_parts a more))

pub returns-in_err-expired : goal.returns-in_err-expired
returns-in_err-expired c =
    refused AreTerms terms_text FitsRecord _ _ _ _ c.from_residual-in_err-expired.ensures.1
    (λ a more fits is.
    let one = c.in_ok-changed.ensures a.changed _ fits.changed (is ∙ terms_parts a more) in
    c.in_err-expired.ensures a.expired _ tt one.1)

pub returns-in_err-lifetime : goal.returns-in_err-lifetime
returns-in_err-lifetime c =
    refused AreTerms terms_text FitsRecord _ _ _ _ c.from_residual-in_err-lifetime.ensures.1
    (λ a more fits is.
    let one = c.in_ok-changed.ensures a.changed _ fits.changed (is ∙ terms_parts a more) in
    let two = c.in_ok-expired.ensures a.expired _ tt one.1 in
    c.in_err-lifetime.ensures a.lifetime _ fits.lifetime two.1)

pub returns-in_err-history : goal.returns-in_err-history
returns-in_err-history c =
    refused AreTerms terms_text FitsRecord _ _ _ _ c.from_residual-in_err-history.ensures.1
    (λ a more fits is.
    let one = c.in_ok-changed.ensures a.changed _ fits.changed (is ∙ terms_parts a more) in
    let two = c.in_ok-expired.ensures a.expired _ tt one.1 in
    let three = c.in_ok-lifetime.ensures a.lifetime _ fits.lifetime two.1 in
    c.in_err-history.ensures a.history _ (limit_wider a.history 256 65535 (omega arith) fits.history) three.1)

pub returns-in_err-reuse : goal.returns-in_err-reuse
returns-in_err-reuse c =
    refused AreTerms terms_text FitsRecord _ _ _ _ c.from_residual-in_err-reuse.ensures.1
    (λ a more fits is.
    let one = c.in_ok-changed.ensures a.changed _ fits.changed (is ∙ terms_parts a more) in
    let two = c.in_ok-expired.ensures a.expired _ tt one.1 in
    let three = c.in_ok-lifetime.ensures a.lifetime _ fits.lifetime two.1 in
    let four = c.in_ok-history.ensures a.history _ (limit_wider a.history 256 65535 (omega arith) fits.history) three.1 in
    c.in_err-reuse.ensures a.reuse _ fits.reuse four.1)

pub returns : goal.returns
returns c = λ a more fits is.
    let one = c.in_ok-changed.ensures a.changed _ fits.changed (is ∙ terms_parts a more) in
    let two = c.in_ok-expired.ensures a.expired _ tt one.1 in
    let three = c.in_ok-lifetime.ensures a.lifetime _ fits.lifetime two.1 in
    let four = c.in_ok-history.ensures a.history _ (limit_wider a.history 256 65535 (omega arith) fits.history) three.1 in
    let five = c.in_ok-reuse.ensures a.reuse _ fits.reuse four.1 in
    ((one.0, two.0, three.0, four.0, five.0), five.1)
