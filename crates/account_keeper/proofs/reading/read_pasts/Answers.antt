use Rattle.std.proofs.Common.{◌≡◌, length, sym, ◌∙◌, arith}
use Rattle.std.specs.List.{All, flat_map}
use Rattle.account_keeper.specs.Record.{PastFits, PastsFit, past_text, pasts_text}
use Rattle.account_keeper.proofs.Parts.{pasts_parts, passed_on, refused}
use Rattle.account_keeper.proofs.reading.read_pasts.Goals as goal

pub returns-in_err-count : goal.returns-in_err-count
returns-in_err-count c =
    refused (λ x v. x ≡ v) pasts_text PastsFit _ _ _ _ c.from_residual.ensures.1
    (λ v more fits at. c.in_err-count.ensures (length v) _ (omega (arith, fits.0)) (at ∙ pasts_parts v more))

pub returns : goal.returns
returns c =
    passed_on (λ x v. x ≡ v) pasts_text (flat_map past_text) PastsFit (λ v. (length v ≡ c.in_ok-count.count) × All PastFits v) _ _ _ _
    (λ v more fits at.
    let one = c.in_ok-count.ensures (length v) _ (omega (arith, fits.0)) (at ∙ pasts_parts v more) in
    ((sym one.0, fits.1), one.1))
    c.read_each_past.ensures
