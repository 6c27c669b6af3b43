use Rattle.std.proofs.Common.{◌≡◌, length, sym, ◌∙◌}
use Rattle.std.specs.List.{All, flat_map}
use Rattle.account_keeper.specs.Record.{LabelFits, LabelsFit, counted_text, labels_text}
use Rattle.account_keeper.proofs.Parts.{labels_parts, passed_on, refused}
use Rattle.account_keeper.proofs.reading.read_labels.Goals as goal

pub returns-in_err-count : goal.returns-in_err-count
returns-in_err-count c =
    refused (λ x v. x ≡ v) labels_text LabelsFit _ _ _ _ c.from_residual.ensures.1
    (λ v more fits at. c.in_err-count.ensures (length v) _ tt (at ∙ labels_parts v more))

pub returns : goal.returns
returns c =
    passed_on (λ x v. x ≡ v) labels_text (flat_map counted_text) LabelsFit (λ v. (length v ≡ c.in_ok-count.count) × All LabelFits v) _ _ _ _
    (λ v more fits at.
    let one = c.in_ok-count.ensures (length v) _ tt (at ∙ labels_parts v more) in
    ((sym one.0, fits.1), one.1))
    c.read_each_label.ensures
