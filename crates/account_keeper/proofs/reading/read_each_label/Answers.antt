use Rattle.std.proofs.Common.{◌≡◌, length, arith}
use Rattle.std.specs.List.{All, flat_map}
use Rattle.account_keeper.specs.Record.{LabelFits, counted_text}
use Rattle.account_keeper.proofs.Each.{at_first, at_last, at_next, not_next}
use Rattle.account_keeper.proofs.Parts.{refused}
use Rattle.account_keeper.proofs.reading.read_each_label.Goals as goal

pub loop-init : goal.loop-init
loop-init c = at_first counted_text LabelFits c.args.count c.args.reader.now.rest c.new-labels.result c.new-labels.ensures

pub returns-in_err-label : goal.returns-in_err-label
returns-in_err-label c =
    refused (λ x v. x ≡ v) (flat_map counted_text) (λ v. (length v ≡ c.args.count) × All LabelFits v) _ _ _ _ c.from_residual.ensures.1
    (not_next counted_text LabelFits c.args.count c.args.reader.now.rest c.loop.labels _ _ c.loop.counter c.loop.invariant c.loop-test.true
    (λ w m fits at. c.in_err-label.ensures w m tt at))

pub loop-preserved : goal.loop-preserved
loop-preserved c =
    at_next counted_text LabelFits c.args.count c.args.reader.now.rest c.loop.labels _ c.in_ok-label.label _ _ c.loop.counter c.loop.invariant c.loop-test.true
    (λ w m fits at. c.in_ok-label.ensures w m tt at) c.in_ok-push.ensures.ok

pub returns : goal.returns
returns c =
    at_last counted_text LabelFits c.args.count c.args.reader.now.rest c.loop.labels _ c.loop.counter c.loop.invariant
    (omega (arith, c.loop-test.false, c.loop.auto.counter-end))
