use Rattle.std.proofs.Common.{◌≡◌, length, arith}
use Rattle.std.specs.List.{All, flat_map}
use Rattle.account_keeper.specs.Record.{PastFits, past_text}
use Rattle.account_keeper.proofs.Each.{at_first, at_last, at_next, not_next}
use Rattle.account_keeper.proofs.Parts.{refused}
use Rattle.account_keeper.proofs.reading.read_each_past.Goals as goal

pub loop-init : goal.loop-init
loop-init c = at_first past_text PastFits c.args.count c.args.reader.now.rest c.new-pasts.result c.new-pasts.ensures

pub returns-in_err-past : goal.returns-in_err-past
returns-in_err-past c =
    refused (λ x v. x ≡ v) (flat_map past_text) (λ v. (length v ≡ c.args.count) × All PastFits v) _ _ _ _ c.from_residual.ensures.1
    (not_next past_text PastFits c.args.count c.args.reader.now.rest c.loop.pasts _ _ c.loop.counter c.loop.invariant c.loop-test.true
    c.in_err-past.ensures)

pub loop-preserved : goal.loop-preserved
loop-preserved c =
    at_next past_text PastFits c.args.count c.args.reader.now.rest c.loop.pasts _ c.in_ok-past.past _ _ c.loop.counter c.loop.invariant c.loop-test.true
    c.in_ok-past.ensures c.in_ok-push.ensures.ok

pub returns : goal.returns
returns c =
    at_last past_text PastFits c.args.count c.args.reader.now.rest c.loop.pasts _ c.loop.counter c.loop.invariant
    (omega (arith, c.loop-test.false, c.loop.auto.counter-end))
