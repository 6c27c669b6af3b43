use Rattle.std.proofs.Common.{◌≡◌, ◌<◌, ◌+◌, ◌-◌, ◌*◌, true, get_or, sym, ◌∙◌, arith, rules}
use Rattle.std.specs.Char.{is_ascii_digit}
use Rattle.script_text.proofs.Digits.{past}
use Rattle.script_text.proofs.words.digits_of.Goals as goal

pub returns-in_default : goal.returns-in_default
returns-in_default c =
    let digit : is_ascii_digit (get_or c.args.digits.now c.loop-digit.digit-index 0) ≡ true = search rules in
    let above : c.args.most < 10 * c.loop-digit.number + (get_or c.args.digits.now c.loop-digit.digit-index 0 - 48) = omega arith in
    sym (past c.args.most c.loop-digit.number c.loop-digit.digit-index c.args.digits.now c.loop-digit-test.true digit above)
    ∙ c.loop-digit.invariant.same

pub returns-in_default-2 : goal.returns-in_default-2
returns-in_default-2 c =
    let digit : is_ascii_digit (get_or c.args.digits.now c.loop-digit.digit-index 0) ≡ true = search rules in
    let above : c.args.most < 10 * c.loop-digit.number + (get_or c.args.digits.now c.loop-digit.digit-index 0 - 48) =
    omega (arith, c.in_default.ensures) in
    sym (past c.args.most c.loop-digit.number c.loop-digit.digit-index c.args.digits.now c.loop-digit-test.true digit above)
    ∙ c.loop-digit.invariant.same
