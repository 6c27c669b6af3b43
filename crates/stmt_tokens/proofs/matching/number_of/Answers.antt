use Rattle.std.proofs.Common.{arith, ◌∙◌}
use Rattle.stmt_tokens.proofs.Numbers.{cut_digit}
use Rattle.stmt_tokens.proofs.matching.number_of.Goals as goal

pub loop-digit-preserved : goal.loop-digit-preserved
loop-digit-preserved c = record {
  bound = omega arith;
  same =
      rw c.with_digit-number.ensures
      (cut_digit c.loop-digit.number c.loop-digit.digit-index c.args.digits.now c.loop-digit-test.true ∙ c.loop-digit.invariant.same);
}
