use Rattle.std.proofs.Common.{◌≡◌, ◌++◌, take, flat_map}
use Rattle.stmt_syntax.specs.Printing.{and_factor_text}
use Rattle.stmt_syntax.proofs.printing.put_factors.Given as goal

abbrev pub invariant-loop-factor : goal.invariant-loop-factor
invariant-loop-factor l = l.out ≡ l.fn.out ++ flat_map and_factor_text (take l.factor-index l.factors)
