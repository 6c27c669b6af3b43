use Rattle.std.proofs.Common.{◌≡◌, length}
use Rattle.pass_policy.specs.Parts.{has_part}
use Rattle.pass_policy.proofs.parts.has_part.Given as goal

-- what is left has the word exactly where the text has it
abbrev pub invariant-loop-behind : goal.invariant-loop-behind
invariant-loop-behind l = has_part l.word l.tail ≡ has_part l.word l.fn.text

abbrev pub decreases-loop-behind : goal.decreases-loop-behind
decreases-loop-behind l = length l.tail
