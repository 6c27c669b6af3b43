use Rattle.std.proofs.Common.{◌≡◌, ◌<◌, min, drop}
use Rattle.stmt_tokens.specs.Patterns.{digits_from}
use Rattle.stmt_tokens.proofs.matching.number_of.Given as goal

-- the digits that are left lead to the same number
abbrev pub invariant-loop-digit : goal.invariant-loop-digit
invariant-loop-digit l = record {
  bound : l.number < 4294967296;
  same : min (digits_from l.number (drop l.digit-index l.digits)) 4294967295 ≡ min (digits_from 0 l.digits) 4294967295;
}
