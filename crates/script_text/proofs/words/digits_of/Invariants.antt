use Rattle.std.proofs.Common.{◌≡◌, ◌≤◌, drop}
use Rattle.script_text.specs.Words.{digits_from, within}
use Rattle.script_text.proofs.words.digits_of.Given as goal

-- the digits that are left lead to the same number
abbrev pub invariant-loop-digit : goal.invariant-loop-digit
invariant-loop-digit l = record {
  bound : l.number ≤ l.most;
  same : within l.most (digits_from l.number (drop l.digit-index l.digits)) ≡ within l.most (digits_from 0 l.digits);
}
