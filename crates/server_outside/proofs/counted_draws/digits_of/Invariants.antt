use Rattle.std.proofs.Common.{◌≡◌, ◌≤◌, ◌++◌, drop, length}
use Rattle.server_outside.specs.Numbered.{digits}
use Rattle.server_outside.proofs.counted_draws.digits_of.Given as goal

-- the digits that are left, and those that stand there, are all
abbrev pub invariant-digits : goal.invariant-digits
invariant-digits l = record {
  within : l.place ≤ 20;
  long : length l.text ≡ 20;
  all : digits l.place l.rest ++ drop l.place l.text ≡ digits 20 l.fn.number;
}

abbrev pub decreases-digits : goal.decreases-digits
decreases-digits l = l.place
