use Rattle.std.proofs.Common.{◌≡◌, take, length}
use Rattle.sha256_crypt.specs.Crypt.{copies}
use Rattle.sha256_crypt.proofs.digests.stretched.Given as goal

abbrev pub invariant-loop-i : goal.invariant-loop-i
invariant-loop-i g l = record {
  filled : take l.i l.bytes ≡ take l.i (copies l.size l.digest);
  length_kept : length l.bytes ≡ length l.initial.bytes;
}
