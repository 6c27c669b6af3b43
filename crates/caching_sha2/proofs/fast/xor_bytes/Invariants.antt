use Rattle.std.proofs.Common.{◌≡◌, take, length}
use Rattle.caching_sha2.specs.Fast.{xor_bytes}
use Rattle.caching_sha2.proofs.fast.xor_bytes.Given as goal

abbrev pub invariant-loop-i : goal.invariant-loop-i
invariant-loop-i l = record {
  filled : take l.i l.both ≡ take l.i (xor_bytes l.left l.right);
  length_kept : length l.both ≡ 32;
}
