use Rattle.std.proofs.Common.{◌≡◌, ℕ, ◌<◌, ◌≤◌, length, slice_index, bit_xor}
use Rattle.native_scramble.proofs.xor.Given as goal

-- the bytes before the place are joined, and the others are those of the left
abbrev pub invariant-loop-place : goal.invariant-loop-place
invariant-loop-place l = record {
  long : length l.joined ≡ 20;
  done : (k : ℕ) → k < l.place → slice_index l.joined k ≡ bit_xor (slice_index l.left k) (slice_index l.right k);
  rest : (k : ℕ) → l.place ≤ k → slice_index l.joined k ≡ slice_index l.left k;
}
