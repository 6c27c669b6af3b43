use Rattle.std.proofs.Common.{◌≡◌, ◌≢◌, ℕ, zero, suc, ◌-◌, ◌/◌, ◌%◌, ◌≤◌, ◌<◌, List, [], ◌++◌, refl, append-nil, append_assoc, arith, false, sub-one}
use Rattle.std.specs.Prelude.{◌==◌}
use Rattle.std.proofs.lemmas.Bool.Decides.{nat_tests}
use Rattle.sha256_crypt.specs.Crypt.{by_halving}
use Rattle.sha256_crypt.proofs.digests.add_by_halving.Goals as goal
use Rattle.sha256_crypt.proofs.digests.add_by_halving.Goals.{then-rest-eq1, else-rest-eq1}

-- nothing is added for 0
by_halving-zero : (count : ℕ) (odd even : List ℕ) → by_halving count odd even 0 ≡ []
unfolding by_halving
by_halving-zero zero odd even = refl
by_halving-zero (suc count) odd even = refl

-- the first list added for an odd number
by_halving-odd : (count : ℕ) (odd even : List ℕ) (k : ℕ) → 0 < k → k ≤ count → k % 2 ≡ 1
    → by_halving count odd even k ≡ odd ++ by_halving (count - 1) odd even (k / 2)
unfolding by_halving
by_halving-odd zero odd even k some enough is_odd = absurd (omega arith)
by_halving-odd (suc count) odd even k some enough is_odd =
    let other : (k == 0) ≡ false = grind (arith, nat_tests) in
    rw (other, is_odd, sub-one) refl

-- and for an even one
by_halving-even : (count : ℕ) (odd even : List ℕ) (k : ℕ) → 0 < k → k ≤ count → k % 2 ≢ 1
    → by_halving count odd even k ≡ even ++ by_halving (count - 1) odd even (k / 2)
unfolding by_halving
by_halving-even zero odd even k some enough is_even = absurd (omega arith)
by_halving-even (suc count) odd even k some enough is_even =
    let other : (k == 0) ≡ false = grind (arith, nat_tests) in
    let even' : k % 2 ≡ 0 = omega arith in
    rw (other, even', sub-one) refl

pub loop-rest-init : goal.loop-rest-init
loop-rest-init c = λ m held. ([], c.args.number, omega arith, rw (append-nil m) held, refl)

pub loop-rest-preserved : goal.loop-rest-preserved
loop-rest-preserved c = λ m held.
    let (fed, count, bound, holds, same) = c.loop-rest.invariant m held in
    let half : c.loop-rest.rest / 2 ≤ count - 1 = omega arith in
    elim c.if-rest-eq1.branch [
      | then-rest-eq1 w ↦ (
        fed ++ c.args.odd.now,
        count - 1,
        half,
        rw (w.update-is, append_assoc) at (c.update.ensures (m ++ fed) holds),
        rw (append_assoc, ← by_halving-odd count c.args.odd.now c.args.even.now c.loop-rest.rest c.loop-rest-test.true bound w.if-rest-eq1.true) same,
      )
      | else-rest-eq1 w ↦ (
        fed ++ c.args.even.now,
        count - 1,
        half,
        rw (w.update-is, append_assoc) at (c.update.ensures (m ++ fed) holds),
        rw (append_assoc, ← by_halving-even count c.args.odd.now c.args.even.now c.loop-rest.rest c.loop-rest-test.true bound w.if-rest-eq1.false) same,
      )
    ]

pub returns : goal.returns
returns c = λ m held.
    let (fed, count, bound, holds, same) = c.loop-rest.invariant m held in
    let done : c.loop-rest.rest ≡ 0 = omega arith in
    let same' = rw (done, by_halving-zero count c.args.odd.now c.args.even.now, append-nil fed) at same in
    rw (← same') holds
