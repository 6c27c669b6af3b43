use Rattle.std.proofs.Common.{◌≡◌, ℕ, ◌+◌, ◌*◌, ◌/◌, ◌%◌, refl, arith}
use Rattle.caching_sha2.proofs.stored.read_thousands.Goals as goal

pub returns-else-number-eq0-clause-read : goal.returns-else-number-eq0-clause-read
returns-else-number-eq0-clause-read c =
    let high = c.in_ok-hex_value.field-0 in
    let middle = c.in_ok-hex_value-2.field-0 in
    let low = c.in_ok-number.field-0 in
    let (below_high, is_high) = c.in_ok-hex_value.ensures.read in
    let (below_middle, is_middle) = c.in_ok-hex_value-2.ensures.read in
    let (below_low, is_low) = c.in_ok-number.ensures.read in
    let n : ℕ = high * 256 + middle * 16 + low in
    let first : n / 256 ≡ high = omega arith in
    let second : n / 16 % 16 ≡ middle = omega arith in
    let third : n % 16 ≡ low = omega arith in
    (omega arith, omega arith, rw (first, second, third, is_high, is_middle, is_low) refl)
