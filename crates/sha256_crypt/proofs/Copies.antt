-- Copies of a list, and the first bytes of a digest repeated.
use Rattle.std.proofs.Common.{◌≡◌, ℕ, zero, suc, ◌+◌, ◌*◌, ◌/◌, ◌%◌, ◌-◌, ◌<◌, ◌≤◌, List, [], ◌++◌, length, take, get_or, refl, sym, ◌∙◌, ap, arith, add-one, length-append, ⊎_elim}
use Rattle.std.proofs.lemmas.List.{ext_get_or, get_or-take, get_or_append_left, get_or-append_right, length-take-le}
use Rattle.std.proofs.lemmas.Bool.{cases_lt}
use Rattle.sha256_crypt.specs.Crypt.{copies}

pub copies-zero : (xs : List ℕ) → copies 0 xs ≡ []
unfolding copies
copies-zero xs = refl

-- one copy more
pub copies-more : (n : ℕ) (xs : List ℕ) → copies (n + 1) xs ≡ copies n xs ++ xs
unfolding copies
copies-more n xs = rw add-one refl

pub copies-suc : (n : ℕ) (xs : List ℕ) → copies (suc n) xs ≡ copies n xs ++ xs
unfolding copies
copies-suc n xs = refl

-- n copies of a digest
pub length-copies : (n : ℕ) (digest : List ℕ) → length digest ≡ 32 → length (copies n digest) ≡ n * 32
length-copies zero digest wide = rw (copies-zero digest) refl
length-copies (suc n) digest wide =
    omega (arith, ap length (copies-suc n digest), length-append (copies n digest) digest, length-copies n digest wide)

-- a byte of a digest repeated
pub get_or-copies : (n : ℕ) (digest : List ℕ) (i : ℕ) → length digest ≡ 32 → i < n * 32
    → get_or (copies n digest) i 0 ≡ get_or digest (i % 32) 0
get_or-copies zero digest i wide below = absurd (omega arith)
get_or-copies (suc n) digest i wide below =
    let long = length-copies n digest wide in
    rw (copies-suc n digest)
    (⊎_elim
    (λ (inside : i < n * 32).
    let inside' : i < length (copies n digest) = omega arith in
    get_or_append_left (copies n digest) digest 0 i inside' ∙ get_or-copies n digest i wide inside)
    (λ (past : n * 32 ≤ i).
    let place : i % 32 ≡ i - n * 32 = omega arith in
    get_or-append_right (copies n digest) digest (n * 32) i 0 long past ∙ ap (λ k. get_or digest k 0) (sym place))
    (cases_lt i (n * 32)))

-- a digest repeated is whole digests and the beginning of one
pub take-copies : (n : ℕ) (digest : List ℕ) → length digest ≡ 32
    → take n (copies n digest) ≡ copies (n / 32) digest ++ take (n % 32) digest
take-copies n digest wide =
    let q : ℕ = n / 32 in
    let r : ℕ = n % 32 in
    let enough : n ≤ length (copies n digest) = omega (arith, length-copies n digest wide) in
    let short : r ≤ length digest = omega arith in
    let left_long : length (take n (copies n digest)) ≡ n = length-take-le n (copies n digest) enough in
    let whole_long : length (copies q digest) ≡ q * 32 = length-copies q digest wide in
    let right_long : length (copies q digest ++ take r digest) ≡ n =
    omega (arith, length-append (copies q digest) (take r digest), length-take-le r digest short) in
    ext_get_or 0 (take n (copies n digest)) (copies q digest ++ take r digest) (left_long ∙ sym right_long)
    (λ i below.
    let within : i < n = omega arith in
    let left : get_or (take n (copies n digest)) i 0 ≡ get_or digest (i % 32) 0 =
    get_or-take n (copies n digest) i 0 within ∙ get_or-copies n digest i wide (omega arith) in
    left ∙ sym (⊎_elim
    (λ (inside : i < q * 32).
    let inside' : i < length (copies q digest) = omega arith in
    get_or_append_left (copies q digest) (take r digest) 0 i inside' ∙ get_or-copies q digest i wide inside)
    (λ (past : q * 32 ≤ i).
    let place : i % 32 ≡ i - q * 32 = omega arith in
    get_or-append_right (copies q digest) (take r digest) (q * 32) i 0 whole_long past
    ∙ get_or-take r digest (i - q * 32) 0 (omega arith)
    ∙ ap (λ k. get_or digest k 0) (sym place))
    (cases_lt i (q * 32))))
