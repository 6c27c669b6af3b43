-- Lists joined by xor, and that a fast answer is right for what is kept of its password.
use Rattle.std.proofs.Common.{◌≡◌, ℕ, zero, suc, ◌<◌, List, [], ◌∷◌, ◌++◌, length, get_or, refl, ap, sym, true, ◌∙◌, arith}
use Rattle.std.proofs.lemmas.Slice.Eq.{bytes_eq-Decides}
use Rattle.sha2.proofs.Facts256.{length-sha256}
use Rattle.sha2.specs.Sha256.{sha256}
use Rattle.std.specs.Int.Bits.{bit_xor, xor_assoc, xor_self, xor_zero_r}
use Rattle.caching_sha2.specs.Fast.{xor_bytes, digest_of, fast_mask, fast_answer, fast_right, IsFastRight}

pub length-xor_bytes : (xs ys : List ℕ) → length xs ≡ length ys → length (xor_bytes xs ys) ≡ length xs
length-xor_bytes [] ys same = refl
length-xor_bytes (x ∷ xs) [] same = absurd (omega arith)
length-xor_bytes (x ∷ xs) (y ∷ ys) same = ap suc (length-xor_bytes xs ys (omega arith))

pub get_or-xor_bytes : (xs ys : List ℕ) (i : ℕ) → i < length xs → i < length ys
    → get_or (xor_bytes xs ys) i 0 ≡ bit_xor (get_or xs i 0) (get_or ys i 0)
get_or-xor_bytes [] ys i in_xs in_ys = absurd (omega arith)
get_or-xor_bytes (x ∷ xs) [] i in_xs in_ys = absurd (omega arith)
get_or-xor_bytes (x ∷ xs) (y ∷ ys) zero in_xs in_ys = refl
get_or-xor_bytes (x ∷ xs) (y ∷ ys) (suc i) in_xs in_ys = get_or-xor_bytes xs ys i (omega arith) (omega arith)

-- what was xored with a list comes back by it
pub xor_bytes-twice : (xs ys : List ℕ) → length xs ≡ length ys → xor_bytes (xor_bytes xs ys) ys ≡ xs
xor_bytes-twice [] ys same = refl
xor_bytes-twice (x ∷ xs) [] same = absurd (omega arith)
xor_bytes-twice (x ∷ xs) (y ∷ ys) same =
    rw (xor_assoc x y y, xor_self y, xor_zero_r x) (ap (λ (zs : List ℕ). x ∷ zs) (xor_bytes-twice xs ys (omega arith)))

-- the answer of a password is right for its digest
pub IsFastRight-fast_answer : (password nonce : List ℕ)
    → IsFastRight (digest_of password) nonce (fast_answer password nonce)
IsFastRight-fast_answer password nonce =
    let mask : List ℕ = fast_mask (digest_of password) nonce in
    let long : length (sha256 password) ≡ length mask =
    length-sha256 password ∙ sym (length-sha256 (digest_of password ++ nonce)) in
    ap sha256 (xor_bytes-twice (sha256 password) mask long)

-- and so says the test
pub fast_right-fast_answer : (password nonce : List ℕ)
    → fast_right (digest_of password) nonce (fast_answer password nonce) ≡ true
fast_right-fast_answer password nonce =
    (bytes_eq-Decides _ _).1 (IsFastRight-fast_answer password nonce)
