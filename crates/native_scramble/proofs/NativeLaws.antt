-- An answer is right for what is stored of its password.
use Rattle.std.proofs.Common.{◌≡◌, ℕ, zero, suc, ◌<◌, true, List, [], ◌∷◌, length, slice_index, bit_xor, refl, sym, ap, ◌∙◌, arith}
use Rattle.std.specs.Int.Bits.{xor_assoc, xor_self, xor_zero_r}
use Rattle.std.proofs.lemmas.Slice.Eq.{bytes_eq-Decides}
use Rattle.sha1.specs.Sha1.{sha1, digest_bytes}
use Rattle.native_scramble.specs.Native.{native_answer, native_mask, native_right, native_stage2, xor_bytes}

-- a digest has 20 bytes
pub length-sha1 : (m : List ℕ) → length (sha1 m) ≡ 20
unfolding sha1 digest_bytes
length-sha1 m = refl

-- joining the same bytes twice changes nothing
pub xor_bytes-twice : (xs ys : List ℕ) → length xs ≡ length ys → xor_bytes (xor_bytes xs ys) ys ≡ xs
xor_bytes-twice [] [] h = refl
xor_bytes-twice [] (y ∷ ys) h = refl
xor_bytes-twice (x ∷ xs) [] h = absurd (omega arith)
xor_bytes-twice (x ∷ xs) (y ∷ ys) h =
    let head : bit_xor (bit_xor x y) y ≡ x = xor_assoc x y y ∙ ap (bit_xor x) (xor_self y) ∙ xor_zero_r x in
    let tail : xor_bytes (xor_bytes xs ys) ys ≡ xs = xor_bytes-twice xs ys (omega arith) in
    cc (head, tail)

-- the answer of a password is right for what is stored of it
pub native_right-native_answer : (password nonce : List ℕ)
    → native_right (native_stage2 password) nonce (native_answer password nonce) ≡ true
native_right-native_answer password nonce =
    let same : length (sha1 password) ≡ length (native_mask nonce (native_stage2 password)) = length-sha1 password ∙ sym (length-sha1 _) in
    let shown = xor_bytes-twice (sha1 password) (native_mask nonce (native_stage2 password)) same in
    (bytes_eq-Decides _ _).1 (ap sha1 shown)

-- the length of the longer list that both have
pub length-xor_bytes : (xs ys : List ℕ) → length xs ≡ length ys → length (xor_bytes xs ys) ≡ length xs
length-xor_bytes [] ys h = refl
length-xor_bytes (x ∷ xs) [] h = absurd (omega arith)
length-xor_bytes (x ∷ xs) (y ∷ ys) h = let tail = length-xor_bytes xs ys (omega arith) in omega arith

-- a byte of the joined list
pub slice_index-xor_bytes : (xs ys : List ℕ) (k : ℕ) → length xs ≡ length ys → k < length xs
    → slice_index (xor_bytes xs ys) k ≡ bit_xor (slice_index xs k) (slice_index ys k)
slice_index-xor_bytes [] ys k h below = absurd (omega arith)
slice_index-xor_bytes (x ∷ xs) [] k h below = absurd (omega arith)
slice_index-xor_bytes (x ∷ xs) (y ∷ ys) zero h below = refl
slice_index-xor_bytes (x ∷ xs) (y ∷ ys) (suc k) h below = slice_index-xor_bytes xs ys k (omega arith) (omega arith)
