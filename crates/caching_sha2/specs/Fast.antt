-- The fast answer of caching_sha2_password and its test, after the page "Caching_sha2_password
-- information" of the MySQL protocol documentation: the answer is `SHA256(p) XOR SHA256(d, nonce)`
-- with the digest `d` = `SHA256(SHA256(p))`, where a comma joins byte lists.
use Rattle.std.specs.Prelude.{◌≡◌, ℕ, Bool, List, [], ◌∷◌, ◌++◌, bit_xor}
use Rattle.std.specs.Str.{bytes_eq}
use Rattle.sha2.specs.Sha256.{sha256}

-- two lists of bytes joined by xor, byte by byte, as far as the shorter one goes
abbrev pub xor_bytes : List ℕ → List ℕ → List ℕ
xor_bytes [] ys = []
xor_bytes (x ∷ xs) [] = []
xor_bytes (x ∷ xs) (y ∷ ys) = bit_xor x y ∷ xor_bytes xs ys

-- what a server keeps of a password to test its answers by
abbrev pub digest_of : List ℕ → List ℕ
digest_of password = sha256 (sha256 password)

-- what hides the password's hash on the wire
abbrev pub fast_mask : List ℕ → List ℕ → List ℕ
fast_mask digest nonce = sha256 (digest ++ nonce)

-- a client's answer to a nonce
abbrev pub fast_answer : List ℕ → List ℕ → List ℕ
fast_answer password nonce = xor_bytes (sha256 password) (fast_mask (digest_of password) nonce)

-- the hash of what a response hides is the digest
abbrev pub IsFastRight : List ℕ → List ℕ → List ℕ → Type 0
IsFastRight digest nonce response = sha256 (xor_bytes response (fast_mask digest nonce)) ≡ digest

-- the same as a test
abbrev pub fast_right : List ℕ → List ℕ → List ℕ → Bool
fast_right digest nonce response =
    bytes_eq (sha256 (xor_bytes response (fast_mask digest nonce))) digest
