-- The method mysql_native_password: the answer to a nonce, its test and the stored text.
--
-- MySQL client/server protocol, Connection Phase, Authentication Methods, "Native Authentication":
-- `SHA1(password) XOR SHA1(nonce <concat> SHA1(SHA1(password)))`. The stored text is the one of the
-- MySQL 8.0 Reference Manual, "Password Hashing in MySQL". Passwords, nonces, digests and texts are
-- lists of bytes.
use Rattle.std.specs.Prelude.{◌≡◌, ℕ, nat_le, List, [], ◌∷◌, ◌++◌, length, Bool, ◌&&◌, ◌||◌, bit_xor, bytes_eq, codes}
use Rattle.std.specs.List.{AllPass}
use Rattle.sha1.specs.Sha1.{sha1}
use Rattle.hex.specs.Hex.{encode_upper}

-- two lists of bytes joined by xor, byte by byte, as far as the shorter one goes
abbrev pub xor_bytes : List ℕ → List ℕ → List ℕ
xor_bytes (x ∷ xs) (y ∷ ys) = bit_xor x y ∷ xor_bytes xs ys
xor_bytes [] ys = []
xor_bytes (x ∷ xs) [] = []

-- what the server stores of a password
abbrev pub native_stage2 : List ℕ → List ℕ
native_stage2 password = sha1 (sha1 password)

-- what hides the digest of the password on the wire
abbrev pub native_mask : List ℕ → List ℕ → List ℕ
native_mask nonce stage2 = sha1 (nonce ++ stage2)

-- the answer to a nonce
abbrev pub native_answer : List ℕ → List ℕ → List ℕ
native_answer password nonce =
    xor_bytes (sha1 password) (native_mask nonce (native_stage2 password))

-- the digest of what a response hides is what is stored
abbrev pub native_right : List ℕ → List ℕ → List ℕ → Bool
native_right stage2 nonce response =
    bytes_eq (sha1 (xor_bytes response (native_mask nonce stage2))) stage2

-- the stored text: `*` and the bytes in upper-case hexadecimal
abbrev pub native_text : List ℕ → List ℕ
native_text stage2 = codes "*" ++ encode_upper stage2

-- one of `0` to `9` and `A` to `F`
abbrev pub is_upper_hex_digit : ℕ → Bool
is_upper_hex_digit c = (nat_le 48 c && nat_le c 57) || (nat_le 65 c && nat_le c 70)

-- `*` and 40 upper-case hexadecimal digits
abbrev pub IsNativeText : List ℕ → Type 0
IsNativeText text = (digits : List ℕ)
    × (text ≡ codes "*" ++ digits) × (length digits ≡ 40) × AllPass is_upper_hex_digit digits
