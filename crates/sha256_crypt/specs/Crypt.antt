-- SHA-256 crypt as a function on whole lists of bytes, after Ulrich Drepper's public text "Unix crypt
-- using SHA-256 and SHA-512", whose steps the numbers name. Unlike there, the salt isn't cut to 16
-- bytes.
use Rattle.std.specs.Prelude.{ℕ, zero, suc, ◌+◌, ◌*◌, ◌/◌, ◌%◌, ◌==◌, if◌then◌else◌, List, [], ◌∷◌, ◌++◌, length, take, slice_index}
use Rattle.sha2.specs.Sha256.{sha256}
use Rattle.sha256_crypt.specs.Alphabet.{alphabet}

-- n copies of xs, joined
unfoldable pub copies : ℕ → List ℕ → List ℕ
copies zero xs = []
copies (suc n) xs = copies n xs ++ xs

-- the first n bytes of xs repeated, where xs has a byte (9 and 10, 16, 20)
abbrev pub stretched : ℕ → List ℕ → List ℕ
stretched n xs = take n (copies n xs)

-- while k is above 0, `odd` where k is odd and `even` where k is even, k being halved each time with
-- the remainder dropped; at most `count` times, and no number k is halved more than k times (11)
unfoldable pub by_halving : ℕ → List ℕ → List ℕ → ℕ → List ℕ
by_halving zero odd even k = []
by_halving (suc count) odd even k =
    if k == 0 then [] else ((if k % 2 == 1 then odd else even) ++ by_halving count odd even (k / 2))

-- the digest B of a password and a salt (4 to 8)
abbrev pub mixed_digest : List ℕ → List ℕ → List ℕ
mixed_digest password salt = sha256 (password ++ salt ++ password)

-- the digest A, from the digest B (1 to 3, 9 to 12)
abbrev pub start_digest : List ℕ → List ℕ → List ℕ → List ℕ
start_digest password salt mixed =
    let p : ℕ = length password in
    sha256 (password ++ salt ++ stretched p mixed ++ by_halving p mixed password p)

-- the byte sequence P: as many bytes as the password has, of its digest DP repeated (13 to 16)
abbrev pub password_sequence : List ℕ → List ℕ
password_sequence password =
    stretched (length password) (sha256 (copies (length password) password))

-- the byte sequence S: as many bytes as the salt has, of its digest DS repeated (17 to 20)
abbrev pub salt_sequence : List ℕ → List ℕ → List ℕ
salt_sequence salt start =
    stretched (length salt) (sha256 (copies (16 + slice_index start 0) salt))

-- what round i hashes, from the digest c before it (21 b to g)
abbrev pub round_message : ℕ → List ℕ → List ℕ → List ℕ → List ℕ
round_message i c p s =
    (if i % 2 == 1 then p else c)
    ++ (if i % 3 == 0 then [] else s)
    ++ (if i % 7 == 0 then [] else p)
    ++ (if i % 2 == 1 then c else p)

-- the digest after the first n rounds, the first of which is number 0 (21)
unfoldable pub after_rounds : List ℕ → List ℕ → List ℕ → ℕ → List ℕ
after_rounds start p s zero = start
after_rounds start p s (suc i) = sha256 (round_message i (after_rounds start p s i) p s)

-- the lowest n digits of a number in base 64, lowest first, each as its character
abbrev pub characters : ℕ → ℕ → List ℕ
characters zero number = []
characters (suc n) number = slice_index alphabet (number % 64) ∷ characters n (number / 64)

-- three bytes of the digest, the highest first, as four characters
abbrev pub group : List ℕ → ℕ → ℕ → ℕ → List ℕ
group c x y z =
    characters 4 (slice_index c x * 65536 + slice_index c y * 256 + slice_index c z)

-- the text of the last digest (22 e)
unfoldable pub encoded : List ℕ → List ℕ
encoded c =
    group c 0 10 20 ++ group c 21 1 11 ++ group c 12 22 2 ++ group c 3 13 23 ++ group c 24 4 14
    ++ group c 15 25 5 ++ group c 6 16 26 ++ group c 27 7 17 ++ group c 18 28 8 ++ group c 9 19 29
    ++ characters 3 (slice_index c 31 * 256 + slice_index c 30)

-- the sum of a password under a salt, in so many rounds
unfoldable pub crypt_of : List ℕ → List ℕ → ℕ → List ℕ
crypt_of password salt rounds =
    let start : List ℕ = start_digest password salt (mixed_digest password salt) in
    encoded (after_rounds start (password_sequence password) (salt_sequence salt start) rounds)
