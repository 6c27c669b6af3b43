-- The alphabet's characters are salt bytes, and so are those of a sum.
use Rattle.std.proofs.Common.{◌≡◌, ℕ, zero, suc, ◌+◌, ◌*◌, ◌/◌, ◌%◌, ◌<◌, List, ◌++◌, arith, Bool, true, refl}
use Rattle.std.specs.Prelude.{slice_index, nat_le, ◌&&◌, ◌||◌}
use Rattle.std.specs.List.{All, list_all}
use Rattle.std.proofs.lemmas.List.Elements.{All-nil, All-cons, All-append}
use Rattle.std.proofs.lemmas.List.Sums.{AllPass-from_list_all}
use Rattle.std.proofs.lemmas.Bool.Decides.{nat_tests}
use Rattle.sha256_crypt.specs.Alphabet.{alphabet, IsSaltByte}
use Rattle.sha256_crypt.specs.Crypt.{characters, group, encoded}

-- the bytes from `.` to `9`, from `A` to `Z` and from `a` to `z`, as a test
abbrev is_salt_code : ℕ → Bool
is_salt_code b = (nat_le 46 b && nat_le b 57) || (nat_le 65 b && nat_le b 90) || (nat_le 97 b && nat_le b 122)

IsSaltByte-code : (b : ℕ) → is_salt_code b ≡ true → IsSaltByte b
unfolding IsSaltByte
IsSaltByte-code b passes = grind (arith, nat_tests)

-- each place of the alphabet has a salt byte
pub IsSaltByte-at : (k : ℕ) → k < 64 → IsSaltByte (slice_index alphabet k)
IsSaltByte-at k below =
    let all_pass : list_all is_salt_code alphabet ≡ true = refl in
    IsSaltByte-code (slice_index alphabet k)
    (AllPass-from_list_all is_salt_code alphabet all_pass k 0 below)

-- each byte of the list is a salt byte, as a record, so that the list is found from the fact
record AreSaltBytes (xs : List ℕ) : Type 0 where
  all : All IsSaltByte xs

of_characters : (n number : ℕ) → AreSaltBytes (characters n number)
of_characters zero number = record { all = All-nil IsSaltByte }
of_characters (suc n) number = record {
  all = All-cons IsSaltByte (slice_index alphabet (number % 64)) (characters n (number / 64))
      (IsSaltByte-at (number % 64) (omega arith)) (of_characters n (number / 64)).all;
}

of_group : (c : List ℕ) (x y z : ℕ) → AreSaltBytes (group c x y z)
of_group c x y z = of_characters 4 (slice_index c x * 65536 + slice_index c y * 256 + slice_index c z)

joined : {xs ys : List ℕ} → AreSaltBytes xs → AreSaltBytes ys → AreSaltBytes (xs ++ ys)
joined {xs} {ys} left right = record { all = All-append IsSaltByte xs ys left.all right.all }

of_encoded : (c : List ℕ) → AreSaltBytes (encoded c)
unfolding encoded
of_encoded c =
    joined (joined (joined (joined (joined (joined (joined (joined (joined (joined
    (of_group c 0 10 20) (of_group c 21 1 11)) (of_group c 12 22 2)) (of_group c 3 13 23))
    (of_group c 24 4 14)) (of_group c 15 25 5)) (of_group c 6 16 26)) (of_group c 27 7 17))
    (of_group c 18 28 8)) (of_group c 9 19 29)) (of_characters 3 (slice_index c 31 * 256 + slice_index c 30))

-- a sum's characters are salt bytes
pub All-encoded : (c : List ℕ) → All IsSaltByte (encoded c)
All-encoded c = (of_encoded c).all
