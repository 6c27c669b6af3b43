use Rattle.std.proofs.Common.{◌≡◌, ℕ, ◌+◌, List, [], ◌++◌, length, take, drop, refl, ap, ◌∙◌, arith, append-nil, append_assoc, codes, length-append}
use Rattle.std.proofs.lemmas.List.{take_at, drop_all}
use Rattle.caching_sha2.specs.Stored.{hex_digits}
use Rattle.caching_sha2.proofs.stored.write_stored.Goals as goal

-- a salt put behind a head of 7 bytes, and then a sum to the text's end
laid : (head salt sum begun salted done : List ℕ)
    → salted ≡ take 7 begun ++ (salt ++ drop (7 + length salt) begun)
    → done ≡ take 27 salted ++ (sum ++ drop (27 + length sum) salted)
    → take 7 begun ≡ head → length head ≡ 7 → length salt ≡ 20 → length sum ≡ 43 → length salted ≡ 70
    → done ≡ head ++ (salt ++ sum)
laid head salt sum begun salted done put_salt put_sum is_head head_long salt_long sum_long whole =
    let front : take 27 salted ≡ head ++ salt =
    ap (take 27) put_salt ∙ rw (is_head, ← append_assoc)
    (take_at (head ++ salt) (drop (7 + length salt) begun) 27 (omega (arith, length-append head salt))) in
    let over : drop (27 + length sum) salted ≡ [] = drop_all (27 + length sum) salted (omega arith) in
    put_sum ∙ rw (front, over, append-nil sum, append_assoc head salt sum) refl

pub returns : goal.returns
returns c =
    let value = c.args.value.now in
    let head : List ℕ = codes "$A$" ++ hex_digits value.thousands ++ codes "$" in
    let is_head : take 7 c.put.new.text ≡ head = rw (c.put.ensures, c.write_hex.ensures) refl in
    let salt_long : length value.salt ≡ 20 = omega arith in
    let sum_long : length value.sum ≡ 43 = omega arith in
    record {
      storable = c.requires;
      salt_length = salt_long;
      sum_length = sum_long;
      bytes = laid head value.salt value.sum c.put.new.text c.put-2.new.text c.put-3.new.text
          c.put-2.ensures c.put-3.ensures is_head refl salt_long sum_long c.put-2.array_long;
    }
