use Rattle.std.proofs.Common.{◌≡◌, ℕ, ◌-◌, List, ◌++◌, length, take, drop, Option, Some, refl, ap, ◌∙◌}
use Rattle.std.proofs.lemmas.List.{take_at, drop_at, take_rest}
use Rattle.caching_sha2.proofs.stored.read_stored.Goals as goal

same_some : {read : Option ℕ} (m n : ℕ) → read ≡ Some m → read ≡ Some n → m ≡ n
same_some m n is_m is_n = cc

pub returns-clause-found : goal.returns-clause-found
returns-clause-found c = λ value spelled.
    let text = c.args.text.now in
    let rest : List ℕ = take (length text - 7) (drop 7 text) in
    let rest_is : rest ≡ value.salt ++ value.sum =
    take_rest text 7 ∙ ap (drop 7) spelled.bytes in
    let found =
    c.read_thousands.ensures.found value.thousands spelled.storable.some_rounds spelled.storable.most_rounds
    (rw (spelled.bytes) refl) in
    let (salt_is, _, _) = c.in_ok-salt_bytes.ensures.read in
    let (sum_is, _, _) = c.in_ok-salt_bytes-2.ensures.read in
    let front = ap (take 20) rest_is ∙ take_at value.salt value.sum 20 spelled.salt_length in
    let back = ap (drop 20) rest_is ∙ drop_at value.salt value.sum 20 spelled.salt_length in
    let salt : c.in_ok-salt_bytes.field-0 ≡ value.salt = salt_is ∙ c.split_at.ensures.front ∙ front in
    let sum : c.in_ok-salt_bytes-2.field-0 ≡ value.sum = sum_is ∙ c.split_at.ensures.back ∙ back in
    let thousands : c.in_ok-thousands.thousands ≡ value.thousands =
    same_some c.in_ok-thousands.thousands value.thousands c.in_ok-thousands.was found in
    rw (thousands, salt, sum) refl
