-- Bytes that are left of a queue.
use Rattle.std.proofs.Common.{◌≡◌, refl, ap, sym, ◌∙◌, ℕ, ◌≤◌, ◌-◌, nat_lt, List, [], ◌∷◌, length, drop, length-drop, arith}
use Rattle.std.proofs.lemmas.Bool.Decides.{nat_tests}
use Rattle.packet_stream.specs.Queue.{has_bytes}

some_bytes : (bytes : List ℕ) → has_bytes bytes ≡ nat_lt 0 (length bytes)
some_bytes [] = refl
some_bytes (b ∷ bytes) = grind (arith, nat_tests)

-- bytes are left exactly where not all are gone
pub some_left : (gone : ℕ) (bytes : List ℕ) → gone ≤ length bytes → nat_lt gone (length bytes) ≡ has_bytes (drop gone bytes)
some_left gone bytes within = sym (some_bytes (drop gone bytes) ∙ (ap (nat_lt 0) (length-drop gone bytes) ∙ same))
  where
    same : nat_lt 0 (length bytes - gone) ≡ nat_lt gone (length bytes)
    same = grind (arith, nat_tests)
