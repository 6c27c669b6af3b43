-- The full pieces of a payload that grows.
use Rattle.std.proofs.Common.{◌≡◌, ℕ, zero, suc, ◌+◌, ◌-◌, ◌*◌, ◌≤◌, List, [], ◌∷◌, ◌++◌, length, take, drop, refl, sym, ap, ◌∙◌, arith, length-append, length-drop, append_assoc}
use Rattle.std.specs.List.{concat}
use Rattle.std.proofs.lemmas.List.{length-take-le, take-append-le, drop-append-le, drop-drop, take-append-drop, take_all}
use Rattle.packet_frame.specs.Packets.{full_size, id_after, id_at, pieces_text, AllFull}
use Rattle.packet_frame.specs.Progress.{full_pieces}

pub length-pieces_text : (id : ℕ) (full : List (List ℕ)) → AllFull full → length (pieces_text id full) ≡ length full * 16777219
length-pieces_text id [] each = refl
length-pieces_text id (p ∷ ps) each = omega (arith, length-append p (pieces_text (id_after id) ps), length-pieces_text (id_after id) ps each.1, each.0)

pub length-full_pieces : (count : ℕ) (payload : List ℕ) → length (full_pieces count payload) ≡ count
unfolding full_pieces
length-full_pieces zero payload = refl
length-full_pieces (suc count) payload = ap suc (length-full_pieces count (drop full_size payload))

pub full_pieces-full : (count : ℕ) (payload : List ℕ) → count * full_size ≤ length payload → AllFull (full_pieces count payload)
unfolding full_pieces
full_pieces-full zero payload h = tt
full_pieces-full (suc count) payload h = (
  length-take-le full_size payload (omega arith),
  full_pieces-full count (drop full_size payload) (omega (arith, length-drop full_size payload)),
)

pub concat-full_pieces : (count : ℕ) (payload : List ℕ) → count * full_size ≤ length payload → concat (full_pieces count payload) ++ drop (count * full_size) payload ≡ payload
unfolding full_pieces
concat-full_pieces zero payload h = refl
concat-full_pieces (suc count) payload h =
    let rest = drop full_size payload in
    let after : drop (suc count * full_size) payload ≡ drop (count * full_size) rest =
    ap (λ n. drop n payload) (omega arith) ∙ sym (drop-drop (count * full_size) full_size payload) in
    append_assoc (take full_size payload) (concat (full_pieces count rest)) (drop (suc count * full_size) payload)
    ∙ ap (λ more. take full_size payload ++ (concat (full_pieces count rest) ++ more)) after
    ∙ ap (λ more. take full_size payload ++ more) (concat-full_pieces count rest (omega (arith, length-drop full_size payload)))
    ∙ take-append-drop full_size payload

pub length-concat-full_pieces : (count : ℕ) (payload : List ℕ) → count * full_size ≤ length payload → length (concat (full_pieces count payload)) ≡ count * full_size
length-concat-full_pieces count payload h =
    let all = ap length (concat-full_pieces count payload h) in
    let parts = length-append (concat (full_pieces count payload)) (drop (count * full_size) payload) in
    omega (arith, all, parts, length-drop (count * full_size) payload)

pub full_pieces-append : (count : ℕ) (payload more : List ℕ) → count * full_size ≤ length payload → full_pieces count (payload ++ more) ≡ full_pieces count payload
unfolding full_pieces
full_pieces-append zero payload more h = refl
full_pieces-append (suc count) payload more h =
    ap (λ p. p ∷ full_pieces count (drop full_size (payload ++ more))) (take-append-le full_size payload more (omega arith))
    ∙ ap (λ rest. take full_size payload ∷ full_pieces count rest) (drop-append-le full_size payload more (omega arith))
    ∙ ap (λ ps. take full_size payload ∷ ps) (full_pieces-append count (drop full_size payload) more (omega (arith, length-drop full_size payload)))

-- one more piece, which ends the payload
pub full_pieces-push : (count : ℕ) (payload : List ℕ) → length payload ≡ count * full_size + full_size →
    full_pieces (suc count) payload ≡ full_pieces count payload ++ drop (count * full_size) payload ∷ []
unfolding full_pieces
full_pieces-push zero payload h = ap (λ p. p ∷ []) (take_all full_size payload (omega arith))
full_pieces-push (suc count) payload h =
    let rest = drop full_size payload in
    let after : drop (count * full_size) rest ≡ drop (suc count * full_size) payload =
    drop-drop (count * full_size) full_size payload ∙ ap (λ n. drop n payload) (omega arith) in
    ap (λ ps. take full_size payload ∷ ps) (full_pieces-push count rest (omega (arith, length-drop full_size payload)))
    ∙ ap (λ p. take full_size payload ∷ (full_pieces count rest ++ p ∷ [])) after

pub length-laid_pieces : (first count : ℕ) (payload : List ℕ) → count * full_size ≤ length payload → length (pieces_text first (full_pieces count payload)) ≡ count * 16777219
length-laid_pieces first count payload h =
    omega (arith, length-pieces_text first (full_pieces count payload) (full_pieces-full count payload h), length-full_pieces count payload)

-- how many bytes were taken since the last packet
pub length_held : (first count seen : ℕ) (head payload : List ℕ) → seen ≤ length head → count * full_size ≤ length payload →
    length (pieces_text first (full_pieces count payload) ++ (take seen head ++ drop (count * full_size) payload))
    ≡ count * 16777219 + seen + (length payload - count * full_size)
length_held first count seen head payload h k =
    let pieces = full_pieces count payload in
    let part = drop (count * full_size) payload in
    omega (
      arith,
      length-append (pieces_text first pieces) (take seen head ++ part),
      length-append (take seen head) part,
      length-pieces_text first pieces (full_pieces-full count payload k),
      length-full_pieces count payload,
      length-take-le seen head h,
      length-drop (count * full_size) payload,
    )

pub id_at-after : (id count : ℕ) → id_at (id_after id) count ≡ id_after (id_at id count)
id_at-after id zero = refl
id_at-after id (suc count) = id_at-after (id_after id) count
