-- A packet is determined by its first sequence id and its payload.
use Rattle.std.proofs.Common.{◌≡◌, refl, ap, sym, ◌∙◌, ℕ, zero, suc, ◌+◌, ◌*◌, ◌/◌, ◌%◌, ◌<◌, ◌≤◌, List, [], ◌∷◌, ◌++◌, length, take, drop, length-append, length-drop, append_assoc, append-nil, arith}
use Rattle.std.proofs.lemmas.List.{take_at, drop_at, drop-drop}
use Rattle.std.specs.List.{concat}
use Rattle.packet_frame.specs.Packets.{AllFull, IsPacket, WritesPacket, full_size, id_after, id_at, pieces_text}
use Rattle.packet_frame.specs.Progress.{full_pieces}
use Rattle.packet_frame.specs.declared.packets.Want.TheVariants.{Exactly}
use Rattle.packet_frame.proofs.Pieces.{concat-full_pieces, full_pieces-full, length-full_pieces}
use Rattle.packet_frame.proofs.Readings.{concat-push}
use Rattle.packet_stream.specs.Sent.{Sent, id_behind}
use Rattle.packet_stream.specs.Packing.{packet_text, packets_text, pieces_of}

-- ## Pieces

-- a payload that is laid out in full pieces and a last one is cut into them again
pub cut_again : (full : List (List ℕ)) (ending : List ℕ) → AllFull full → pieces_of (length full) (concat (full ++ ending ∷ [])) ≡ full ++ ending ∷ []
cut_again [] ending each = ap (λ (p : List ℕ). p ∷ []) (append-nil ending)
cut_again (p ∷ ps) ending each =
    ap (λ (piece : List ℕ). piece ∷ pieces_of (length ps) (drop full_size (p ++ rest))) (take_at p rest full_size each.0)
    ∙ (ap (λ (left : List ℕ). p ∷ pieces_of (length ps) left) (drop_at p rest full_size each.0)
    ∙ ap (λ (more : List (List ℕ)). p ∷ more) (cut_again ps ending each.1))
  where
    rest : List ℕ
    rest = concat (ps ++ ending ∷ [])

length_laid : (full : List (List ℕ)) (ending : List ℕ) → AllFull full → length (concat (full ++ ending ∷ [])) ≡ length full * full_size + length ending
length_laid [] ending each = omega (arith, ap length (append-nil ending))
length_laid (p ∷ ps) ending each = omega (arith, length-append p (concat (ps ++ ending ∷ [])), length_laid ps ending each.1, each.0)

-- how many of them are full
count_is : (full : List (List ℕ)) (ending payload : List ℕ) → AllFull full → length ending < full_size → payload ≡ concat (full ++ ending ∷ []) →
    length payload / full_size ≡ length full
count_is full ending payload each less joined = omega (arith, ap length joined, length_laid full ending each, less)

pieces-full : (count : ℕ) (payload : List ℕ) → pieces_of count payload ≡ full_pieces count payload ++ drop (count * full_size) payload ∷ []
unfolding full_pieces
pieces-full zero payload = refl
pieces-full (suc count) payload =
    ap (λ (more : List (List ℕ)). take full_size payload ∷ more) (pieces-full count (drop full_size payload))
    ∙ ap (λ (left : List ℕ). take full_size payload ∷ (full_pieces count (drop full_size payload) ++ left ∷ []))
    (drop-drop (count * full_size) full_size payload ∙ ap (λ (n : ℕ). drop n payload) (omega arith))

-- ## Sequence ids

after_pieces : (first count : ℕ) → id_after (id_at first count) ≡ (first + count + 1) % 256
after_pieces first zero = ap (λ (n : ℕ). (n + 1) % 256) (omega arith)
after_pieces first (suc count) = omega (arith, after_pieces (id_after first) count)

-- ## Packets

pub packet_is : (limit first last : ℕ) (payload text : List ℕ) → IsPacket limit (Exactly first) first last payload text → text ≡ packet_text first payload
unfolding packet_text
packet_is limit first last payload text is = is.laid_out ∙ sym (ap (pieces_text first) cut)
  where
    cut : pieces_of (length payload / full_size) payload ≡ is.full ++ is.ending ∷ []
    cut =
        ap (λ (n : ℕ). pieces_of n payload) (count_is is.full is.ending payload is.each_full is.not_full is.joined)
        ∙ (ap (pieces_of (length is.full)) is.joined ∙ cut_again is.full is.ending is.each_full)

pub next_is : (limit first last : ℕ) (payload text : List ℕ) → IsPacket limit (Exactly first) first last payload text → id_after last ≡ id_behind first payload
next_is limit first last payload text is =
    ap id_after is.ends_at
    ∙ (after_pieces first (length is.full)
    ∙ ap (λ (n : ℕ). (first + n + 1) % 256) (sym (count_is is.full is.ending payload is.each_full is.not_full is.joined)))

pub text_is_packet : (first : ℕ) (payload : List ℕ) →
    (last : ℕ) × IsPacket (length payload) (Exactly first) first last payload (packet_text first payload) × (id_after last ≡ id_behind first payload)
unfolding packet_text
text_is_packet first payload = (
  id_at first (length full),
  packet,
  after_pieces first (length full) ∙ ap (λ (n : ℕ). (first + n + 1) % 256) (length-full_pieces count payload),
)
  where
    count : ℕ
    count = length payload / full_size

    enough : count * full_size ≤ length payload
    enough = omega arith

    full : List (List ℕ)
    full = full_pieces count payload

    ending : List ℕ
    ending = drop (count * full_size) payload

    packet : IsPacket (length payload) (Exactly first) first (id_at first (length full)) payload (packet_text first payload)
    packet = record {
      full = full;
      ending = ending;
      each_full = full_pieces-full count payload enough;
      not_full = omega (arith, length-drop (count * full_size) payload);
      laid_out = ap (pieces_text first) (pieces-full count payload);
      joined = sym (concat-full_pieces count payload enough) ∙ sym (concat-push full ending);
      wanted = refl;
      ends_at = refl;
      fits = omega arith;
    }

-- a packet that was written
pub written_is : (first next : ℕ) (payload old new : List ℕ) → WritesPacket first payload next old new → new ≡ old ++ packet_text first payload
written_is first next payload old new w = w.added ∙ ap (λ (text : List ℕ). old ++ text) (packet_is (length payload) first w.last payload w.text w.packet)

pub written_next : (first next : ℕ) (payload old new : List ℕ) → WritesPacket first payload next old new → next ≡ id_behind first payload
written_next first next payload old new w = w.next_is ∙ next_is (length payload) first w.last payload w.text w.packet

-- ## What is sent

-- the packets of two lists laid end to end
pub packets_text-append : (before more : List Sent) → packets_text (before ++ more) ≡ packets_text before ++ packets_text more
packets_text-append [] more = refl
packets_text-append (sent ∷ before) more =
    ap (λ (text : List ℕ). packet_text sent.first sent.payload ++ text) (packets_text-append before more)
    ∙ sym (append_assoc (packet_text sent.first sent.payload) (packets_text before) (packets_text more))
