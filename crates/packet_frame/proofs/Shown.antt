-- Every list of bytes has a packet, less than one, or a fault at its front, and what is computed is that.
use Rattle.std.proofs.Common.{◌≡◌, ◌≢◌, ℕ, zero, suc, ◌+◌, ◌-◌, ◌/◌, ◌%◌, ◌<◌, ◌≤◌, ◌⊎◌, List, [], ◌∷◌, ◌++◌, length, take, drop, refl, sym, ap, ◌∙◌, subst, inl, inr, arith, length-append, length-drop, append_assoc, append-nil}
use Rattle.std.specs.Prelude.{All}
use Rattle.std.specs.List.{concat}
use Rattle.std.proofs.lemmas.Bool.{cases_eq, cases_lt}
use Rattle.std.proofs.lemmas.List.{take-append-drop, length-take-le, get_or-drop}
use Rattle.lg_base.specs.Fields.{little}
use Rattle.packet_frame.specs.declared.packets.Want.{Want}
use Rattle.packet_frame.specs.declared.packets.Want.TheVariants.{Exactly, Any}
use Rattle.packet_frame.specs.declared.packets.FrameFault.{FrameFault}
use Rattle.packet_frame.specs.declared.packets.FrameFault.TheVariants.{TooLarge, OutOfOrder}
use Rattle.packet_frame.specs.Packets.{full_size, id_after, id_at, header_text, pieces_text, Wants, Begins, want_after, IsPacket, IsBegun, IsRefused, IsFault, IsCut, IsUnfinished}
use Rattle.packet_frame.specs.Front.{Front, Whole, Part, Fault, continued_front, front, IsFront}
use Rattle.packet_frame.proofs.Readings.{front-only}

-- a header's bytes are those of the length that they stand for
pub header_is : (a b c id : ℕ) → a < 256 → b < 256 → c < 256 → a ∷ b ∷ c ∷ id ∷ [] ≡ header_text (little (a ∷ b ∷ c ∷ [])) id
header_is a b c id ha hb hc =
    let size = little (a ∷ b ∷ c ∷ []) in
    let low : a ≡ size % 256 = omega arith in
    let middle : b ≡ size / 256 % 256 = omega arith in
    let high : c ≡ size / 256 / 256 % 256 = omega arith in
    ap (λ x. x ∷ b ∷ c ∷ id ∷ []) low
    ∙ ap (λ x. size % 256 ∷ x ∷ c ∷ id ∷ []) middle
    ∙ ap (λ x. size % 256 ∷ size / 256 % 256 ∷ x ∷ id ∷ []) high

pub little_below : (a b c : ℕ) → a < 256 → b < 256 → c < 256 → little (a ∷ b ∷ c ∷ []) < 16777216
little_below a b c ha hb hc = omega arith

-- no piece yet
pub begun-none : (limit : ℕ) (want : Want) → IsBegun limit want 0 want []
begun-none limit want = record { first = 0; full = []; each_full = tt; laid_out = refl; begins = tt; total_is = refl; fits = omega arith; next_is = refl }

pub pieces_text-first : (id first : ℕ) (full : List (List ℕ)) → Begins (Exactly id) first full → pieces_text first full ≡ pieces_text id full
pieces_text-first id first [] h = refl
pieces_text-first id first (p ∷ ps) h = ap (λ i. pieces_text i (p ∷ ps)) h

pub want_after-first : (id first : ℕ) (full : List (List ℕ)) → Begins (Exactly id) first full → want_after (Exactly id) first full ≡ Exactly (id_at id (length full))
want_after-first id first [] h = refl
want_after-first id first (p ∷ ps) h = ap (λ i. want_after (Exactly id) i (p ∷ ps)) h

-- one full piece in front of full pieces
pub begun-more : (limit : ℕ) (want : Want) (id : ℕ) (piece : List ℕ) (total : ℕ) (next : Want) (before : List ℕ) →
    Wants want id → length piece ≡ full_size → full_size ≤ limit → IsBegun (limit - full_size) (Exactly (id_after id)) total next before →
    IsBegun limit want (full_size + total) next (header_text full_size id ++ (piece ++ before))
begun-more limit want id piece total next before w e h begun =
    let full = begun.full in
    record {
      first = id;
      full = piece ∷ full;
      each_full = (e, begun.each_full);
      laid_out =
          ap (λ b. header_text full_size id ++ (piece ++ b)) (begun.laid_out ∙ pieces_text-first (id_after id) begun.first full begun.begins)
          ∙ ap (λ size. header_text size id ++ (piece ++ pieces_text (id_after id) full)) (sym e);
      begins = w;
      total_is = omega (arith, length-append piece (concat full), e, begun.total_is);
      fits = omega (arith, begun.fits);
      next_is = begun.next_is ∙ want_after-first (id_after id) begun.first full begun.begins;
    }

pub packet-more : (limit : ℕ) (want : Want) (id : ℕ) (piece : List ℕ) (first last : ℕ) (payload head : List ℕ) →
    Wants want id → length piece ≡ full_size → full_size ≤ limit → IsPacket (limit - full_size) (Exactly (id_after id)) first last payload head →
    IsPacket limit want id last (piece ++ payload) (header_text full_size id ++ (piece ++ head))
packet-more limit want id piece first last payload head w e h packet =
    let full = packet.full in
    let ending = packet.ending in
    record {
      full = piece ∷ full;
      ending = ending;
      each_full = (e, packet.each_full);
      not_full = packet.not_full;
      laid_out =
          ap (λ b. header_text full_size id ++ (piece ++ b)) (packet.laid_out ∙ ap (λ i. pieces_text i (full ++ ending ∷ [])) packet.wanted)
          ∙ ap (λ size. header_text size id ++ (piece ++ pieces_text (id_after id) (full ++ ending ∷ []))) (sym e);
      joined = ap (λ p. piece ++ p) packet.joined;
      wanted = w;
      ends_at = packet.ends_at ∙ ap (λ i. id_at i (length full)) packet.wanted;
      fits = omega (arith, length-append piece payload, e, packet.fits);
    }

pub rooms : (limit total : ℕ) → limit - full_size - total ≡ limit - (full_size + total)
rooms limit total = omega arith

pub places : (place id : ℕ) (piece before : List ℕ) → length piece ≡ full_size → place + 4 + full_size + length before ≡ place + length (header_text full_size id ++ (piece ++ before))
places place id piece before e = omega (arith, length-append piece before, e)

pub fault-more : (limit : ℕ) (want : Want) (place id : ℕ) (piece rest : List ℕ) (fault : FrameFault) →
    Wants want id → length piece ≡ full_size → full_size ≤ limit → IsFault (limit - full_size) (Exactly (id_after id)) (place + 4 + full_size) fault rest →
    IsFault limit want place fault (header_text full_size id ++ (piece ++ rest))
fault-more limit want place id piece rest fault w e h shown =
    let refused = shown.refused in
    record {
      before = header_text full_size id ++ (piece ++ shown.before);
      total = full_size + shown.total;
      next = shown.next;
      begun = begun-more limit want id piece shown.total shown.next shown.before w e h shown.begun;
      size = shown.size;
      id = shown.id;
      behind = shown.behind;
      laid_out = ap (λ b. header_text full_size id ++ b) (ap (λ b. piece ++ b) shown.laid_out ∙ sym (append_assoc piece shown.before (header_text shown.size shown.id ++ shown.behind)));
      in_range = shown.in_range;
      refused =
          let at_place = subst (λ at. IsRefused (limit - full_size - shown.total) shown.next at shown.size shown.id fault) (places place id piece shown.before e) shown.refused in
          subst (λ room. IsRefused room shown.next (place + length (header_text full_size id ++ (piece ++ shown.before))) shown.size shown.id fault) (rooms limit shown.total) at_place;
    }

pub unfinished-more : (limit : ℕ) (want : Want) (id : ℕ) (piece rest : List ℕ) (missing : ℕ) →
    Wants want id → length piece ≡ full_size → full_size ≤ limit → IsUnfinished (limit - full_size) (Exactly (id_after id)) missing rest →
    IsUnfinished limit want missing (header_text full_size id ++ (piece ++ rest))
unfinished-more limit want id piece rest missing w e h part = record {
  before = header_text full_size id ++ (piece ++ part.before);
  total = full_size + part.total;
  next = part.next;
  begun = begun-more limit want id piece part.total part.next part.before w e h part.begun;
  present = part.present;
  laid_out = ap (λ b. header_text full_size id ++ b) (ap (λ b. piece ++ b) part.laid_out ∙ sym (append_assoc piece part.before part.present));
  cut = subst (λ room. IsCut room part.next missing part.present) (rooms limit part.total) part.cut;
}

-- what stands at the front of bytes behind a full piece
pub front-more : (limit : ℕ) (want : Want) (place id : ℕ) (piece rest : List ℕ) (found : Front) →
    Wants want id → length piece ≡ full_size → full_size ≤ limit → IsFront (limit - full_size) (Exactly (id_after id)) (place + 4 + full_size) rest found →
    IsFront limit want place (header_text full_size id ++ (piece ++ rest)) (continued_front id piece found)
front-more limit want place id piece rest (Whole first last payload behind) w e h (head, is, packet) = (
  header_text full_size id ++ (piece ++ head),
  ap (λ b. header_text full_size id ++ b) (ap (λ b. piece ++ b) is ∙ sym (append_assoc piece head behind)),
  packet-more limit want id piece first last payload head w e h packet,
)
front-more limit want place id piece rest (Part missing) w e h part = unfinished-more limit want id piece rest missing w e h part
front-more limit want place id piece rest (Fault fault) w e h shown = fault-more limit want place id piece rest fault w e h shown

-- an id is wanted, or another one is
pub wants_or_not : (want : Want) (id : ℕ) → Wants want id ⊎ ((wanted : ℕ) × (want ≡ Exactly wanted) × (id ≢ wanted))
wants_or_not (Exactly wanted) id = elim (cases_eq id wanted) [ inl same ↦ inl same | inr other ↦ inr (wanted, refl, other) ]
wants_or_not Any id = inl tt

-- what stands at the front of bytes, for a header and what is behind it
pub seen-short : (limit : ℕ) (want : Want) (place : ℕ) (bytes : List ℕ) → length bytes < 4 → (found : Front) × IsFront limit want place bytes found
seen-short limit want place bytes h = (
  Part (4 - length bytes),
  record { before = []; total = 0; next = want; begun = begun-none limit want; present = bytes; laid_out = refl; cut = inl (h, omega arith) },
)

pub seen-refused : (limit : ℕ) (want : Want) (place size id : ℕ) (behind : List ℕ) (fault : FrameFault) → size < 16777216 → IsRefused limit want place size id fault →
    (found : Front) × IsFront limit want place (header_text size id ++ behind) found
seen-refused limit want place size id behind fault in_range refused =
    let at_place = subst (λ at. IsRefused limit want at size id fault) (omega arith) refused in
    let in_room = subst (λ room. IsRefused room want (place + 0) size id fault) (omega arith) at_place in (
      Fault fault,
      record { before = []; total = 0; next = want; begun = begun-none limit want; size = size; id = id; behind = behind; laid_out = refl; in_range = in_range; refused = in_room },
    )

pub seen-header : (limit : ℕ) (want : Want) (place size id : ℕ) (behind : List ℕ) → size < 16777216 →
    ((size ≤ limit) → (size ≤ length behind) → (found : Front) × IsFront (limit - size) (Exactly (id_after id)) (place + 4 + size) (drop size behind) found) →
    (found : Front) × IsFront limit want place (header_text size id ++ behind) found
seen-header limit want place size id behind in_range seen =
    let begun = begun-none limit want in
    elim (wants_or_not want id) [
      | inr (wanted, exactly, other) ↦ seen-refused limit want place size id behind (OutOfOrder place wanted id) in_range (refl, exactly, refl, other)
      | inl w ↦ elim (cases_lt limit size) [
        | inl large ↦ seen-refused limit want place size id behind (TooLarge place) in_range (refl, w, large)
        | inr fits ↦ elim (cases_lt (length behind) size) [
          | inl less ↦ (
            Part (size - length behind),
            record {
              before = [];
              total = 0;
              next = want;
              begun = begun;
              present = header_text size id ++ behind;
              laid_out = refl;
              cut = inr (size, id, behind, refl, in_range, w, omega arith, less, omega arith);
            },
          )
          | inr there ↦
              let piece = take size behind in
              let split = take-append-drop size behind in
              let piece_length : length piece ≡ size = length-take-le size behind there in
              elim (cases_eq size full_size) [
                | inl full ↦
                    let found = seen fits there in
                    let more = subst (λ n. IsFront (limit - n) (Exactly (id_after id)) (place + 4 + n) (drop size behind) found.0) full found.1 in
                    let all = front-more limit want place id piece (drop size behind) found.0 w (piece_length ∙ full) (omega arith) more in
                    let at_size = subst (λ n. IsFront limit want place (header_text n id ++ (piece ++ drop size behind)) (continued_front id piece found.0)) (sym full) all in (
                      continued_front id piece found.0,
                      subst (λ b. IsFront limit want place (header_text size id ++ b) (continued_front id piece found.0)) split at_size,
                    )
                | inr not_full ↦ (
                  Whole id id piece (drop size behind),
                  (
                    header_text size id ++ piece,
                    ap (λ b. header_text size id ++ b) (sym split),
                    record {
                      full = [];
                      ending = piece;
                      each_full = tt;
                      not_full = omega (arith, piece_length, in_range, not_full);
                      laid_out = ap (λ n. header_text n id ++ piece) (sym piece_length) ∙ ap (λ b. header_text (length piece) id ++ b) (sym (append-nil piece));
                      joined = sym (append-nil piece);
                      wanted = w;
                      ends_at = refl;
                      fits = omega (arith, piece_length);
                    },
                  ),
                )
              ]
        ]
      ]
    ]

-- every list of bytes has something at its front
pub seen : (most : ℕ) (limit : ℕ) (want : Want) (place : ℕ) (bytes : List ℕ) → length bytes ≤ most → All (λ x. x < 256) bytes →
    (found : Front) × IsFront limit want place bytes found
seen _ limit want place [] h b = seen-short limit want place [] (omega arith)
seen _ limit want place (x ∷ []) h b = seen-short limit want place (x ∷ []) (omega arith)
seen _ limit want place (x ∷ y ∷ []) h b = seen-short limit want place (x ∷ y ∷ []) (omega arith)
seen _ limit want place (x ∷ y ∷ z ∷ []) h b = seen-short limit want place (x ∷ y ∷ z ∷ []) (omega arith)
seen zero limit want place (_ ∷ _ ∷ _ ∷ _ ∷ _) h b = absurd (omega arith)
seen (suc most) limit want place (x ∷ y ∷ z ∷ id ∷ behind) h b =
    let size = little (x ∷ y ∷ z ∷ []) in
    let hx : x < 256 = b 0 x (omega arith) in
    let hy : y < 256 = b 1 x (omega arith) in
    let hz : z < 256 = b 2 x (omega arith) in
    let after : All (λ x. x < 256) behind = λ k d l. b (suc (suc (suc (suc k)))) d (omega arith) in
    let rest : All (λ x. x < 256) (drop size behind) =
    λ k d l. rw (get_or-drop size behind k d) (after (size + k) d (omega (arith, length-drop size behind))) in
    let found = seen-header limit want place size id behind (little_below x y z hx hy hz)
    (λ fits there. seen most (limit - size) (Exactly (id_after id)) (place + 4 + size) (drop size behind) (omega (arith, length-drop size behind)) rest) in
    (found.0, subst (λ b. IsFront limit want place (b ++ behind) found.0) (sym (header_is x y z id hx hy hz)) found.1)

-- what is computed of the front of bytes stands there
pub front-stands : (limit : ℕ) (want : Want) (place : ℕ) (bytes : List ℕ) → All (λ x. x < 256) bytes → IsFront limit want place bytes (front limit want place bytes)
front-stands limit want place bytes b =
    let found = seen (length bytes) limit want place bytes (omega arith) b in
    subst (IsFront limit want place bytes) (sym (front-only limit want place bytes found.0 found.1)) found.1
