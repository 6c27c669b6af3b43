-- A packet that is sent, at the front of what came: it is read where its id is wanted and its payload fits, and else it
-- shows a fault. Nothing is asked of the bytes in it.
use Rattle.std.proofs.Common.{◌≡◌, ◌≢◌, refl, ap, sym, ◌∙◌, subst, ℕ, zero, suc, ◌/◌, ◌<◌, ◌≤◌, ◌==◌, true, false, ◌⊎◌, inl, inr, List, [], ◌∷◌, ◌++◌, length, take, drop, arith}
use Rattle.std.proofs.lemmas.Bool.{cases_lt}
use Rattle.std.proofs.lemmas.Bool.Decides.{eqb_tells}
use Rattle.std.proofs.lemmas.List.{length-take-le}
use Rattle.packet_frame.specs.Front.{Front, Whole, Fault, StaysWith, front}
use Rattle.packet_frame.specs.Packets.{full_size, header_text, id_after, pieces_text}
use Rattle.packet_frame.specs.declared.packets.FrameFault.{FrameFault}
use Rattle.packet_frame.specs.declared.packets.FrameFault.TheVariants.{TooLarge, OutOfOrder}
use Rattle.packet_frame.specs.declared.packets.Want.TheVariants.{Exactly}
use Rattle.packet_frame.proofs.Fronts.{front-header, front-short, headed_front-other, headed_front-wanted, sized_front-large}
use Rattle.packet_frame.proofs.Longer.{front-stays}
use Rattle.packet_frame.proofs.Readings.{front-packet}
use Rattle.packet_frame.proofs.Streams.{packet-fits}
use Rattle.packet_stream.specs.Sent.{id_behind}
use Rattle.packet_stream.specs.declared.limits.TheConstants.{MAX_PAYLOAD}
use Rattle.packet_stream.specs.Packing.{packet_text, pieces_of}
use Rattle.packet_stream.proofs.Packed.{text_is_packet}

-- ## The header of a packet

-- the payload of the first piece
first_piece : (count : ℕ) → List ℕ → List ℕ
first_piece zero payload = payload
first_piece (suc count) payload = take full_size payload

headed : (first count : ℕ) (payload : List ℕ) → (rest : List ℕ) × (pieces_text first (pieces_of count payload) ≡ header_text (length (first_piece count payload)) first ++ rest)
unfolding first_piece
headed first zero payload = (payload ++ [], refl)
headed first (suc count) payload = (take full_size payload ++ pieces_text (id_after first) (pieces_of count (drop full_size payload)), refl)

first_small : (count : ℕ) (payload : List ℕ) → length payload / full_size ≡ count → length (first_piece count payload) < 16777216
unfolding first_piece
first_small zero payload e = omega (arith, e)
first_small (suc count) payload e = let size = length-take-le full_size payload (omega (arith, e)) in omega (arith, size)

first_large : (count : ℕ) (payload : List ℕ) → length payload / full_size ≡ count → MAX_PAYLOAD < length payload → MAX_PAYLOAD < length (first_piece count payload)
unfolding first_piece
first_large zero payload e h = h
first_large (suc count) payload e h = let size = length-take-le full_size payload (omega (arith, e)) in omega (arith, size)

-- ## What is read

-- a packet, with the id that is wanted and a payload that fits
abbrev pub IsRead : (want place first : ℕ) → (payload behind : List ℕ) → Front → Type 0
IsRead want place first payload behind f =
    (first ≡ want) × (length payload ≤ MAX_PAYLOAD) × (last : ℕ) × (id_after last ≡ id_behind first payload) × (f ≡ Whole first last payload behind)

abbrev pub IsFaulty : Front → Type 0
IsFaulty f = (fault : FrameFault) × (f ≡ Fault fault)

module _ (want place first : ℕ) (payload behind : List ℕ) where
  abbrev shown : Front
  shown = front MAX_PAYLOAD (Exactly want) place (packet_text first payload ++ behind)

  abbrev count : ℕ
  count = length payload / full_size

  abbrev size : ℕ
  size = length (first_piece count payload)

  by_header : (more : Front → Type 0) → ((rest : List ℕ) → more (front MAX_PAYLOAD (Exactly want) place (header_text size first ++ rest))) → more shown
  unfolding packet_text
  by_header more each =
      let (rest, text_is) = headed first count payload in
      subst (λ (text : List ℕ). more (front MAX_PAYLOAD (Exactly want) place (text ++ behind))) (sym text_is) (each (rest ++ behind))

  is_other : first ≢ want → IsFaulty shown
  is_other differs = by_header IsFaulty (λ rest. (
    OutOfOrder place want first,
    front-header MAX_PAYLOAD (Exactly want) place size first rest (first_small count payload refl)
        ∙ headed_front-other MAX_PAYLOAD want size first place rest _ differs,
  ))

  is_large : first ≡ want → MAX_PAYLOAD < length payload → IsFaulty shown
  is_large same large = by_header IsFaulty (λ rest. (
    TooLarge place,
    front-header MAX_PAYLOAD (Exactly want) place size first rest (first_small count payload refl)
        ∙ (headed_front-wanted MAX_PAYLOAD (Exactly want) size first place rest _ same
        ∙ sized_front-large MAX_PAYLOAD size first place rest _ (first_large count payload refl large)),
  ))

  pub is_whole : first ≡ want → length payload ≤ MAX_PAYLOAD → IsRead want place first payload behind shown
  is_whole same fits =
      let (last, is, next_is) = text_is_packet first payload in (
        same,
        fits,
        last,
        next_is,
        front-packet MAX_PAYLOAD (Exactly want) first last payload (packet_text first payload) place behind
            (packet-fits MAX_PAYLOAD (length payload) (Exactly want) (Exactly first) first last payload (packet_text first payload) is same fits),
      )

  by_size : first ≡ want → (MAX_PAYLOAD < length payload) ⊎ (length payload ≤ MAX_PAYLOAD) → IsRead want place first payload behind shown ⊎ IsFaulty shown
  by_size same (inl large) = inr (is_large same large)
  by_size same (inr fits) = inl (is_whole same fits)

  pub read_or_faulty : IsRead want place first payload behind shown ⊎ IsFaulty shown
  read_or_faulty = by_id (eqb_tells first want) where
    by_id : (((first == want) ≡ true) × (first ≡ want)) ⊎ (((first == want) ≡ false) × (first ≢ want)) → IsRead want place first payload behind shown ⊎ IsFaulty shown
    by_id (inl same) = by_size same.1 (cases_lt MAX_PAYLOAD (length payload))
    by_id (inr differs) = inr (is_other differs.1)

-- ## A beginning of what was sent

same_front : (f g : Front) (first last first' last' : ℕ) (payload payload' behind behind' : List ℕ) → f ≡ g → f ≡ Whole first last payload behind → g ≡ Whole first' last' payload' behind' →
    (first ≡ first') × (last ≡ last') × (payload ≡ payload') × (behind ≡ behind')
same_front f g first last first' last' payload payload' behind behind' e is is' = (cc, cc, cc, cc)

-- the packet that is read of a beginning of what was sent is the first one that was sent
pub first_read : (want place first first' last' : ℕ) (payload payload' behind behind' bytes more : List ℕ) → bytes ++ more ≡ packet_text first payload ++ behind →
    front MAX_PAYLOAD (Exactly want) place bytes ≡ Whole first' last' payload' behind' →
    (first ≡ want) × (length payload ≤ MAX_PAYLOAD) × (payload' ≡ payload) × (id_after last' ≡ id_behind first payload) × (behind' ++ more ≡ behind)
first_read want place first first' last' payload payload' behind behind' bytes more split found = by (read_or_faulty want place first payload behind) where
  longer : front MAX_PAYLOAD (Exactly want) place (bytes ++ more) ≡ Whole first' last' payload' (behind' ++ more)
  longer = subst (λ (f : Front). StaysWith more f (front MAX_PAYLOAD (Exactly want) place (bytes ++ more))) found
      (front-stays (length bytes) MAX_PAYLOAD (Exactly want) place bytes more (omega arith))

  whole : front MAX_PAYLOAD (Exactly want) place (packet_text first payload ++ behind) ≡ Whole first' last' payload' (behind' ++ more)
  whole = ap (λ (text : List ℕ). front MAX_PAYLOAD (Exactly want) place text) (sym split) ∙ longer

  by : IsRead want place first payload behind (shown want place first payload behind) ⊎ IsFaulty (shown want place first payload behind) →
      (first ≡ want) × (length payload ≤ MAX_PAYLOAD) × (payload' ≡ payload) × (id_after last' ≡ id_behind first payload) × (behind' ++ more ≡ behind)
  by (inl (same, fits, last, next_is, is)) =
      let (f, l, p, b) = same_front _ _ first' last' first last payload' payload (behind' ++ more) behind refl whole is in
      (same, fits, p, ap id_after l ∙ next_is, b)
  by (inr (fault, is)) = absurd (let e = whole in cc)

-- nothing is read of nothing
pub none_read : (want place first last : ℕ) (payload behind bytes more : List ℕ) → bytes ++ more ≡ [] → front MAX_PAYLOAD (Exactly want) place bytes ≡ Whole first last payload behind → ⊥
none_read want place first last payload behind [] more e found = absurd (let f = front-short MAX_PAYLOAD (Exactly want) place [] (omega arith) in cc)
none_read want place first last payload behind (x ∷ bytes) more e found = absurd (cc)
