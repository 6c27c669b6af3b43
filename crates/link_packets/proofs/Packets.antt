-- What is known of a packet that is being read.
use Rattle.std.proofs.Common.{◌≡◌, refl, sym, ap, ◌∙◌, subst, ℕ, ◌+◌, ◌-◌, ◌<◌, ◌≤◌, List, [], ◌∷◌, ◌++◌, length, arith, length-append, ⊎_elim, Option}
use Rattle.std.proofs.lemmas.List.{take_all}
use Rattle.std.specs.List.{concat}
use Rattle.packet_frame.specs.Framing.{Framing, front_of, held_length, unfinished_length, with_bytes, due_bytes, missing_of, IsSound, IsWhole, IsReading, Takes, Refuses, TakesPacket}
use Rattle.packet_frame.specs.Front.{Front, Whole, Part, Fault, front, IsFront}
use Rattle.packet_frame.specs.Packets.{AllFull, header_text, id_after, pieces_text, IsCut, IsFault, IsPacket, IsUnfinished}
use Rattle.packet_frame.specs.declared.packets.Packet.{Packet}
use Rattle.packet_frame.specs.declared.packets.Want.{Want}
use Rattle.packet_frame.specs.declared.packets.Want.TheVariants.{Exactly}
use Rattle.packet_frame.specs.declared.packets.FrameFault.{FrameFault}
use Rattle.packet_frame.specs.declared.packets.FrameFault.TheVariants.{TooLarge, OutOfOrder, Memory}
use Rattle.packet_frame.proofs.Fronts.{front-nothing}
use Rattle.lg_outside.specs.Traffic.{Traffic}
use Rattle.link_packets.specs.Reading.{IsPartOf, ReadsPacket, Stops, between, end_at, faulty, longest_packet, no_memory}
use Rattle.link_packets.specs.declared.reading.ReadEnd.{ReadEnd}
use Rattle.link_packets.specs.declared.reading.ReadEnd.TheVariants.{Faulty}
use Rattle.link_packets.specs.Moving.{Moved}
use Rattle.packet_stream.specs.declared.limits.TheConstants.{MAX_PAYLOAD}

-- a front that is sound and no packet is unfinished
pub part-of : (f : Front) → IsSound f → (IsWhole f → ⊥) → (missing : ℕ) × (f ≡ Part missing)
part-of (Whole first last payload behind) s w = absurd (w (tt {0}))
part-of (Part missing) s w = (missing, refl)
part-of (Fault fault) s w = absurd s

-- no full piece fits
no-full : (full : List (List ℕ)) → AllFull full → length (concat full) ≤ MAX_PAYLOAD → full ≡ []
no-full [] each fits = refl
no-full (piece ∷ full) each fits = absurd (omega (arith, each.0, fits, length-append piece (concat full)))

header-length : (size id : ℕ) → length (header_text size id) ≡ 4
header-length size id = refl

-- a packet has few bytes
pub packet-short : (want : Want) (first last : ℕ) (payload head : List ℕ) → IsPacket MAX_PAYLOAD want first last payload head → length head ≤ longest_packet
packet-short want first last payload head p = at p.full p.each_full p.joined p.laid_out where
  at : (full : List (List ℕ)) → AllFull full → payload ≡ concat (full ++ p.ending ∷ []) → head ≡ pieces_text first (full ++ p.ending ∷ []) → length head ≤ longest_packet
  at [] each joined laid =
      let e : length payload ≡ length p.ending + 0 = ap (λ (l : List ℕ). length l) joined ∙ length-append p.ending [] in
      omega (arith, ap (λ (l : List ℕ). length l) laid, length-append (header_text (length p.ending) first) (p.ending ++ []), length-append p.ending [], header-length (length p.ending) first, e, p.fits)
  at (piece ∷ full) each joined laid =
      absurd (omega (arith, each.0, p.fits, ap (λ (l : List ℕ). length l) joined, length-append piece (concat (full ++ p.ending ∷ []))))

-- so has less than one, and some are missing
cut-short : (room : ℕ) (want : Want) (missing : ℕ) (present : List ℕ) → room ≤ MAX_PAYLOAD → IsCut room want missing present → (length present < longest_packet) × (0 < missing)
cut-short room want missing present small cut = ⊎_elim {C = (length present < longest_packet) × (0 < missing)}
    (λ (h : (length present < 4) × (length present + missing ≡ 4)). (omega (arith, h.0), omega (arith, h.0, h.1)))
    (λ (h : (size id : ℕ) × (some : List ℕ) × (present ≡ header_text size id ++ some) × (size < 16777216) × _ × (size ≤ room) × (length some < size) × (length some + missing ≡ size)). (
      omega (arith, ap (λ (l : List ℕ). length l) h.3, length-append (header_text h.0 h.1) h.2, header-length h.0 h.1, h.6, h.7, small),
      omega (arith, h.7, h.8),
    ))
    cut

pub unfinished-short : (want : Want) (missing : ℕ) (held : List ℕ) → IsUnfinished MAX_PAYLOAD want missing held → (length held < longest_packet) × (0 < missing)
unfinished-short want missing held u =
    let begun = u.begun in
    let none : begun.full ≡ [] = no-full begun.full begun.each_full (omega (arith, begun.total_is, begun.fits)) in
    let nothing : u.before ≡ [] = begun.laid_out ∙ ap (λ (full : List (List ℕ)). pieces_text begun.first full) none in
    let held-is : held ≡ u.present = u.laid_out ∙ ap (λ (before : List ℕ). before ++ u.present) nothing in
    let short = cut-short (MAX_PAYLOAD - u.total) u.next missing u.present (omega arith) u.cut in
    (subst (λ (l : List ℕ). length l < longest_packet) (sym held-is) short.0, short.1)

-- a reader that has a part of a packet
pub record IsPartRead (begun now : Framing) : Type 0 where
  pub same : now ≡ record begun { held = now.held }
  pub missing : ℕ
  pub part : front_of now ≡ Part missing

-- all bytes that were taken are of the unfinished packet
pub held_of_part : (v : Framing) (missing : ℕ) → front_of v ≡ Part missing → held_length v ≡ length v.held
held_of_part v missing is = ap (λ (f : Front). unfinished_length f (length v.held)) is

-- before the first byte
pub part-none : (begun : Framing) (id place : ℕ) → begun ≡ between id place → IsPartRead begun begun
part-none begun id place is = record {
  same = refl;
  missing = 4;
  part = ap (λ (v : Framing). front_of v) is ∙ front-nothing MAX_PAYLOAD (Exactly id) place;
}

-- bytes were taken
pub part-taken : (begun old : Framing) (piece : List ℕ) (count : ℕ) (now : Framing) → IsPartRead begun old → Takes old piece count now → (IsWhole (front_of now) → ⊥) → IsPartRead begun now
part-taken begun old piece count now part takes open_ =
    let found = part-of (front_of now) takes.sound open_ in
    record {
      same = takes.grown ∙ ap (λ (v : Framing). with_bytes v (due_bytes old piece)) part.same ∙ ap (λ (l : List ℕ). record begun { held = l }) (sym (ap (λ (v : Framing). v.held) takes.grown));
      missing = found.0;
      part = found.1;
    }

-- all of a piece was taken that is no longer than what was missing
pub all-taken : (old : Framing) (piece : List ℕ) (now : Framing) → length piece ≤ missing_of (front_of old) → now ≡ with_bytes old (due_bytes old piece) → now ≡ with_bytes old piece
all-taken old piece now small grown = grown ∙ ap (λ (l : List ℕ). with_bytes old l) (take_all (missing_of (front_of old)) piece small)

abbrev pub partly : (id place : ℕ) → List ℕ → Framing
partly id place held = record { limit = MAX_PAYLOAD; want = Exactly id; start = place; held = held }

partly-is : (begun now : Framing) (id place : ℕ) → begun ≡ between id place → now ≡ record begun { held = now.held } → now ≡ partly id place now.held
partly-is begun now id place is same = same ∙ ap (λ (v : Framing). let w : Framing = record v { held = now.held } in w) is

unfinished : (begun now : Framing) (id place : ℕ) → begun ≡ between id place → (part : IsPartRead begun now) → IsReading now → IsUnfinished MAX_PAYLOAD (Exactly id) part.missing now.held
unfinished begun now id place is part reading =
    let now-is = partly-is begun now id place is part.same in
    let shown : front MAX_PAYLOAD (Exactly id) place now.held ≡ Part part.missing = sym (ap (λ (v : Framing). front_of v) now-is) ∙ part.part in
    subst (λ (f : Front). IsFront MAX_PAYLOAD (Exactly id) place now.held f) shown (subst (λ (v : Framing). IsReading v) now-is reading)

-- what was read is less than a packet
pub part-is : (begun now : Framing) (id place : ℕ) → begun ≡ between id place → IsPartRead begun now → IsReading now → IsPartOf id place now.held
part-is begun now id place is part reading =
    let now-is = partly-is begun now id place is part.same in
    record {
      missing = part.missing;
      unfinished = unfinished begun now id place is part reading;
      found = sym (ap (λ (v : Framing). front_of v) now-is) ∙ part.part;
    }

-- at least one byte is missing, and few were read
pub part-short : (begun now : Framing) (id place : ℕ) → begun ≡ between id place → IsPartRead begun now → IsReading now
    → (length now.held < longest_packet) × (0 < missing_of (front_of now))
part-short begun now id place is part reading =
    let short = unfinished-short (Exactly id) part.missing now.held (unfinished begun now id place is part reading) in
    (short.0, subst (λ (f : Front). 0 < missing_of f) (sym part.part) short.1)

-- what was read shows a fault
pub part-faulty : (begun now : Framing) (id place : ℕ) (fault : FrameFault) → begun ≡ between id place → now ≡ record begun { held = now.held } → IsReading now → front_of now ≡ Fault fault
    → IsFault MAX_PAYLOAD (Exactly id) place fault now.held
part-faulty begun now id place fault is same reading shown =
    let now-is = partly-is begun now id place is same in
    let found : front MAX_PAYLOAD (Exactly id) place now.held ≡ Fault fault = sym (ap (λ (v : Framing). front_of v) now-is) ∙ shown in
    subst (λ (f : Front). IsFront MAX_PAYLOAD (Exactly id) place now.held f) found (subst (λ (v : Framing). IsReading v) now-is reading)

-- the packet is taken out
pub part-packet : (begun v : Framing) (id place : ℕ) (before after : Option Traffic) (packet : Packet) (now : Framing) → begun ≡ between id place → v ≡ record begun { held = v.held }
    → Moved before after v.held [] → TakesPacket v packet now → ReadsPacket id place before after packet now
part-packet begun v id place before after packet now is same moved taken =
    let v-is = partly-is begun v id place is same in
    let is-packet : IsPacket MAX_PAYLOAD (Exactly id) packet.first packet.last packet.payload v.held =
    subst (λ (w : Framing). IsPacket w.limit w.want packet.first packet.last packet.payload v.held) v-is taken.is_packet in
    record {
      head = v.held;
      moved = moved;
      is_packet = is-packet;
      found = sym (ap (λ (w : Framing). front_of w) v-is) ∙ taken.whole;
      at_is = taken.at_start ∙ ap (λ (w : Framing). w.start) v-is;
      short = packet-short (Exactly id) packet.first packet.last packet.payload v.held is-packet;
      now_is = taken.next_is ∙ ap (λ (w : Framing). let x : Framing = record { limit = w.limit; want = Exactly (id_after packet.last); start = w.start + length v.held; held = [] } in x) v-is;
    }

-- a piece was taken that is no longer than what was missing
pub part-grown : (begun old : Framing) (piece : List ℕ) (now : Framing) → IsPartRead begun old → length piece ≤ missing_of (front_of old) → now ≡ with_bytes old (due_bytes old piece)
    → (now.held ≡ old.held ++ piece) × (now ≡ record begun { held = now.held })
part-grown begun old piece now part small grown =
    let all = all-taken old piece now small grown in
    let held-is : now.held ≡ old.held ++ piece = ap (λ (v : Framing). v.held) all in (
      held-is,
      all ∙ ap (λ (v : Framing). with_bytes v piece) part.same ∙ ap (λ (l : List ℕ). let w : Framing = record begun { held = l } in w) (sym held-is),
    )

shows-fault : (begun old : Framing) (id place : ℕ) (before after : Option Traffic) (piece : List ℕ) (fault : FrameFault) (now : Framing) (Rises : Type 0) → begun ≡ between id place → IsPartRead begun old
    → Moved before after (old.held ++ piece) [] → length piece ≤ missing_of (front_of old) → now ≡ with_bytes old (due_bytes old piece) → front_of now ≡ Fault fault → IsReading now
    → Stops id place before after Rises (Faulty fault)
shows-fault begun old id place before after piece fault now Rises is part moved small grown shown reading =
    let step = part-grown begun old piece now part small grown in
    let now-is = partly-is begun now id place is step.1 in
    faulty now.held fault (subst (λ (l : List ℕ). Moved before after l []) (sym step.0) moved) (part-faulty begun now id place fault is step.1 reading shown)
    (sym (ap (λ (v : Framing). front_of v) now-is) ∙ shown)

-- the reader refused what was read
refused-at : (begun old : Framing) (id place : ℕ) (before after : Option Traffic) (piece : List ℕ) (fault : FrameFault) (now : Framing) (Rises : Type 0) → begun ≡ between id place → IsPartRead begun old → IsReading old
    → Moved before after (old.held ++ piece) [] → length piece ≤ missing_of (front_of old) → Refuses old piece fault now → IsReading now → Stops id place before after Rises (end_at fault)
refused-at begun old id place before after piece Memory now Rises is part was moved small refused reading =
    no_memory old.held piece moved (part-is begun old id place is part was)
refused-at begun old id place before after piece (TooLarge at) now Rises is part was moved small refused reading =
    shows-fault begun old id place before after piece (TooLarge at) now Rises is part moved small refused.0 refused.1 reading
refused-at begun old id place before after piece (OutOfOrder at want got) now Rises is part was moved small refused reading =
    shows-fault begun old id place before after piece (OutOfOrder at want got) now Rises is part moved small refused.0 refused.1 reading

pub stops-at : (begun old : Framing) (id place : ℕ) (before after : Option Traffic) (piece : List ℕ) (fault : FrameFault) (now : Framing) (Rises : Type 0) (end : ReadEnd) → begun ≡ between id place
    → IsPartRead begun old → IsReading old → Moved before after (old.held ++ piece) [] → length piece ≤ missing_of (front_of old) → Refuses old piece fault now → IsReading now → end ≡ end_at fault
    → Stops id place before after Rises end
stops-at begun old id place before after piece fault now Rises end is part was moved small refused reading end-is =
    subst (λ (e : ReadEnd). Stops id place before after Rises e) (sym end-is) (refused-at begun old id place before after piece fault now Rises is part was moved small refused reading)
