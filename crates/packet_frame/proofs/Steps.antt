-- What each step of a reader leaves.
use Rattle.std.proofs.Common.{◌≡◌, ℕ, zero, suc, ◌+◌, ◌-◌, ◌*◌, ◌^◌, ◌<◌, ◌≤◌, ◌↔◌, ◌⊎◌, List, [], ◌∷◌, ◌++◌, length, take, drop, min, refl, sym, ap, ◌∙◌, subst, inl, inr, arith, length-append, length-drop, append-nil}
use Rattle.std.specs.Global.{Vec}
use Rattle.std.proofs.lemmas.Bool.{cases_lt}
use Rattle.std.proofs.lemmas.List.{length-take-le, drop_all, take_all, take_min, drop-append-le, length-take, nil_from_length}
use Rattle.packet_frame.specs.declared.packets.Want.{Want}
use Rattle.packet_frame.specs.declared.packets.Want.TheVariants.{Exactly}
use Rattle.packet_frame.specs.declared.packets.FrameFault.{FrameFault}
use Rattle.packet_frame.specs.declared.packets.FrameFault.TheVariants.{TooLarge, OutOfOrder, Memory}
use Rattle.packet_frame.specs.declared.progress.Progress.{Progress}
use Rattle.packet_frame.specs.declared.progress.Stage.{Stage}
use Rattle.packet_frame.specs.declared.progress.Stage.TheVariants.{Header, Payload, Ready, Failed}
use Rattle.packet_frame.specs.Packets.{full_size, id_after, id_at, header_text, pieces_text, Wants, Begins, want_after, IsPacket, IsRefused, IsFault, IsCut}
use Rattle.packet_frame.specs.Front.{Front, Whole, Part, Fault, IsFront}
use Rattle.packet_frame.specs.Framing.{Framing, place_of, front_of, unfinished_length, held_length, after_expect, with_bytes, missing_of, due_bytes, IsSound, IsWhole, Takes, Refuses, TakesPacket}
use Rattle.packet_frame.specs.Progress.{full_pieces, present_payload, done_pieces, framing, header_place, IsAdmitted, Stands, IsProgress, IsBetween}
use Rattle.packet_frame.proofs.Fronts.{front-nothing}
use Rattle.packet_frame.proofs.Readings.{begins-wanted, pieces_text-push, front-fault}
use Rattle.packet_frame.proofs.Pieces.{length-laid_pieces, length_held, length-full_pieces, full_pieces-push, full_pieces-append, id_at-after}
use Rattle.packet_frame.proofs.Standing.{packet-ready, found-ready, found-payload, found-header, fault-refused, payload-grown, header-grown}

-- what holds of the first id once a header is taken
pub record TakesId (count : ℕ) (payload : List ℕ) (want : Want) (first id first' : ℕ) : Type 0 where
  pub wanted : Wants want first'
  pub last_is : id ≡ id_at first' count
  pub laid_is : pieces_text first' (full_pieces count payload) ≡ pieces_text first (full_pieces count payload)
  pub next_is : want_after want first (full_pieces count payload) ≡ want_after want first' (full_pieces count payload)

pub takes_id : (count : ℕ) (payload : List ℕ) (want : Want) (first id first' : ℕ) → (count ≡ 0 → first' ≡ id) → (0 < count → first' ≡ first) →
    Begins want first (full_pieces count payload) → Wants (want_after want first (full_pieces count payload)) id → TakesId count payload want first id first'
unfolding full_pieces
takes_id zero payload want first id first' none some begins wanted = record {
  wanted = subst (Wants want) (sym (none refl)) wanted;
  last_is = sym (none refl);
  laid_is = refl;
  next_is = refl;
}
takes_id (suc count) payload want first id first' none some begins wanted =
    let same : first' ≡ first = some (omega arith) in
    let rest = full_pieces count (drop full_size payload) in
    record {
      wanted = subst (Wants want) (sym same) begins;
      last_is = wanted ∙ ap (id_at (id_after first)) (length-full_pieces count (drop full_size payload)) ∙ ap (λ i. id_at (id_after i) count) (sym same);
      laid_is = ap (λ i. pieces_text i (take full_size payload ∷ rest)) same;
      next_is = ap (λ i. Exactly (id_at (id_after i) (length rest))) (sym same);
    }

pub record Begun (p : Progress) (bytes : List ℕ) (p' : Progress) : Type 0 where
  pub sound : IsProgress p'
  pub taken : framing p' ≡ record (framing p) { held = pieces_text p.first (done_pieces p) ++ bytes }
  pub no_fault : IsSound (front_of (framing p'))

abbrev pub begun : Progress → List ℕ → ℕ → ℕ → Stage → Progress
begun p bytes id first stage = record p { first = first; last = id; header = bytes; seen = 4; stage = stage }

-- a header was taken
pub begun-piece : (p : Progress) (bytes : List ℕ) (size id first' : ℕ) (stage' : Stage) → IsProgress p → p.stage ≡ Header → header_place p + 4 ≤ 2 ^ 63 →
    bytes ≡ header_text size id → size ≤ full_size → Wants p.next id → p.full * full_size + size ≤ p.limit →
    (p.full ≡ 0 → first' ≡ id) → (0 < p.full → first' ≡ p.first) → (size ≡ 0 → stage' ≡ Ready) → (0 < size → stage' ≡ Payload size) →
    Begun p bytes (begun p bytes id first' stage')
begun-piece p bytes size id first' stage' h at_header in_place is in_range wanted fits none some ready payload =
    let p' = begun p bytes id first' stage' in
    let at_rest = subst (Stands p) at_header h.stands in
    let taking = takes_id p.full p.payload.items p.want p.first id first' none some h.begins (subst (λ want. Wants want id) h.next_is wanted) in
    let four : length bytes ≡ 4 = ap length is in
    let admitted : IsAdmitted p' size = record {
      seen_all = refl;
      header_is = is;
      wanted = taking.wanted;
      last_is = taking.last_is;
      in_range = in_range;
      fits = fits;
    } in
    let held_length = length_held first' p.full 4 bytes p.payload.items (omega (arith, four)) h.enough in
    let sound : (stands : Stands p' stage') → IsProgress p' = λ stands. record {
      four = four;
      seen_in = omega arith;
      begins = begins-wanted p.want first' (done_pieces p) taking.wanted;
      next_is = h.next_is ∙ taking.next_is;
      enough = h.enough;
      fits = h.fits;
      bounded = h.bounded;
      in_place = omega (arith, held_length, in_place, length-laid_pieces p.first p.full p.payload.items h.enough, at_rest.1);
      stands = stands;
    } in
    let nothing : present_payload p ≡ [] = drop_all (p.full * full_size) p.payload.items (omega (arith, at_rest.1)) in
    let taken : framing p' ≡ record (framing p) { held = pieces_text p.first (done_pieces p) ++ bytes } =
    ap (λ pieces. record (framing p) { held = pieces ++ (take 4 bytes ++ present_payload p) }) taking.laid_is
    ∙ ap (λ part. record (framing p) { held = pieces_text p.first (done_pieces p) ++ (take 4 bytes ++ part) }) nothing
    ∙ ap (λ head. record (framing p) { held = pieces_text p.first (done_pieces p) ++ head }) (append-nil (take 4 bytes) ∙ take_all 4 bytes (omega (arith, four))) in
    elim (cases_lt 0 size) [
      | inl more ↦
          let stands : Stands p' stage' = subst (Stands p') (sym (payload more)) (admitted, omega (arith, at_rest.1)) in
          record {
            sound = sound stands;
            taken = taken;
            no_fault = subst IsSound (sym (found-payload p' size (sound stands) admitted (omega (arith, at_rest.1)))) tt;
          }
      | inr empty ↦
          let stands : Stands p' stage' = subst (Stands p') (sym (ready (omega arith))) (size, admitted, omega arith, omega (arith, at_rest.1)) in
          record {
            sound = sound stands;
            taken = taken;
            no_fault = subst IsSound (sym (found-ready p' size (sound stands) admitted (omega arith) (omega (arith, at_rest.1)))) tt;
          }
    ]

-- a full piece was taken
abbrev pub ended : Progress → Want → ℕ → Progress
ended p next full = record p { next = next; full = full; seen = 0; stage = Header }

pub want_after-pieces : (count : ℕ) (payload : List ℕ) (want : Want) (first : ℕ) → want_after want first (full_pieces (suc count) payload) ≡ Exactly (id_at (id_after first) count)
unfolding full_pieces
want_after-pieces count payload want first = ap (λ n. Exactly (id_at (id_after first) n)) (length-full_pieces count (drop full_size payload))

pub record Ended (p : Progress) (p' : Progress) : Type 0 where
  pub sound : IsProgress p'
  pub same : framing p' ≡ framing p
  pub no_fault : IsSound (front_of (framing p'))

pub ended-full-suc : (p : Progress) → IsBetween p full_size → Ended p (ended p (Exactly (id_after p.last)) (suc p.full))
ended-full-suc p h =
    let p' = ended p (Exactly (id_after p.last)) (suc p.full) in
    let payload = p.payload.items in
    let admitted = h.admitted in
    let pieces = full_pieces-push p.full payload h.all in
    let part_length : length (present_payload p) ≡ full_size = omega (arith, length-drop (p.full * full_size) payload, h.all) in
    let nothing : drop (suc p.full * full_size) payload ≡ [] = drop_all (suc p.full * full_size) payload (omega (arith, h.all)) in
    let head_is : take p.seen p.header ≡ header_text full_size p.last =
    ap (λ n. take n p.header) admitted.seen_all ∙ take_all 4 p.header (omega (arith, h.four)) ∙ admitted.header_is in
    let laid_is : pieces_text p.first (full_pieces (suc p.full) payload) ≡ pieces_text p.first (done_pieces p) ++ (take p.seen p.header ++ present_payload p) =
    ap (pieces_text p.first) pieces
    ∙ pieces_text-push p.first (done_pieces p) (present_payload p)
    ∙ ap (λ n. pieces_text p.first (done_pieces p) ++ (header_text n (id_at p.first (length (done_pieces p))) ++ present_payload p)) part_length
    ∙ ap (λ id. pieces_text p.first (done_pieces p) ++ (header_text full_size id ++ present_payload p)) (ap (id_at p.first) (length-full_pieces p.full payload) ∙ sym admitted.last_is)
    ∙ ap (λ head. pieces_text p.first (done_pieces p) ++ (head ++ present_payload p)) (sym head_is) in
    let same : framing p' ≡ framing p =
    ap (λ part. record (framing p) { held = pieces_text p.first (full_pieces (suc p.full) payload) ++ part }) nothing
    ∙ ap (λ bytes. record (framing p) { held = bytes }) (append-nil (pieces_text p.first (full_pieces (suc p.full) payload)) ∙ laid_is) in
    let sound : IsProgress p' = record {
      four = h.four;
      seen_in = omega arith;
      begins = begins-wanted p.want p.first (full_pieces (suc p.full) payload) admitted.wanted;
      next_is =
          ap Exactly (ap id_after admitted.last_is ∙ sym (id_at-after p.first p.full))
          ∙ sym (want_after-pieces p.full payload p.want p.first);
      enough = omega (arith, h.all);
      fits = omega (arith, admitted.fits);
      bounded = h.bounded;
      in_place = subst (λ v. place_of v ≤ 2 ^ 63) (sym same) h.in_place;
      stands = (omega arith, omega (arith, h.all));
    } in
    record { sound = sound; same = same; no_fault = subst IsSound (sym (found-header p' sound (omega arith) (omega (arith, h.all)))) tt }

pub ended-full : (p : Progress) → IsBetween p full_size → (count : ℕ) → count ≡ suc p.full → Ended p (ended p (Exactly (id_after p.last)) count)
ended-full p h count is = subst (λ n. Ended p (ended p (Exactly (id_after p.last)) n)) (sym is) (ended-full-suc p h)

-- the last piece of a packet was taken
pub ended-short : (p : Progress) (size : ℕ) → IsBetween p size → size < full_size → Ended p (record p { stage = Ready })
ended-short p size h less =
    let p' = record p { stage = Ready } in
    let admitted = h.admitted in
    let admitted' : IsAdmitted p' size = record {
      seen_all = admitted.seen_all;
      header_is = admitted.header_is;
      wanted = admitted.wanted;
      last_is = admitted.last_is;
      in_range = admitted.in_range;
      fits = admitted.fits;
    } in
    let sound : IsProgress p' = record {
      four = h.four;
      seen_in = omega (arith, admitted.seen_all);
      begins = h.begins;
      next_is = h.next_is;
      enough = omega (arith, h.all);
      fits = omega (arith, admitted.fits);
      bounded = h.bounded;
      in_place = h.in_place;
      stands = (size, admitted', less, h.all);
    } in
    record { sound = sound; same = refl; no_fault = subst IsSound (sym (found-ready p' size sound admitted' less h.all)) tt }

-- bytes of the payload were taken
pub paid : (p : Progress) (w : Vec ℕ) (more : List ℕ) → p.full * full_size ≤ length p.payload.items → w.items ≡ p.payload.items ++ more → framing (record p { payload = w }) ≡ with_bytes (framing p) more
paid p w more enough is =
    let payload = p.payload.items in
    let head = take p.seen p.header in
    ap (λ xs. record (framing p) { held = pieces_text p.first (full_pieces p.full xs) ++ (head ++ drop (p.full * full_size) xs) }) is
    ∙ ap (λ ps. record (framing p) { held = pieces_text p.first ps ++ (head ++ drop (p.full * full_size) (payload ++ more)) }) (full_pieces-append p.full payload more enough)
    ∙ ap (λ part. record (framing p) { held = pieces_text p.first (done_pieces p) ++ (head ++ part) }) (drop-append-le (p.full * full_size) payload more enough)
    ∙ ap (λ bytes. record (framing p) { held = bytes }) (payload-grown (pieces_text p.first (done_pieces p)) head (present_payload p) more)

-- bytes of the header were taken
abbrev pub with_header : Progress → List ℕ → ℕ → Stage → Progress
with_header p head seen stage = record p { header = head; seen = seen; stage = stage }

-- what is taken of a piece, where so many bytes are missing
pub due-is : (v : Framing) (piece : List ℕ) (missing count : ℕ) → front_of v ≡ Part missing → count ≡ min (length piece) missing → due_bytes v piece ≡ take count piece
due-is v piece missing count is counted =
    ap (λ f. take (missing_of f) piece) is
    ∙ sym (take_min missing piece)
    ∙ ap (λ n. take n piece) (omega (arith, counted))

pub due-length : (v : Framing) (piece : List ℕ) (missing count : ℕ) → front_of v ≡ Part missing → count ≡ min (length piece) missing → count ≡ length (due_bytes v piece)
due-length v piece missing count is counted =
    sym (ap length (due-is v piece missing count is counted) ∙ length-take-le count piece (omega (arith, counted)))

pub header-taken : (p : Progress) (piece : List ℕ) (count : ℕ) (head : List ℕ) (seen : ℕ) (stage : Stage) → IsProgress p → p.stage ≡ Header →
    count ≡ min (length piece) (4 - p.seen) → take seen head ≡ take p.seen p.header ++ take count piece →
    framing (with_header p head seen stage) ≡ with_bytes (framing p) (due_bytes (framing p) piece)
header-taken p piece count head seen stage h at_header counted is =
    let at_rest = subst (Stands p) at_header h.stands in
    let due_is = due-is (framing p) piece (4 - p.seen) count (found-header p h at_rest.0 at_rest.1) counted in
    ap (λ bytes. record (framing p) { held = pieces_text p.first (done_pieces p) ++ (bytes ++ present_payload p) }) is
    ∙ ap (λ bytes. record (framing p) { held = bytes })
    (header-grown (pieces_text p.first (done_pieces p)) (take p.seen p.header) (present_payload p) (take count piece) (omega (arith, at_rest.1, length-drop (p.full * full_size) p.payload.items)))
    ∙ ap (λ more. with_bytes (framing p) more) (sym due_is)

pub header-counted : (p : Progress) (piece : List ℕ) (count : ℕ) → IsProgress p → p.stage ≡ Header →
    count ≡ min (length piece) (4 - p.seen) → count ≡ length (due_bytes (framing p) piece)
header-counted p piece count h at_header counted =
    let at_rest = subst (Stands p) at_header h.stands in
    due-length (framing p) piece (4 - p.seen) count (found-header p h at_rest.0 at_rest.1) counted

-- a header goes on
pub header-goes-on : (p : Progress) (piece : List ℕ) (count : ℕ) (head : List ℕ) → IsProgress p → p.stage ≡ Header → count ≡ min (length piece) (4 - p.seen) →
    take (p.seen + count) head ≡ take p.seen p.header ++ take count piece → length head ≡ 4 → p.seen + count < 4 → place_of (framing p) + length piece ≤ 2 ^ 63 →
    Takes (framing p) piece count (framing (with_header p head (p.seen + count) p.stage))
header-goes-on p piece count head h at_header counted is four less in_place =
    let p' = with_header p head (p.seen + count) p.stage in
    let at_rest = subst (Stands p) at_header h.stands in
    let grown = header-taken p piece count head (p.seen + count) p.stage h at_header counted is in
    let count_is = header-counted p piece count h at_header counted in
    let stands : Stands p' p.stage = subst (Stands p') (sym at_header) (less, at_rest.1) in
    let sound : IsProgress p' = record {
      four = four;
      seen_in = omega arith;
      begins = h.begins;
      next_is = h.next_is;
      enough = h.enough;
      fits = h.fits;
      bounded = h.bounded;
      in_place = subst (λ v. place_of v ≤ 2 ^ 63) (sym grown)
          (omega (arith, in_place, count_is, counted, length-append (framing p).held (due_bytes (framing p) piece)));
      stands = stands;
    } in
    record { grown = grown; counted = count_is; sound = subst IsSound (sym (found-header p' sound less at_rest.1)) tt }

-- a header ends: what was taken then
pub header-ended : (p : Progress) (piece : List ℕ) (count : ℕ) (head : List ℕ) (w : Vec ℕ) → IsProgress p → p.stage ≡ Header → count ≡ min (length piece) (4 - p.seen) →
    take 4 head ≡ take p.seen p.header ++ take count piece → length head ≡ 4 → w.items ≡ p.payload.items →
    record (framing p) { held = pieces_text p.first (full_pieces p.full w.items) ++ head } ≡ with_bytes (framing p) (due_bytes (framing p) piece)
header-ended p piece count head w h at_header counted is four same =
    let at_rest = subst (Stands p) at_header h.stands in
    let nothing : present_payload p ≡ [] = drop_all (p.full * full_size) p.payload.items (omega (arith, at_rest.1)) in
    ap (λ xs. record (framing p) { held = pieces_text p.first (full_pieces p.full xs) ++ head }) same
    ∙ ap (λ bytes. record (framing p) { held = pieces_text p.first (done_pieces p) ++ bytes }) (sym (take_all 4 head (omega (arith, four))) ∙ sym (append-nil (take 4 head)))
    ∙ ap (λ part. record (framing p) { held = pieces_text p.first (done_pieces p) ++ (take 4 head ++ part) }) (sym nothing)
    ∙ header-taken p piece count head 4 p.stage h at_header counted is

-- a header is refused
pub refuses : (old : Framing) (piece : List ℕ) (room : ℕ) (next : Want) (place size id : ℕ) (fault : FrameFault) (new : Framing) → IsRefused room next place size id fault →
    new ≡ with_bytes old (due_bytes old piece) → front_of new ≡ Fault fault → Refuses old piece fault new
refuses old piece room next place size id (TooLarge at) new refused grown shown = (grown, shown)
refuses old piece room next place size id (OutOfOrder at want got) new refused grown shown = (grown, shown)
refuses old piece room next place size id Memory new refused grown shown = absurd refused

pub record Fails (p : Progress) (piece : List ℕ) (fault : FrameFault) (p' : Progress) : Type 0 where
  pub sound : IsProgress p'
  pub refused : Refuses (framing p) piece fault (framing p')

pub header-refused : (p : Progress) (piece : List ℕ) (count : ℕ) (head : List ℕ) (size id : ℕ) (fault : FrameFault) → IsProgress p → p.stage ≡ Header →
    count ≡ min (length piece) (4 - p.seen) → take 4 head ≡ take p.seen p.header ++ take count piece → length head ≡ 4 → place_of (framing p) + length piece ≤ 2 ^ 63 →
    head ≡ header_text size id → size < 16777216 → IsRefused (p.limit - p.full * full_size) p.next (header_place p) size id fault →
    Fails p piece fault (with_header p head 4 (Failed fault))
header-refused p piece count head size id fault h at_header counted is four in_place head_is in_range refused =
    let p' = with_header p head 4 (Failed fault) in
    let at_rest = subst (Stands p) at_header h.stands in
    let grown = header-taken p piece count head 4 (Failed fault) h at_header counted is in
    let count_is = header-counted p piece count h at_header counted in
    let nothing : present_payload p ≡ [] = drop_all (p.full * full_size) p.payload.items (omega (arith, at_rest.1)) in
    let bytes_are : take 4 head ++ present_payload p ≡ header_text size id =
    ap (λ part. take 4 head ++ part) nothing ∙ append-nil (take 4 head) ∙ take_all 4 head (omega (arith, four)) ∙ head_is in
    let fault_is = subst (λ bytes. IsFault p.limit p.want p.start fault (pieces_text p.first (done_pieces p) ++ bytes)) (sym bytes_are) (fault-refused p size id fault h in_range refused) in
    let shown : front_of (framing p') ≡ Fault fault = front-fault p.limit p.want p.start fault (framing p').held fault_is in
    let sound : IsProgress p' = record {
      four = four;
      seen_in = omega arith;
      begins = h.begins;
      next_is = h.next_is;
      enough = h.enough;
      fits = h.fits;
      bounded = h.bounded;
      in_place = subst (λ v. place_of v ≤ 2 ^ 63) (sym grown)
          (omega (arith, in_place, count_is, counted, length-append (framing p).held (due_bytes (framing p) piece)));
      stands = (refl, at_rest.1, fault_is);
    } in
    record { sound = sound; refused = refuses (framing p) piece (p.limit - p.full * full_size) p.next (header_place p) size id fault (framing p') refused grown shown }

-- bytes of the payload were taken
pub record Paid (p : Progress) (size : ℕ) (piece : List ℕ) (count : ℕ) (p' : Progress) : Type 0 where
  pub grown : framing p' ≡ with_bytes (framing p) (due_bytes (framing p) piece)
  pub counted : count ≡ length (due_bytes (framing p) piece)
  pub ends : count ≡ p.full * full_size + size - length p.payload.items → IsBetween p' size
  pub sound : count < p.full * full_size + size - length p.payload.items → IsProgress p'
  pub no_fault : count < p.full * full_size + size - length p.payload.items → IsSound (front_of (framing p'))

pub payload-taken : (p : Progress) (size : ℕ) (piece : List ℕ) (count : ℕ) (w : Vec ℕ) → IsProgress p → p.stage ≡ Payload size →
    count ≡ min (length piece) (p.full * full_size + size - length p.payload.items) → w.items ≡ p.payload.items ++ take count piece →
    place_of (framing p) + length piece ≤ 2 ^ 63 → Paid p size piece count (record p { payload = w })
payload-taken p size piece count w h at_payload counted is in_place =
    let p' = record p { payload = w } in
    let missing = p.full * full_size + size - length p.payload.items in
    let at_part = subst (Stands p) at_payload h.stands in
    let admitted = at_part.0 in
    let is_part = found-payload p size h admitted at_part.1 in
    let due_is = due-is (framing p) piece missing count is_part counted in
    let count_is = due-length (framing p) piece missing count is_part counted in
    let grown = paid p w (take count piece) h.enough is ∙ ap (λ more. with_bytes (framing p) more) (sym due_is) in
    let longer : length w.items ≡ length p.payload.items + count =
    omega (arith, ap length is, length-append p.payload.items (take count piece), length-take-le count piece (omega (arith, counted))) in
    let pieces_same : full_pieces p.full w.items ≡ done_pieces p = ap (full_pieces p.full) is ∙ full_pieces-append p.full p.payload.items (take count piece) h.enough in
    let begins = subst (Begins p.want p.first) (sym pieces_same) h.begins in
    let next_is = h.next_is ∙ ap (want_after p.want p.first) (sym pieces_same) in
    let placed = subst (λ v. place_of v ≤ 2 ^ 63) (sym grown)
    (omega (arith, in_place, count_is, counted, length-append (framing p).held (due_bytes (framing p) piece))) in
    let admitted' : IsAdmitted p' size = record {
      seen_all = admitted.seen_all;
      header_is = admitted.header_is;
      wanted = admitted.wanted;
      last_is = admitted.last_is;
      in_range = admitted.in_range;
      fits = admitted.fits;
    } in
    let sound : count < missing → IsProgress p' = λ less.
    let stands : Stands p' p.stage = subst (Stands p') (sym at_payload) (admitted', omega (arith, longer, less)) in
    record {
      four = h.four;
      seen_in = h.seen_in;
      begins = begins;
      next_is = next_is;
      enough = omega (arith, longer, h.enough);
      fits = h.fits;
      bounded = h.bounded;
      in_place = placed;
      stands = stands;
    } in
    record {
      grown = grown;
      counted = count_is;
      ends = λ all. record {
        four = h.four;
        begins = begins;
        bounded = h.bounded;
        in_place = placed;
        admitted = admitted';
        all = omega (arith, longer, all, at_part.1, h.enough);
        next_is = next_is;
      };
      sound = sound;
      no_fault = λ less. subst IsSound (sym (found-payload p' size (sound less) admitted' (omega (arith, longer, less)))) tt;
    }

-- nothing is taken where a packet is whole
pub ready-waits : (p : Progress) (piece : List ℕ) → IsProgress p → p.stage ≡ Ready → Takes (framing p) piece 0 (framing p)
ready-waits p piece h at_ready =
    let at_end = subst (Stands p) at_ready h.stands in
    let whole = found-ready p at_end.0 h at_end.1 at_end.2 at_end.3 in
    let nothing : due_bytes (framing p) piece ≡ [] = ap (λ f. take (missing_of f) piece) whole in
    record {
      grown = ap (λ bytes. record (framing p) { held = bytes }) (sym (append-nil (framing p).held)) ∙ ap (λ more. with_bytes (framing p) more) (sym nothing);
      counted = ap length (sym nothing);
      sound = subst IsSound (sym whole) tt;
    }

-- a reader that found a fault stays
pub nothing-taken : (v : Framing) (piece : List ℕ) (fault : FrameFault) → front_of v ≡ Fault fault → v ≡ with_bytes v (due_bytes v piece)
nothing-taken v piece fault shown =
    ap (λ bytes. record v { held = bytes }) (sym (append-nil v.held)) ∙ ap (λ f. with_bytes v (take (missing_of f) piece)) (sym shown)

pub failed-again : (v : Framing) (piece : List ℕ) (fault : FrameFault) → IsFault v.limit v.want v.start fault v.held → Refuses v piece fault v
failed-again v piece (TooLarge at) shown = (nothing-taken v piece (TooLarge at) (front-fault v.limit v.want v.start (TooLarge at) v.held shown), front-fault v.limit v.want v.start (TooLarge at) v.held shown)
failed-again v piece (OutOfOrder at want got) shown =
    (nothing-taken v piece (OutOfOrder at want got) (front-fault v.limit v.want v.start (OutOfOrder at want got) v.held shown), front-fault v.limit v.want v.start (OutOfOrder at want got) v.held shown)
failed-again v piece Memory shown = absurd shown.refused

pub feed-failed : (p : Progress) (piece : List ℕ) (fault : FrameFault) → IsProgress p → p.stage ≡ Failed fault → Refuses (framing p) piece fault (framing p)
feed-failed p piece fault h at_fault =
    let stands = subst (Stands p) at_fault h.stands in
    failed-again (framing p) piece fault stands.2

-- a packet is whole where nothing more is read
pub ready-whole : (p : Progress) → IsProgress p → p.stage ≡ Ready → IsWhole (front_of (framing p))
ready-whole p h at_ready =
    let at_end = subst (Stands p) at_ready h.stands in
    subst IsWhole (sym (found-ready p at_end.0 h at_end.1 at_end.2 at_end.3)) tt

pub whole-stands : (p : Progress) → IsProgress p → (stage : Stage) → Stands p stage → IsWhole (front_of (framing p)) → stage ≡ Ready
whole-stands p h Header at_rest whole = absurd (subst IsWhole (found-header p h at_rest.0 at_rest.1) whole)
whole-stands p h (Payload size) at_part whole = absurd (subst IsWhole (found-payload p size h at_part.0 at_part.1) whole)
whole-stands p h Ready at_end whole = refl
whole-stands p h (Failed fault) at_fault whole = absurd (subst IsWhole (front-fault p.limit p.want p.start fault (framing p).held at_fault.2) whole)

pub whole-ready : (p : Progress) → IsProgress p → IsWhole (front_of (framing p)) → p.stage ≡ Ready
whole-ready p h whole = whole-stands p h p.stage h.stands whole

-- the packet is taken out
abbrev pub emptied : Progress → ℕ → Vec ℕ → Progress
emptied p place payload = record p { want = Exactly (id_after p.last); next = Exactly (id_after p.last); start = place; full = 0; seen = 0; payload = payload; stage = Header }

pub emptied-is : (p : Progress) (place : ℕ) (payload : Vec ℕ) → payload.items ≡ [] →
    framing (emptied p place payload) ≡ record { limit = p.limit; want = Exactly (id_after p.last); start = place; held = [] }
unfolding full_pieces
emptied-is p place payload none = ap (λ xs. record { limit = p.limit; want = Exactly (id_after p.last); start = place; held = xs }) none

pub emptied-sound : (p : Progress) (place : ℕ) (payload : Vec ℕ) → IsProgress p → payload.items ≡ [] → place ≤ 2 ^ 63 → IsProgress (emptied p place payload)
unfolding full_pieces
emptied-sound p place payload h none in_place = record {
  four = h.four;
  seen_in = omega arith;
  begins = tt;
  next_is = refl;
  enough = omega arith;
  fits = omega arith;
  bounded = h.bounded;
  in_place = subst (λ v. place_of v ≤ 2 ^ 63) (sym (emptied-is p place payload none)) (omega arith);
  stands = (omega arith, ap length none);
}

pub takes-packet : (p : Progress) (bytes : List ℕ) (place : ℕ) (payload : Vec ℕ) → IsProgress p → p.stage ≡ Ready →
    bytes ≡ p.payload.items → place ≡ place_of (framing p) → payload.items ≡ [] →
    TakesPacket (framing p) (record { first = p.first; last = p.last; at = p.start; payload = bytes }) (framing (emptied p place payload))
takes-packet p bytes place payload h at_ready all place_is none =
    let at_end = subst (Stands p) at_ready h.stands in
    let after = λ (n : ℕ). let v : Framing = record { limit = p.limit; want = Exactly (id_after p.last); start = n; held = [] } in v in
    let next = emptied-is p place payload none ∙ ap after place_is in
    record {
      whole = found-ready p at_end.0 h at_end.1 at_end.2 at_end.3 ∙ ap (λ xs. Whole p.first p.last xs []) (sym all);
      is_packet = subst (λ xs. IsPacket p.limit p.want p.first p.last xs (framing p).held) (sym all) (packet-ready p at_end.0 h at_end.1 at_end.2 at_end.3);
      at_start = refl;
      next_is = next;
      between = ap front_of next ∙ front-nothing p.limit (Exactly (id_after p.last)) (place_of (framing p));
    }

-- a fault was found where nothing more is read for that
pub fault-stands : (p : Progress) → IsProgress p → (fault : FrameFault) → front_of (framing p) ≡ Fault fault → (stage : Stage) → Stands p stage → stage ≡ Failed fault
fault-stands p h fault shown Header at_rest = let is = found-header p h at_rest.0 at_rest.1 in cc
fault-stands p h fault shown (Payload size) at_part = let is = found-payload p size h at_part.0 at_part.1 in cc
fault-stands p h fault shown Ready at_end = let is = found-ready p at_end.0 h at_end.1 at_end.2 at_end.3 in cc
fault-stands p h fault shown (Failed other) at_fault = let is = front-fault p.limit p.want p.start other (framing p).held at_fault.2 in cc

pub fault-stage : (p : Progress) → IsProgress p → (fault : FrameFault) → front_of (framing p) ≡ Fault fault → p.stage ≡ Failed fault
fault-stage p h fault shown = fault-stands p h fault shown p.stage h.stands

-- at least one byte is missing
pub missing-more : (room : ℕ) (want : Want) (missing : ℕ) (present : List ℕ) → IsCut room want missing present → 0 < missing
missing-more room want missing present cut = elim cut [
  | inl short ↦ omega (arith, short.0, short.1)
  | inr (size, id, some, is, in_range, wanted, fits, less, missing_is) ↦ omega (arith, less, missing_is)
]

pub fault-length : (limit : ℕ) (want : Want) (place : ℕ) (fault : FrameFault) (bytes : List ℕ) → IsFault limit want place fault bytes → 4 ≤ length bytes
fault-length limit want place fault bytes shown =
    omega (arith, ap length shown.laid_out, length-append shown.before (header_text shown.size shown.id ++ shown.behind))

-- nothing is taken exactly where there is nothing to take, or a packet waits
pub takes-nothing : (old : Framing) (f : Front) → front_of old ≡ f → IsFront old.limit old.want old.start old.held f → (piece : List ℕ) (count : ℕ) (new : Framing) → Takes old piece count new →
    (count ≡ 0) ↔ ((piece ≡ []) ⊎ IsWhole f)
takes-nothing old (Whole first last payload behind) is reading piece count new takes =
    let none : count ≡ 0 = takes.counted ∙ ap (λ f. length (take (missing_of f) piece)) is in
    (λ _. inr tt, λ _. none)
takes-nothing old (Part missing) is reading piece count new takes =
    let some = missing-more (old.limit - reading.total) reading.next missing reading.present reading.cut in
    let count_is : count ≡ min missing (length piece) = takes.counted ∙ ap (λ f. length (take (missing_of f) piece)) is ∙ length-take missing piece in
    (λ none. inl (nil_from_length piece (omega arith)), λ either. elim either [ inl empty ↦ omega (arith, ap length empty) | inr whole ↦ absurd whole ])
takes-nothing old (Fault fault) is reading piece count new takes =
    let same : new ≡ old = takes.grown ∙ sym (nothing-taken old piece fault is) in
    absurd (subst IsSound (ap front_of same ∙ is) takes.sound)

pub expects : (p : Progress) (want : Want) → IsProgress p → (stage : Stage) → Stands p stage → (IsWhole (front_of (framing p)) → ⊥) → held_length (framing p) ≡ 0 →
    record (framing p) { want = want } ≡ after_expect (front_of (framing p)) (framing p) want
expects p want h Header at_rest more none = sym (ap (λ f. after_expect f (framing p) want) (found-header p h at_rest.0 at_rest.1))
expects p want h (Payload size) at_part more none = sym (ap (λ f. after_expect f (framing p) want) (found-payload p size h at_part.0 at_part.1))
expects p want h Ready at_end more none = absurd (more (subst IsWhole (sym (found-ready p at_end.0 h at_end.1 at_end.2 at_end.3)) tt))
expects p want h (Failed fault) at_fault more none =
    let is = front-fault p.limit p.want p.start fault (framing p).held at_fault.2 in
    let taken : length (framing p).held ≡ 0 = sym (ap (λ f. unfinished_length f (length (framing p).held)) is) ∙ none in
    absurd (omega (arith, taken, fault-length p.limit p.want p.start fault (framing p).held at_fault.2))

-- how many bytes are missing, by what is read next
pub missing-header : (p : Progress) → IsProgress p → p.stage ≡ Header → missing_of (front_of (framing p)) ≡ 4 - p.seen
missing-header p h at_header =
    let stands = subst (Stands p) at_header h.stands in
    ap missing_of (found-header p h stands.0 stands.1)

pub missing-payload : (p : Progress) (size : ℕ) → IsProgress p → p.stage ≡ Payload size → missing_of (front_of (framing p)) ≡ p.full * full_size + size - length p.payload.items
missing-payload p size h at_payload =
    let stands = subst (Stands p) at_payload h.stands in
    ap missing_of (found-payload p size h stands.0 stands.1)

pub missing-ready : (p : Progress) → IsProgress p → p.stage ≡ Ready → missing_of (front_of (framing p)) ≡ 0
missing-ready p h at_ready =
    let stands = subst (Stands p) at_ready h.stands in
    ap missing_of (found-ready p stands.0 h stands.1 stands.2 stands.3)

pub missing-failed : (p : Progress) (fault : FrameFault) → IsProgress p → p.stage ≡ Failed fault → missing_of (front_of (framing p)) ≡ 0
missing-failed p fault h at_fault =
    let stands = subst (Stands p) at_fault h.stands in
    ap missing_of (front-fault p.limit p.want p.start fault (framing p).held stands.2)
