-- What the fields of a reader stand for, by what is read next.
use Rattle.std.proofs.Common.{◌≡◌, ℕ, ◌+◌, ◌-◌, ◌*◌, ◌<◌, List, [], ◌∷◌, ◌++◌, length, take, refl, sym, ap, ◌∙◌, subst, inl, inr, arith, length-append, length-drop, append_assoc, append-nil}
use Rattle.std.proofs.lemmas.List.{length-take-le, take_all}
use Rattle.packet_frame.specs.declared.packets.FrameFault.{FrameFault}
use Rattle.packet_frame.specs.declared.progress.Progress.{Progress}
use Rattle.packet_frame.specs.declared.progress.Stage.{Stage}
use Rattle.packet_frame.specs.declared.progress.Stage.TheVariants.{Header, Payload, Ready, Failed}
use Rattle.packet_frame.specs.Packets.{full_size, id_at, header_text, pieces_text, Wants, want_after, IsPacket, IsBegun, IsRefused, IsFault, IsUnfinished}
use Rattle.packet_frame.specs.Front.{Whole, Part, front, IsFront}
use Rattle.packet_frame.specs.Framing.{front_of, IsReading}
use Rattle.packet_frame.specs.Progress.{present_payload, done_pieces, framing, header_place, IsAdmitted, Stands, IsProgress}
use Rattle.packet_frame.proofs.Readings.{front-packet, front-fault, front-unfinished, want_after-wanted, concat-push, pieces_text-push}
use Rattle.packet_frame.proofs.Pieces.{length-full_pieces, full_pieces-full, concat-full_pieces, length-concat-full_pieces}

pub begun : (p : Progress) → IsProgress p → IsBegun p.limit p.want (p.full * full_size) p.next (pieces_text p.first (done_pieces p))
begun p h = record {
  first = p.first;
  full = done_pieces p;
  each_full = full_pieces-full p.full p.payload.items h.enough;
  laid_out = refl;
  begins = h.begins;
  total_is = sym (length-concat-full_pieces p.full p.payload.items h.enough);
  fits = h.fits;
  next_is = h.next_is;
}

-- the id of a header that is taken was wanted
pub last-wanted : (p : Progress) (size : ℕ) → IsProgress p → IsAdmitted p size → Wants p.next p.last
last-wanted p size h admitted =
    let last_is : id_at p.first (length (done_pieces p)) ≡ p.last = ap (id_at p.first) (length-full_pieces p.full p.payload.items) ∙ sym admitted.last_is in
    let wanted = subst (Wants (want_after p.want p.first (done_pieces p))) last_is (want_after-wanted p.want p.first (done_pieces p) admitted.wanted) in
    subst (λ want. Wants want p.last) (sym h.next_is) wanted

-- the bytes of a header that is taken
pub header-bytes : (p : Progress) (size : ℕ) → IsProgress p → IsAdmitted p size → take p.seen p.header ≡ header_text size p.last
header-bytes p size h admitted =
    ap (λ n. take n p.header) admitted.seen_all ∙ take_all 4 p.header (omega (arith, h.four)) ∙ admitted.header_is

-- within a header
pub unfinished-header : (p : Progress) → IsProgress p → p.seen < 4 → length p.payload.items ≡ p.full * full_size → IsUnfinished p.limit p.want (4 - p.seen) (framing p).held
unfinished-header p h seen none =
    let head = take p.seen p.header in
    let seen_is : length (head ++ present_payload p) ≡ p.seen =
    omega (arith, length-append head (present_payload p), length-take-le p.seen p.header (omega (arith, h.four, seen)), length-drop (p.full * full_size) p.payload.items, none) in
    record {
      before = pieces_text p.first (done_pieces p);
      total = p.full * full_size;
      next = p.next;
      begun = begun p h;
      present = head ++ present_payload p;
      laid_out = refl;
      cut = inl (omega (arith, seen_is, seen), omega (arith, seen_is, seen));
    }

-- within a piece of payload
pub unfinished-payload : (p : Progress) (size : ℕ) → IsProgress p → IsAdmitted p size → length p.payload.items < p.full * full_size + size →
    IsUnfinished p.limit p.want (p.full * full_size + size - length p.payload.items) (framing p).held
unfinished-payload p size h admitted less =
    let part_length : length (present_payload p) ≡ length p.payload.items - p.full * full_size = length-drop (p.full * full_size) p.payload.items in
    record {
      before = pieces_text p.first (done_pieces p);
      total = p.full * full_size;
      next = p.next;
      begun = begun p h;
      present = take p.seen p.header ++ present_payload p;
      laid_out = refl;
      cut = inr (
        size,
        p.last,
        present_payload p,
        ap (λ head. head ++ present_payload p) (header-bytes p size h admitted),
        omega (arith, admitted.in_range),
        last-wanted p size h admitted,
        omega (arith, admitted.fits),
        omega (arith, part_length, less, h.enough),
        omega (arith, part_length, less, h.enough),
      );
    }

-- a whole packet
pub packet-ready : (p : Progress) (size : ℕ) → IsProgress p → IsAdmitted p size → size < full_size → length p.payload.items ≡ p.full * full_size + size →
    IsPacket p.limit p.want p.first p.last p.payload.items (framing p).held
packet-ready p size h admitted not_full all =
    let ending = present_payload p in
    let part_length : length ending ≡ size = omega (arith, length-drop (p.full * full_size) p.payload.items, all) in
    let count = length-full_pieces p.full p.payload.items in
    let last_is : p.last ≡ id_at p.first (length (done_pieces p)) = admitted.last_is ∙ ap (id_at p.first) (sym count) in
    record {
      full = done_pieces p;
      ending = ending;
      each_full = full_pieces-full p.full p.payload.items h.enough;
      not_full = omega (arith, part_length, not_full);
      laid_out =
          ap (λ head. pieces_text p.first (done_pieces p) ++ (head ++ ending)) (header-bytes p size h admitted)
          ∙ ap (λ n. pieces_text p.first (done_pieces p) ++ (header_text n p.last ++ ending)) (sym part_length)
          ∙ ap (λ id. pieces_text p.first (done_pieces p) ++ (header_text (length ending) id ++ ending)) last_is
          ∙ sym (pieces_text-push p.first (done_pieces p) ending);
      joined = sym (concat-full_pieces p.full p.payload.items h.enough) ∙ sym (concat-push (done_pieces p) ending);
      wanted = admitted.wanted;
      ends_at = last_is;
      fits = omega (arith, all, admitted.fits);
    }

pub found-ready : (p : Progress) (size : ℕ) → IsProgress p → IsAdmitted p size → size < full_size → length p.payload.items ≡ p.full * full_size + size →
    front_of (framing p) ≡ Whole p.first p.last p.payload.items []
found-ready p size h admitted not_full all =
    let held = (framing p).held in
    ap (front p.limit p.want p.start) (sym (append-nil held))
    ∙ front-packet p.limit p.want p.first p.last p.payload.items held p.start [] (packet-ready p size h admitted not_full all)

pub found-header : (p : Progress) → IsProgress p → p.seen < 4 → length p.payload.items ≡ p.full * full_size → front_of (framing p) ≡ Part (4 - p.seen)
found-header p h seen none = front-unfinished p.limit p.want p.start (4 - p.seen) (framing p).held (unfinished-header p h seen none)

pub found-payload : (p : Progress) (size : ℕ) → IsProgress p → IsAdmitted p size → length p.payload.items < p.full * full_size + size →
    front_of (framing p) ≡ Part (p.full * full_size + size - length p.payload.items)
found-payload p size h admitted less =
    front-unfinished p.limit p.want p.start (p.full * full_size + size - length p.payload.items) (framing p).held (unfinished-payload p size h admitted less)

-- a header that is refused
pub fault-refused : (p : Progress) (size id : ℕ) (fault : FrameFault) → IsProgress p → size < 16777216 → IsRefused (p.limit - p.full * full_size) p.next (header_place p) size id fault →
    IsFault p.limit p.want p.start fault (pieces_text p.first (done_pieces p) ++ header_text size id)
fault-refused p size id fault h in_range refused = record {
  before = pieces_text p.first (done_pieces p);
  total = p.full * full_size;
  next = p.next;
  begun = begun p h;
  size = size;
  id = id;
  behind = [];
  laid_out = refl;
  in_range = in_range;
  refused = refused;
}

-- the bytes taken since the last packet are a packet, less than one, or show a fault
pub stands-reading : (p : Progress) → IsProgress p → (stage : Stage) → Stands p stage → IsReading (framing p)
stands-reading p h Header at_rest =
    subst (IsFront p.limit p.want p.start (framing p).held) (sym (found-header p h at_rest.0 at_rest.1)) (unfinished-header p h at_rest.0 at_rest.1)
stands-reading p h (Payload size) at_part =
    subst (IsFront p.limit p.want p.start (framing p).held) (sym (found-payload p size h at_part.0 at_part.1)) (unfinished-payload p size h at_part.0 at_part.1)
stands-reading p h Ready (size, admitted, less, all) =
    subst (IsFront p.limit p.want p.start (framing p).held) (sym (found-ready p size h admitted less all))
    ((framing p).held, sym (append-nil (framing p).held), packet-ready p size h admitted less all)
stands-reading p h (Failed fault) at_fault =
    subst (IsFront p.limit p.want p.start (framing p).held) (sym (front-fault p.limit p.want p.start fault (framing p).held at_fault.2)) at_fault.2

pub progress-reading : (p : Progress) → IsProgress p → IsReading (framing p)
progress-reading p h = stands-reading p h p.stage h.stands

-- bytes taken within a header, and within a piece of payload
pub header-grown : (bytes head part more : List ℕ) → length part ≡ 0 → bytes ++ ((head ++ more) ++ part) ≡ bytes ++ (head ++ part) ++ more
header-grown bytes head [] more none =
    ap (λ x. bytes ++ x) (append-nil (head ++ more)) ∙ sym (append_assoc bytes head more) ∙ ap (λ x. bytes ++ x ++ more) (sym (append-nil head))
header-grown bytes head (_ ∷ _) more none = absurd (omega arith)

pub payload-grown : (bytes head part more : List ℕ) → bytes ++ (head ++ (part ++ more)) ≡ bytes ++ (head ++ part) ++ more
payload-grown bytes head part more =
    ap (λ x. bytes ++ x) (sym (append_assoc head part more)) ∙ sym (append_assoc bytes (head ++ part) more)
