-- A stream has one reading, and a reader that is fed its pieces gives that.
use Rattle.std.proofs.Common.{◌≡◌, ℕ, zero, suc, ◌+◌, ◌<◌, ◌≤◌, List, [], ◌∷◌, ◌++◌, length, take, refl, sym, ap, ◌∙◌, subst, arith, length-append, append_assoc, append-nil}
use Rattle.std.specs.Prelude.{All}
use Rattle.std.proofs.Common.{get_or}
use Rattle.std.proofs.lemmas.List.{take_min, length-take, get_or-append-add}
use Rattle.packet_frame.specs.declared.packets.Want.{Want}
use Rattle.packet_frame.specs.declared.packets.Want.TheVariants.{Exactly}
use Rattle.packet_frame.specs.declared.packets.Packet.{Packet}
use Rattle.packet_frame.specs.declared.packets.FrameFault.{FrameFault}
use Rattle.packet_frame.specs.Packets.{id_after, id_at, header_text, pieces_text, Wants, IsPacket, IsFault}
use Rattle.packet_frame.specs.Front.{Front, Whole, Part, Fault, front, IsFront}
use Rattle.packet_frame.specs.Framing.{Framing, front_of, with_bytes, missing_of, due_bytes, place_of, TakesPacket}
use Rattle.packet_frame.specs.Streams.{Ending, Between, Cut, Faulty, IsEnding, AreLaid, IsStream, HasGiven, Move, Feeds, Gives, bytes_of, packets_of, IsRun}
use Rattle.packet_frame.proofs.Fronts.{front-short}
use Rattle.packet_frame.proofs.Readings.{front-packet, front-fault, front-unfinished}
use Rattle.packet_frame.proofs.Readings.{pieces_text-push}
use Rattle.packet_frame.proofs.Shown.{seen}

-- a packet with at most so many bytes and an id that is wanted, of a packet that fits another limit
pub packet-fits : (limit fits : ℕ) (want wanted : Want) (first last : ℕ) (payload text : List ℕ) → IsPacket fits wanted first last payload text → Wants want first → length payload ≤ limit →
    IsPacket limit want first last payload text
packet-fits limit fits want wanted first last payload text is wants less = record {
  full = is.full;
  ending = is.ending;
  each_full = is.each_full;
  not_full = is.not_full;
  laid_out = is.laid_out;
  joined = is.joined;
  wanted = wants;
  ends_at = is.ends_at;
  fits = less;
}

-- what stands at the front where a stream ends
abbrev pub IsEndFront : Ending → ℕ → Front → Type 0
IsEndFront Between place f = f ≡ Part 4
IsEndFront (Cut at) place f = (at ≡ place) × (missing : ℕ) × (f ≡ Part missing)
IsEndFront (Faulty fault) place f = f ≡ Fault fault

pub front-ending : (limit : ℕ) (want : Want) (place : ℕ) (bytes : List ℕ) (ending : Ending) → IsEnding limit want place bytes ending → IsEndFront ending place (front limit want place bytes)
front-ending limit want place bytes Between h = ap (front limit want place) h ∙ front-short limit want place [] (omega arith)
front-ending limit want place bytes (Cut at) (some, at_is, missing, part) = (at_is, missing, front-unfinished limit want place missing bytes part)
front-ending limit want place bytes (Faulty fault) h = front-fault limit want place fault bytes h

-- no packet stands where a stream ends
pub ending-no_packet : (ending : Ending) (place : ℕ) (f : Front) (first last : ℕ) (payload behind : List ℕ) → IsEndFront ending place f → f ≡ Whole first last payload behind → ⊥
ending-no_packet Between place f first last payload behind h whole = cc
ending-no_packet (Cut at) place f first last payload behind h whole = let part = h.2 in cc
ending-no_packet (Faulty fault) place f first last payload behind h whole = cc

pub endings-same : (limit : ℕ) (want : Want) (place : ℕ) (bytes : List ℕ) (e g : Ending) → IsEnding limit want place bytes e → IsEnding limit want place bytes g → e ≡ g
endings-same limit want place bytes Between Between h k = refl
endings-same limit want place bytes Between (Cut at) h k = absurd (k.0 h)
endings-same limit want place bytes (Cut at) Between h k = absurd (h.0 k)
endings-same limit want place bytes (Cut a) (Cut b) h k = ap Cut (h.1 ∙ sym k.1)
endings-same limit want place bytes Between (Faulty fault) h k =
    let x = front-ending limit want place bytes Between h in let y = front-ending limit want place bytes (Faulty fault) k in cc
endings-same limit want place bytes (Faulty fault) Between h k =
    let x = front-ending limit want place bytes (Faulty fault) h in let y = front-ending limit want place bytes Between k in cc
endings-same limit want place bytes (Cut at) (Faulty fault) h k =
    let x = (front-ending limit want place bytes (Cut at) h).2 in let y = front-ending limit want place bytes (Faulty fault) k in cc
endings-same limit want place bytes (Faulty fault) (Cut at) h k =
    let x = front-ending limit want place bytes (Faulty fault) h in let y = (front-ending limit want place bytes (Cut at) k).2 in cc
endings-same limit want place bytes (Faulty a) (Faulty b) h k =
    let x = front-ending limit want place bytes (Faulty a) h in let y = front-ending limit want place bytes (Faulty b) k in cc

-- the packet at the front, and what follows it
pub front-head : (limit : ℕ) (want : Want) (place : ℕ) (bytes head rest : List ℕ) (packet : Packet) → bytes ≡ head ++ rest →
    IsPacket limit want packet.first packet.last packet.payload head → front limit want place bytes ≡ Whole packet.first packet.last packet.payload rest
front-head limit want place bytes head rest packet split is =
    ap (front limit want place) split ∙ front-packet limit want packet.first packet.last packet.payload head place rest is

pub packet-same : (p q : Packet) → p.first ≡ q.first → p.last ≡ q.last → p.at ≡ q.at → p.payload ≡ q.payload → p ≡ q
packet-same p q firsts lasts ats payloads =
    ap (λ x. record p { first = x }) firsts
    ∙ ap (λ x. record p { first = q.first; last = x }) lasts
    ∙ ap (λ x. record p { first = q.first; last = q.last; at = x }) ats
    ∙ ap (λ x. record q { payload = x }) payloads

-- a stream has one reading
pub streams-same : (limit : ℕ) (next : ℕ → Want) (want : Want) (place : ℕ) (bytes : List ℕ) (ps qs : List Packet) (e g : Ending) →
    IsStream limit next want place bytes ps e → IsStream limit next want place bytes qs g → (ps ≡ qs) × (e ≡ g)
streams-same limit next want place bytes [] [] e g h k = (refl, endings-same limit want place bytes e g h k)
streams-same limit next want place bytes [] (q ∷ qs) e g h (head, rest, split, at, is, more) =
    absurd (ending-no_packet e place (front limit want place bytes) q.first q.last q.payload rest
    (front-ending limit want place bytes e h) (front-head limit want place bytes head rest q split is))
streams-same limit next want place bytes (p ∷ ps) [] e g (head, rest, split, at, is, more) k =
    absurd (ending-no_packet g place (front limit want place bytes) p.first p.last p.payload rest
    (front-ending limit want place bytes g k) (front-head limit want place bytes head rest p split is))
streams-same limit next want place bytes (p ∷ ps) (q ∷ qs) e g (head, rest, split, at, is, more) (head', rest', split', at', is', more') =
    let x = front-head limit want place bytes head rest p split is in
    let y = front-head limit want place bytes head' rest' q split' is' in
    let rests : rest' ≡ rest = cc in
    let lasts : q.last ≡ p.last = cc in
    let firsts : p.first ≡ q.first = cc in
    let payloads : p.payload ≡ q.payload = cc in
    let ats : p.at ≡ q.at = at ∙ sym at' in
    let lengths : length head' ≡ length head =
    omega (arith, ap length split, ap length split', length-append head rest, length-append head' rest', ap length rests) in
    let at_rest = subst (λ r. IsStream limit next (next q.last) (place + length head') r qs g) rests more' in
    let at_last = subst (λ l. IsStream limit next (next l) (place + length head') rest qs g) lasts at_rest in
    let at_place = subst (λ n. IsStream limit next (next p.last) (place + n) rest qs g) lengths at_last in
    let tails = streams-same limit next (next p.last) (place + length head) rest ps qs e g more at_place in
    let same = packet-same p q firsts (sym lasts) ats payloads in
    (cc (same, tails.0), tails.1)

-- where packets are laid end to end, the rest may be said otherwise, and may go on
pub laid-goes_on : (limit : ℕ) (next : ℕ → Want) (E F : Want → ℕ → List ℕ → Type 0) (more : List ℕ) →
    ((want : Want) (place : ℕ) (rest : List ℕ) → E want place rest → F want place (rest ++ more)) →
    (want : Want) (place : ℕ) (bytes : List ℕ) (packets : List Packet) → AreLaid limit next E want place bytes packets → AreLaid limit next F want place (bytes ++ more) packets
laid-goes_on limit next E F more f want place bytes [] h = f want place bytes h
laid-goes_on limit next E F more f want place bytes (p ∷ ps) (head, rest, split, at, is, tail) = (
  head,
  rest ++ more,
  ap (λ xs. xs ++ more) split ∙ append_assoc head rest more,
  at,
  is,
  laid-goes_on limit next E F more f (next p.last) (place + length head) rest ps tail,
)

pub laid-same : (limit : ℕ) (next : ℕ → Want) (E F : Want → ℕ → List ℕ → Type 0) →
    ((want : Want) (place : ℕ) (rest : List ℕ) → E want place rest → F want place rest) →
    (want : Want) (place : ℕ) (bytes : List ℕ) (packets : List Packet) → AreLaid limit next E want place bytes packets → AreLaid limit next F want place bytes packets
laid-same limit next E F f want place bytes [] h = f want place bytes h
laid-same limit next E F f want place bytes (p ∷ ps) (head, rest, split, at, is, tail) =
    (head, rest, split, at, is, laid-same limit next E F f (next p.last) (place + length head) rest ps tail)

-- the rest may begin with a further packet
pub laid-push : (limit : ℕ) (next : ℕ → Want) (E F : Want → ℕ → List ℕ → Type 0) (packet : Packet) →
    ((want : Want) (place : ℕ) (rest : List ℕ) → E want place rest → AreLaid limit next F want place rest (packet ∷ [])) →
    (want : Want) (place : ℕ) (bytes : List ℕ) (packets : List Packet) → AreLaid limit next E want place bytes packets →
    AreLaid limit next F want place bytes (packets ++ packet ∷ [])
laid-push limit next E F packet f want place bytes [] h = f want place bytes h
laid-push limit next E F packet f want place bytes (p ∷ ps) (head, rest, split, at, is, tail) =
    (head, rest, split, at, is, laid-push limit next E F packet f (next p.last) (place + length head) rest ps tail)

-- nothing was fed yet
pub given-nothing : (limit : ℕ) (next : ℕ → Want) (want : Want) → HasGiven limit next want [] [] (record { limit = limit; want = want; start = 0; held = [] })
given-nothing limit next want = refl

-- further bytes were taken
pub given-with_bytes : (limit : ℕ) (next : ℕ → Want) (want : Want) (bytes : List ℕ) (packets : List Packet) (v : Framing) (more : List ℕ) →
    HasGiven limit next want bytes packets v → HasGiven limit next want (bytes ++ more) packets (with_bytes v more)
given-with_bytes limit next want bytes packets v more h =
    laid-goes_on limit next
    (λ wanted at rest. v ≡ record { limit = limit; want = wanted; start = at; held = rest })
    (λ wanted at rest. with_bytes v more ≡ record { limit = limit; want = wanted; start = at; held = rest })
    more (λ wanted at rest is. ap (λ x. with_bytes x more) is) want 0 bytes packets h

-- a packet was taken out, and the id that is wanted then was set
pub given-taken : (limit : ℕ) (next : ℕ → Want) (want : Want) (bytes : List ℕ) (packets : List Packet) (v : Framing) (packet : Packet) (w : Framing) →
    HasGiven limit next want bytes packets v → TakesPacket v packet w → HasGiven limit next want bytes (packets ++ packet ∷ []) (record w { want = next packet.last })
given-taken limit next want bytes packets v packet w h taken =
    let after = record w { want = next packet.last } in
    laid-push limit next
    (λ wanted at rest. v ≡ record { limit = limit; want = wanted; start = at; held = rest })
    (λ wanted at rest. after ≡ record { limit = limit; want = wanted; start = at; held = rest })
    packet
    (λ wanted at rest is. (
      rest,
      [],
      sym (append-nil rest),
      taken.at_start ∙ ap (λ x. x.start) is,
      subst (λ x. IsPacket x.limit x.want packet.first packet.last packet.payload x.held) is taken.is_packet,
      ap {A = Framing} {B = Framing} (λ x. record x { want = next packet.last }) (taken.next_is ∙ ap {A = Framing} {B = Framing} (λ x. record { limit = x.limit; want = Exactly (id_after packet.last); start = place_of x; held = [] }) is),
    ))
    want 0 bytes packets h

-- the stream ends with what is held
pub given-ends : (limit : ℕ) (next : ℕ → Want) (want : Want) (bytes : List ℕ) (packets : List Packet) (v : Framing) (ending : Ending) →
    HasGiven limit next want bytes packets v → IsEnding v.limit v.want v.start v.held ending → IsStream limit next want 0 bytes packets ending
given-ends limit next want bytes packets v ending h ends =
    laid-same limit next
    (λ wanted at rest. v ≡ record { limit = limit; want = wanted; start = at; held = rest })
    (λ wanted at rest. IsEnding limit wanted at rest ending)
    (λ wanted at rest is. subst (λ x. IsEnding x.limit x.want x.start x.held ending) is ends) want 0 bytes packets h

-- a fault stays the first one, whatever follows it
pub fault-goes_on : (limit : ℕ) (want : Want) (place : ℕ) (fault : FrameFault) (bytes more : List ℕ) → IsFault limit want place fault bytes → IsFault limit want place fault (bytes ++ more)
fault-goes_on limit want place fault bytes more shown = record {
  before = shown.before;
  total = shown.total;
  next = shown.next;
  begun = shown.begun;
  size = shown.size;
  id = shown.id;
  behind = shown.behind ++ more;
  laid_out =
      ap (λ b. b ++ more) shown.laid_out
      ∙ append_assoc shown.before (header_text shown.size shown.id ++ shown.behind) more
      ∙ ap (λ b. shown.before ++ b) (append_assoc (header_text shown.size shown.id) shown.behind more);
  in_range = shown.in_range;
  refused = shown.refused;
}

pub due-is-taken : (v : Framing) (piece : List ℕ) → due_bytes v piece ≡ take (length (due_bytes v piece)) piece
due-is-taken v piece =
    let n = missing_of (front_of v) in
    sym (take_min n piece) ∙ ap (λ m. take m piece) (sym (length-take n piece))

-- a stream that ends at a fault is that stream whatever follows
pub faulty-stream : (limit : ℕ) (next : ℕ → Want) (want : Want) (place : ℕ) (bytes : List ℕ) (packets : List Packet) (fault : FrameFault) (more : List ℕ) →
    IsStream limit next want place bytes packets (Faulty fault) → IsStream limit next want place (bytes ++ more) packets (Faulty fault)
faulty-stream limit next want place bytes packets fault more h =
    laid-goes_on limit next (λ wanted at rest. IsEnding limit wanted at rest (Faulty fault)) (λ wanted at rest. IsEnding limit wanted at rest (Faulty fault)) more
    (λ wanted at rest shown. fault-goes_on limit wanted at fault rest more shown) want place bytes packets h

-- any run of a reader gives packets of the bytes that it was fed
pub run-given : (limit : ℕ) (next : ℕ → Want) (want : Want) (moves : List Move) (bytes : List ℕ) (packets : List Packet) (v w : Framing) →
    HasGiven limit next want bytes packets v → IsRun next v moves w → HasGiven limit next want (bytes ++ bytes_of moves) (packets ++ packets_of moves) w
run-given limit next want [] bytes packets v w h run =
    let none = subst (λ x. HasGiven limit next want bytes packets x) (sym run) h in
    subst (λ b. HasGiven limit next want b (packets ++ []) w) (sym (append-nil bytes)) (subst (λ p. HasGiven limit next want bytes p w) (sym (append-nil packets)) none)
run-given limit next want (Feeds piece count ∷ moves) bytes packets v w h (u, grown, counted, run) =
    let more = due_bytes v piece in
    let now = subst (λ x. HasGiven limit next want (bytes ++ more) packets x) (sym grown) (given-with_bytes limit next want bytes packets v more h) in
    let rest = run-given limit next want moves (bytes ++ more) packets u w now run in
    let taken_is : more ≡ take count piece = due-is-taken v piece ∙ ap (λ n. take n piece) (sym counted) in
    subst (λ b. HasGiven limit next want b (packets ++ packets_of moves) w) (append_assoc bytes more (bytes_of moves) ∙ ap (λ m. bytes ++ (m ++ bytes_of moves)) taken_is) rest
run-given limit next want (Gives packet ∷ moves) bytes packets v w h (u, takes, run) =
    let now = given-taken limit next want bytes packets v packet u h takes in
    let rest = run-given limit next want moves bytes (packets ++ packet ∷ []) (record u { want = next packet.last }) w now run in
    subst (λ p. HasGiven limit next want (bytes ++ bytes_of moves) p w) (append_assoc packets (packet ∷ []) (packets_of moves)) rest

pub packet-length : (limit : ℕ) (want : Want) (first last : ℕ) (payload bytes : List ℕ) → IsPacket limit want first last payload bytes → 4 ≤ length bytes
packet-length limit want first last payload bytes is =
    let tail = header_text (length is.ending) (id_at first (length is.full)) ++ is.ending in
    omega (arith, ap length (is.laid_out ∙ pieces_text-push first is.full is.ending), length-append (pieces_text first is.full) tail)

-- the stream that begins with what stands at the front
pub seen-stream : (most : ℕ) (limit : ℕ) (next : ℕ → Want) (want : Want) (place x : ℕ) (xs : List ℕ) → length (x ∷ xs) ≤ suc most → All (λ y. y < 256) (x ∷ xs) →
    (found : Front) → IsFront limit want place (x ∷ xs) found →
    ((rest : List ℕ) → length rest ≤ most → All (λ y. y < 256) rest → (at : ℕ) (wanted : Want) →
    (packets : List Packet) × (ending : Ending) × IsStream limit next wanted at rest packets ending) →
    (packets : List Packet) × (ending : Ending) × IsStream limit next want place (x ∷ xs) packets ending
seen-stream most limit next want place x xs h b (Whole first last payload behind) (head, split, is) goes_on =
    let packet : Packet = record { first = first; last = last; at = place; payload = payload } in
    let lengths = ap length split ∙ length-append head behind in
    let after : All (λ y. y < 256) behind = λ k d l.
    subst (λ y. y < 256) (ap (λ ys. get_or ys (length head + k) d) split ∙ get_or-append-add head behind k d) (b (length head + k) d (omega (arith, lengths, l))) in
    let rest = goes_on behind (omega (arith, lengths, h, packet-length limit want first last payload head is)) after (place + length head) (next last) in
    (packet ∷ rest.0, rest.1, (head, behind, split, refl, is, rest.2))
seen-stream most limit next want place x xs h b (Part missing) part goes_on = ([], Cut place, (λ none. cc, refl, missing, part))
seen-stream most limit next want place x xs h b (Fault fault) shown goes_on = ([], Faulty fault, shown)

-- every list of bytes is a stream
pub streams-seen : (most : ℕ) (limit : ℕ) (next : ℕ → Want) (want : Want) (place : ℕ) (bytes : List ℕ) → length bytes ≤ most → All (λ x. x < 256) bytes →
    (packets : List Packet) × (ending : Ending) × IsStream limit next want place bytes packets ending
streams-seen most limit next want place [] h b = ([], Between, refl)
streams-seen zero limit next want place (_ ∷ _) h b = absurd (omega arith)
streams-seen (suc most) limit next want place (x ∷ xs) h b =
    let there = seen (length (x ∷ xs)) limit want place (x ∷ xs) (omega arith) b in
    let goes_on : (rest : List ℕ) → length rest ≤ most → All (λ y. y < 256) rest → (at : ℕ) (wanted : Want) →
    (packets : List Packet) × (ending : Ending) × IsStream limit next wanted at rest packets ending =
    λ rest l bs at wanted. streams-seen most limit next wanted at rest l bs in
    seen-stream most limit next want place x xs h b there.0 there.1 goes_on

-- a reader from the start of a stream to its end
pub run-stream : (limit : ℕ) (next : ℕ → Want) (want : Want) (moves : List Move) (v : Framing) (ending : Ending) →
    IsRun next (record { limit = limit; want = want; start = 0; held = [] }) moves v → IsEnding v.limit v.want v.start v.held ending →
    IsStream limit next want 0 (bytes_of moves) (packets_of moves) ending
run-stream limit next want moves v ending run ends =
    let start : Framing = record { limit = limit; want = want; start = 0; held = [] } in
    given-ends limit next want (bytes_of moves) (packets_of moves) v ending
    (run-given limit next want moves [] [] start v (given-nothing limit next want) run) ends
