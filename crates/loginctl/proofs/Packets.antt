-- What a listing of packets comes to, step by step.
use Rattle.std.proofs.Common.{◌≡◌, refl, sym, ap, ◌∙◌, subst, ℕ, ◌+◌, ◌-◌, ◌<◌, ◌≤◌, List, [], ◌∷◌, ◌++◌, length, take, drop, Option, Some, None, arith, length-append, append_assoc, append-nil, ◌⊎◌, inl, inr, ⊎_elim}
use Rattle.std.proofs.Math.Seq.{take-append-add}
use Rattle.std.proofs.lemmas.List.{length-take, take-append-drop, take_all, take-append-le}
use Rattle.packet_frame.specs.Framing.{Framing, place_of, front_of, held_length, unfinished_length, new_framing, with_bytes, due_bytes, missing_of, after_expect, IsSound, IsWhole, IsReading, Takes, Refuses, TakesPacket}
use Rattle.packet_frame.specs.Front.{Front, Whole, Part, Fault, IsFront}
use Rattle.packet_frame.specs.Packets.{IsUnfinished}
use Rattle.packet_frame.specs.Streams.{Ending, Between, Cut, Faulty, IsEnding, HasGiven}
use Rattle.packet_frame.specs.declared.packets.Packet.{Packet}
use Rattle.packet_frame.specs.declared.packets.Want.{Want}
use Rattle.packet_frame.specs.declared.packets.Want.TheVariants.{Any}
use Rattle.packet_frame.specs.declared.packets.FrameFault.{FrameFault}
use Rattle.packet_frame.specs.declared.packets.FrameFault.TheVariants.{TooLarge, OutOfOrder, Memory}
use Rattle.packet_frame.proofs.Fronts.{front-nothing}
use Rattle.packet_frame.proofs.Shown.{begun-none}
use Rattle.packet_frame.proofs.Loops.{takes-count, takes-given, takes-place, expected-is, expected-given, expected-place}
use Rattle.packet_frame.proofs.Streams.{faulty-stream, given-ends, given-nothing, given-with_bytes}
use Rattle.loginctl.specs.Frames.{IsFrontListed, IsFrontOf, IsLast, IsListed, IsPackets, bad_line, between, between_past, end_line, lines_from, longest_input, out_of_order, packet_line, packet_lines, too_large, unfinished, unfinished_past}
use Rattle.loginctl.specs.Listing.{HasRead, HasStopped, IsSteady, Stops}
use Rattle.loginctl.specs.declared.frames.Listing.{Listing}
use Rattle.loginctl.specs.declared.status.Status.TheVariants.{BadInput, Done}

-- the lines of one more packet
pub lines_from-push : (n : ℕ) (ps : List Packet) (p : Packet) → lines_from n (ps ++ p ∷ []) ≡ lines_from n ps ++ packet_line (n + length ps) p
lines_from-push n [] p = append-nil (packet_line n p) ∙ ap (λ (k : ℕ). packet_line k p) (omega arith)
lines_from-push n (q ∷ qs) p =
    let number : n + 1 + length qs ≡ n + length (q ∷ qs) = omega arith in
    ap (λ (t : List ℕ). packet_line n q ++ t) (lines_from-push (n + 1) qs p ∙ ap (λ (k : ℕ). lines_from (n + 1) qs ++ packet_line k p) number)
    ∙ sym (append_assoc (packet_line n q) (lines_from (n + 1) qs) (packet_line (n + length (q ∷ qs)) p))

-- a front that is sound and no packet is unfinished
pub part-of : (f : Front) → IsSound f → (IsWhole f → ⊥) → (missing : ℕ) × (f ≡ Part missing)
part-of (Whole first last payload behind) s w = absurd (w (tt {0}))
part-of (Part missing) s w = (missing, refl)
part-of (Fault fault) s w = absurd s

-- nothing is held
reading-nothing : (limit : ℕ) (want : Want) (place : ℕ) → IsReading (record { limit = limit; want = want; start = place; held = [] })
reading-nothing limit want place =
    let none : IsUnfinished limit want 4 [] = record {
      before = [];
      total = 0;
      next = want;
      begun = begun-none limit want;
      present = [];
      laid_out = refl;
      cut = inl (omega arith, omega arith);
    } in
    subst (λ (f : Front). IsFront limit want place [] f) (sym (front-nothing limit want place)) none

-- before the first byte
pub read-nothing : HasRead [] [] (record { frames = new_framing 50331645 Any; count = 0; lines = [] })
read-nothing = record {
  packets = [];
  given = given-nothing 50331645 (λ _. Any) Any;
  reading = reading-nothing 50331645 Any 0;
  place_is = refl;
  count_is = refl;
  lines_are = refl;
}

-- bytes were taken
pub read-taken : (bytes written : List ℕ) (l : Listing) (piece : List ℕ) (count : ℕ) (v : Framing) → HasRead bytes written l → Takes l.frames piece count v → IsReading v
    → HasRead (bytes ++ take count piece) written (record { frames = v; count = l.count; lines = l.lines })
read-taken bytes written l piece count v h takes reading = record {
  packets = h.packets;
  given = takes-given 50331645 (λ _. Any) Any bytes h.packets l.frames piece count v h.given takes;
  reading = reading;
  place_is = omega (arith, takes-place l.frames piece count v takes, h.place_is, takes-count l.frames piece count v takes, length-append bytes (take count piece), length-take count piece);
  count_is = h.count_is;
  lines_are = h.lines_are;
}

-- a packet was taken out
pub read-packet : (bytes written : List ℕ) (l : Listing) (packet : Packet) (u x : Framing) (lines : List ℕ) → HasRead bytes written l → TakesPacket l.frames packet u
    → x ≡ after_expect (front_of u) u Any → lines ≡ l.lines ++ packet_line (l.count + 1) packet
    → HasRead bytes written (record { frames = x; count = l.count + 1; lines = lines })
read-packet bytes written l packet u x lines h taken expected e =
    let reset = λ (y : Framing). let z : Framing = record y { want = Any } in z in
    let x-is = expected-is l.frames packet u Any x taken expected ∙ ap reset taken.next_is in
    let number : 1 + length h.packets ≡ l.count + 1 = omega (arith, h.count_is) in
    record {
      packets = h.packets ++ packet ∷ [];
      given = expected-given 50331645 (λ _. Any) Any bytes h.packets l.frames packet u x h.given taken expected;
      reading = subst (λ (y : Framing). IsReading y) (sym x-is) (reading-nothing l.frames.limit Any (place_of l.frames));
      place_is = expected-place l.frames packet u Any x taken expected ∙ h.place_is;
      count_is = omega (arith, h.count_is, length-append h.packets (packet ∷ []));
      lines_are =
          lines_from-push 1 h.packets packet
          ∙ ap (λ (k : ℕ). packet_lines h.packets ++ packet_line k packet) number
          ∙ ap (λ (t : List ℕ). t ++ packet_line (l.count + 1) packet) h.lines_are
          ∙ append_assoc written l.lines (packet_line (l.count + 1) packet)
          ∙ ap (λ (t : List ℕ). written ++ t) (sym e);
    }

-- a fault stands in what was fed
stream-stopped : (bytes : List ℕ) (packets : List Packet) (old : Framing) (piece : List ℕ) (fault : FrameFault) (v : Framing) → HasGiven 50331645 (λ _. Any) Any bytes packets old
    → v ≡ with_bytes old (due_bytes old piece) → front_of v ≡ Fault fault → IsReading v → IsPackets (bytes ++ piece) packets (Faulty fault)
stream-stopped bytes packets old piece fault v given grown found reading =
    let n = missing_of (front_of old) in
    let now = subst (λ (y : Framing). HasGiven 50331645 (λ _. Any) Any (bytes ++ take n piece) packets y) (sym grown)
    (given-with_bytes 50331645 (λ _. Any) Any bytes packets old (take n piece) given) in
    let ends : IsEnding v.limit v.want v.start v.held (Faulty fault) = subst (λ (f : Front). IsFront v.limit v.want v.start v.held f) found reading in
    let short = given-ends 50331645 (λ _. Any) Any (bytes ++ take n piece) packets v (Faulty fault) now ends in
    let all = faulty-stream 50331645 (λ _. Any) Any 0 (bytes ++ take n piece) packets fault (drop n piece) short in
    subst (λ (b : List ℕ). IsPackets b packets (Faulty fault))
    (append_assoc bytes (take n piece) (drop n piece) ∙ ap (λ (b : List ℕ). bytes ++ b) (take-append-drop n piece)) all

-- the reader refused
pub read-stopped : (bytes written : List ℕ) (l : Listing) (piece : List ℕ) (fault : FrameFault) (v : Framing) → HasRead bytes written l → Refuses l.frames piece fault v → IsReading v
    → Stops (bytes ++ piece) written fault (record { frames = v; count = l.count; lines = l.lines })
read-stopped bytes written l piece Memory v h refused reading = tt {0}
read-stopped bytes written l piece (TooLarge at) v h refused reading = record {
  packets = h.packets;
  stream = stream-stopped bytes h.packets l.frames piece (TooLarge at) v h.given refused.0 refused.1 reading;
  lines_are = h.lines_are;
}
read-stopped bytes written l piece (OutOfOrder at want got) v h refused reading = record {
  packets = h.packets;
  stream = stream-stopped bytes h.packets l.frames piece (OutOfOrder at want got) v h.given refused.0 refused.1 reading;
  lines_are = h.lines_are;
}

-- how many bytes an unfinished packet has
pub held-part : (v : Framing) (missing : ℕ) → front_of v ≡ Part missing → held_length v ≡ length v.held
held-part v missing e = at (front_of v) e where
  at : (f : Front) → f ≡ Part missing → unfinished_length f (length v.held) ≡ length v.held
  at (Whole first last payload behind) e' = absurd (cc)
  at (Part m) e' = refl
  at (Fault fault) e' = absurd (cc)

-- an unfinished packet ends the stream where it began
cut-at : (v : Framing) (missing : ℕ) → front_of v ≡ Part missing → IsReading v → (v.held ≡ [] → ⊥) → IsEnding v.limit v.want v.start v.held (Cut v.start)
cut-at v missing e reading some = (some, refl, missing, subst (λ (f : Front). IsFront v.limit v.want v.start v.held f) e reading)

some-or-none : (xs : List ℕ) → (xs ≡ []) ⊎ (xs ≡ [] → ⊥)
some-or-none [] = inl refl
some-or-none (x ∷ xs) = inr (λ e. cc)

empty : (xs : List ℕ) → length xs ≡ 0 → xs ≡ []
empty [] e = refl
empty (x ∷ xs) e = absurd (omega (arith, e))

-- the ending of what was read so far
pub ending-of : (v : Framing) (missing : ℕ) → front_of v ≡ Part missing → IsReading v → (ending : Ending) × IsEnding v.limit v.want v.start v.held ending
ending-of v missing e reading =
    ⊎_elim {C = (ending : Ending) × IsEnding v.limit v.want v.start v.held ending}
    (λ (none : v.held ≡ []). (Between, none))
    (λ (some : v.held ≡ [] → ⊥). (Cut v.start, cut-at v missing e reading some))
    (some-or-none v.held)

-- what was printed so far is the lines of a front
pub front-listed : (told : Option (List ℕ)) (bytes written : List ℕ) (l : Listing) → HasRead bytes written l → IsSteady l → IsFrontOf told bytes → length bytes ≤ longest_input
    → IsFrontListed told (written ++ l.lines)
front-listed told bytes written l h s f short =
    let e = ending-of l.frames s.missing s.part h.reading in
    record {
      front = bytes;
      packets = h.packets;
      ending = e.0;
      is_front = f;
      within = short;
      stream = given-ends 50331645 (λ _. Any) Any bytes h.packets l.frames e.0 h.given e.1;
      text_is = sym h.lines_are;
    }

text-is : (packets : List Packet) (written old new last : List ℕ) → packet_lines packets ≡ written ++ old → new ≡ old ++ last → written ++ new ≡ packet_lines packets ++ last
text-is packets written old new last e f =
    ap (λ (t : List ℕ). written ++ t) f ∙ sym (append_assoc written old last) ∙ ap (λ (t : List ℕ). t ++ last) (sym e)

-- the input ends after a packet
pub ends-between : (bytes written : List ℕ) (l : Listing) (lines : List ℕ) → HasRead bytes written l → IsSteady l → length bytes ≤ longest_input → held_length l.frames ≡ 0
    → lines ≡ l.lines ++ end_line l.count → IsListed bytes Done (written ++ lines)
ends-between bytes written l lines h s short none e =
    let nothing : l.frames.held ≡ [] = empty l.frames.held (sym (held-part l.frames s.missing s.part) ∙ none) in
    record {
      packets = h.packets;
      ending = Between;
      last = end_line l.count;
      stream = subst (λ (b : List ℕ). IsPackets b h.packets Between) (sym (take_all longest_input bytes short))
          (given-ends 50331645 (λ _. Any) Any bytes h.packets l.frames Between h.given nothing);
      ends = subst (λ (k : ℕ). IsLast bytes (length h.packets) Between Done (end_line k)) (sym h.count_is) (between short);
      text_is = text-is h.packets written l.lines lines (end_line l.count) h.lines_are e;
    }

-- the input ends within a packet
pub ends-within : (bytes written : List ℕ) (l : Listing) (lines : List ℕ) (at : ℕ) → HasRead bytes written l → IsSteady l → length bytes ≤ longest_input → (held_length l.frames ≡ 0 → ⊥)
    → at + held_length l.frames ≡ place_of l.frames → lines ≡ l.lines ++ bad_line at → IsListed bytes BadInput (written ++ lines)
ends-within bytes written l lines at h s short some placed e =
    let some-held : l.frames.held ≡ [] → ⊥ = λ none. some (held-part l.frames s.missing s.part ∙ ap (λ (b : List ℕ). length b) none) in
    let at-is : at ≡ l.frames.start = omega (arith, placed, held-part l.frames s.missing s.part) in
    record {
      packets = h.packets;
      ending = Cut l.frames.start;
      last = bad_line at;
      stream = subst (λ (b : List ℕ). IsPackets b h.packets (Cut l.frames.start)) (sym (take_all longest_input bytes short))
          (given-ends 50331645 (λ _. Any) Any bytes h.packets l.frames (Cut l.frames.start) h.given (cut-at l.frames s.missing s.part h.reading some-held));
      ends = subst (λ (k : ℕ). IsLast bytes (length h.packets) (Cut l.frames.start) BadInput (bad_line k)) (sym at-is) (unfinished l.frames.start short);
      text_is = text-is h.packets written l.lines lines (bad_line at) h.lines_are e;
    }

-- the front of an input that goes on past the limit
front-is : (bytes rest : List ℕ) → length bytes ≡ longest_input → take longest_input (bytes ++ rest) ≡ bytes
front-is bytes rest full = take-append-le longest_input bytes rest (omega (arith, full)) ∙ take_all longest_input bytes (omega (arith, full))

last-past : (input : List ℕ) (count : ℕ) (v : Framing) (missing : ℕ) (e : front_of v ≡ Part missing) (reading : IsReading v) → longest_input < length input
    → (ending : Ending) × IsEnding v.limit v.want v.start v.held ending × IsLast input count ending BadInput (bad_line longest_input)
last-past input count v missing e reading more =
    ⊎_elim {C = (ending : Ending) × IsEnding v.limit v.want v.start v.held ending × IsLast input count ending BadInput (bad_line longest_input)}
    (λ (none : v.held ≡ []). (Between, none, between_past more))
    (λ (some : v.held ≡ [] → ⊥). (Cut v.start, cut-at v missing e reading some, unfinished_past v.start more))
    (some-or-none v.held)

-- the input goes on past the limit
pub goes-past : (bytes rest written : List ℕ) (l : Listing) (lines : List ℕ) → HasRead bytes written l → IsSteady l → length bytes ≡ longest_input → 0 < length rest
    → lines ≡ l.lines ++ bad_line longest_input → IsListed (bytes ++ rest) BadInput (written ++ lines)
goes-past bytes rest written l lines h s full some e =
    let more : longest_input < length (bytes ++ rest) = omega (arith, full, some, length-append bytes rest) in
    let last = last-past (bytes ++ rest) (length h.packets) l.frames s.missing s.part h.reading more in
    record {
      packets = h.packets;
      ending = last.0;
      last = bad_line longest_input;
      stream = subst (λ (b : List ℕ). IsPackets b h.packets last.0) (sym (front-is bytes rest full))
          (given-ends 50331645 (λ _. Any) Any bytes h.packets l.frames last.0 h.given last.1);
      ends = last.2;
      text_is = text-is h.packets written l.lines lines (bad_line longest_input) h.lines_are e;
    }

-- bytes that stand within the limit, in the front that counts of an input
take-front : (limit : ℕ) (bytes rest : List ℕ) → length bytes ≤ limit → take limit (bytes ++ rest) ≡ bytes ++ take (limit - length bytes) rest
take-front limit bytes rest short =
    let n : limit ≡ length bytes + (limit - length bytes) = omega (arith, short) in
    ap (λ (k : ℕ). take k (bytes ++ rest)) n ∙ take-append-add bytes rest (limit - length bytes)

fault-listed : (bytes rest written : List ℕ) (l : Listing) (fault : FrameFault) (last lines : List ℕ) → HasStopped bytes written fault l → length bytes ≤ longest_input
    → ((input : List ℕ) (count : ℕ) → IsLast input count (Faulty fault) BadInput last) → lines ≡ l.lines ++ last → IsListed (bytes ++ rest) BadInput (written ++ lines)
fault-listed bytes rest written l fault last lines h short ends e = record {
  packets = h.packets;
  ending = Faulty fault;
  last = last;
  stream = subst (λ (b : List ℕ). IsPackets b h.packets (Faulty fault)) (sym (take-front longest_input bytes rest short))
      (faulty-stream 50331645 (λ _. Any) Any 0 bytes h.packets fault (take (longest_input - length bytes) rest) h.stream);
  ends = ends (bytes ++ rest) (length h.packets);
  text_is = text-is h.packets written l.lines lines last h.lines_are e;
}

-- a fault stands in the input, whatever follows it
pub ends-too_large : (bytes rest written : List ℕ) (l : Listing) (at : ℕ) (lines : List ℕ) → HasStopped bytes written (TooLarge at) l → length bytes ≤ longest_input
    → lines ≡ l.lines ++ bad_line at → IsListed (bytes ++ rest) BadInput (written ++ lines)
ends-too_large bytes rest written l at lines h short e = fault-listed bytes rest written l (TooLarge at) (bad_line at) lines h short (λ input count. too_large at) e

pub ends-out_of_order : (bytes rest written : List ℕ) (l : Listing) (at want got : ℕ) (lines : List ℕ) → HasStopped bytes written (OutOfOrder at want got) l
    → length bytes ≤ longest_input → lines ≡ l.lines ++ bad_line at → IsListed (bytes ++ rest) BadInput (written ++ lines)
ends-out_of_order bytes rest written l at want got lines h short e =
    fault-listed bytes rest written l (OutOfOrder at want got) (bad_line at) lines h short (λ input count. out_of_order at want got) e

-- before anything was read nothing is listed
pub none-listed : (told : Option (List ℕ)) → IsFrontListed told []
none-listed told =
    record { front = []; packets = []; ending = Between; is_front = at told; within = omega arith; stream = refl; text_is = refl } where
      at : (o : Option (List ℕ)) → IsFrontOf o []
      at None = tt {0}
      at (Some all) = (all, refl)

-- nothing is left to be written
pub front-written : (told : Option (List ℕ)) (bytes written : List ℕ) (l : Listing) → HasRead bytes written l → IsSteady l → IsFrontOf told bytes → place_of l.frames ≤ longest_input
    → l.lines ≡ [] → IsFrontListed told written
front-written told bytes written l h s f short none =
    subst (λ (text : List ℕ). IsFrontListed told text) (ap (λ (t : List ℕ). written ++ t) none ∙ append-nil written)
    (front-listed told bytes written l h s f (omega (arith, short, h.place_is)))

-- the lines were written
pub flushed : (bytes written lines : List ℕ) (l : Listing) → HasRead bytes written l → lines ≡ [] → HasRead bytes (written ++ l.lines) (record { frames = l.frames; count = l.count; lines = lines })
flushed bytes written lines l h none = record {
  packets = h.packets;
  given = h.given;
  reading = h.reading;
  place_is = h.place_is;
  count_is = h.count_is;
  lines_are = h.lines_are ∙ sym (append-nil (written ++ l.lines)) ∙ ap (λ (t : List ℕ). (written ++ l.lines) ++ t) (sym none);
}
