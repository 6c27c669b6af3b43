-- What the definitions say of the front of bytes is what is computed of it.
use Rattle.std.proofs.Common.{◌≡◌, ℕ, suc, ◌+◌, ◌-◌, ◌<◌, ◌≤◌, List, [], ◌∷◌, ◌++◌, length, drop, refl, sym, ap, ◌∙◌, inl, inr, arith, length-append, append_assoc, append-nil}
use Rattle.std.proofs.lemmas.List.{drop_at}
use Rattle.std.specs.List.{concat}
use Rattle.packet_frame.specs.declared.packets.Want.{Want}
use Rattle.packet_frame.specs.declared.packets.Want.TheVariants.{Exactly}
use Rattle.packet_frame.specs.declared.packets.FrameFault.{FrameFault}
use Rattle.packet_frame.specs.declared.packets.FrameFault.TheVariants.{TooLarge, OutOfOrder, Memory}
use Rattle.packet_frame.specs.Packets.{full_size, id_after, id_at, header_text, pieces_text, AllFull, Wants, Begins, want_after, IsPacket, IsBegun, IsRefused, IsFault, IsCut, IsUnfinished}
use Rattle.packet_frame.specs.Front.{Front, Whole, Part, Fault, continued_front, front, IsFront}
use Rattle.packet_frame.proofs.Fronts.{front-short, front-header, headed_front-wanted, headed_front-other, sized_front-large, sized_front-part, sized_front-full, sized_front-whole}

-- one more piece at the end
pub pieces_text-push : (first : ℕ) (full : List (List ℕ)) (payload : List ℕ) →
    pieces_text first (full ++ payload ∷ []) ≡ pieces_text first full ++ (header_text (length payload) (id_at first (length full)) ++ payload)
pieces_text-push first [] payload = ap (λ p. header_text (length payload) first ++ p) (append-nil payload)
pieces_text-push first (p ∷ ps) payload =
    ap (λ more. header_text (length p) first ++ more)
    (ap (λ more. p ++ more) (pieces_text-push (id_after first) ps payload)
    ∙ sym (append_assoc p (pieces_text (id_after first) ps) (header_text (length payload) (id_at (id_after first) (length ps)) ++ payload)))

pub concat-push : (full : List (List ℕ)) (payload : List ℕ) → concat (full ++ payload ∷ []) ≡ concat full ++ payload
concat-push [] payload = append-nil payload
concat-push (p ∷ ps) payload = ap (λ more. p ++ more) (concat-push ps payload) ∙ sym (append_assoc p (concat ps) payload)

-- the front of bytes that begin with full pieces, by the front of what follows them
abbrev pub joined : ℕ → List (List ℕ) → Front → Front
joined id [] more = more
joined id (payload ∷ full) more = continued_front id payload (joined (id_after id) full more)

pub begins-next : (id : ℕ) (full : List (List ℕ)) → Begins (Exactly id) id full
begins-next id [] = tt
begins-next id (_ ∷ _) = refl

pub begins-wanted : (want : Want) (first : ℕ) (full : List (List ℕ)) → Wants want first → Begins want first full
begins-wanted want first [] h = tt
begins-wanted want first (_ ∷ _) h = h

pub want_after-next : (id : ℕ) (full : List (List ℕ)) → want_after (Exactly id) id full ≡ Exactly (id_at id (length full))
want_after-next id [] = refl
want_after-next id (_ ∷ _) = refl

pub want_after-wanted : (want : Want) (first : ℕ) (full : List (List ℕ)) → Wants want first → Wants (want_after want first full) (id_at first (length full))
want_after-wanted want first [] h = h
want_after-wanted want first (_ ∷ _) h = refl

-- a full piece
pub front-full : (limit : ℕ) (want : Want) (place id : ℕ) (payload behind : List ℕ) → Wants want id → length payload ≡ full_size → full_size ≤ limit →
    front limit want place (header_text (length payload) id ++ (payload ++ behind))
    ≡ continued_front id payload (front (limit - full_size) (Exactly (id_after id)) (place + 4 + full_size) behind)
front-full limit want place id payload behind w e h =
    let bytes = payload ++ behind in
    let more = front (limit - full_size) (Exactly (id_after id)) (place + 4 + full_size) in
    ap (λ size. front limit want place (header_text size id ++ bytes)) e
    ∙ front-header limit want place full_size id bytes (omega arith)
    ∙ headed_front-wanted limit want full_size id place bytes (more (drop full_size bytes)) w
    ∙ sized_front-full limit id place payload behind (more (drop full_size bytes)) h e
    ∙ ap (λ rest. continued_front id payload (more rest)) (drop_at payload behind full_size e)

pub front-pieces_text : (full : List (List ℕ)) (limit : ℕ) (want : Want) (first place : ℕ) (tail : List ℕ) → AllFull full → Begins want first full → length (concat full) ≤ limit →
    front limit want place (pieces_text first full ++ tail)
    ≡ joined first full (front (limit - length (concat full)) (want_after want first full) (place + length (pieces_text first full)) tail)
front-pieces_text [] limit want first place tail each begins h =
    let room : limit ≡ limit - 0 = omega arith in
    let at : place ≡ place + 0 = omega arith in
    ap (λ n. front n want place tail) room ∙ ap (λ n. front (limit - 0) want n tail) at
front-pieces_text (p ∷ ps) limit want first place tail each begins h =
    let next = id_after first in
    let laid_next = pieces_text next ps in
    let lengths = length-append p (concat ps) in
    let places = length-append p laid_next in
    let full = each.0 in
    let after = λ (room : ℕ) (want' : Want) (at : ℕ). continued_front first p (joined next ps (front room want' at tail)) in
    let rooms : limit - full_size - length (concat ps) ≡ limit - length (p ++ concat ps) = omega (arith, lengths, full) in
    let ats : place + 4 + full_size + length laid_next ≡ place + suc (suc (suc (suc (length (p ++ laid_next))))) = omega (arith, places, full) in
    ap (λ rest. front limit want place (header_text (length p) first ++ rest)) (append_assoc p laid_next tail)
    ∙ front-full limit want place first p (laid_next ++ tail) begins full (omega (arith, lengths, full, h))
    ∙ ap (continued_front first p)
    (front-pieces_text ps (limit - full_size) (Exactly next) next (place + 4 + full_size) tail each.1 (begins-next next ps) (omega (arith, lengths, full, h)))
    ∙ ap (λ want'. after (limit - full_size - length (concat ps)) want' (place + 4 + full_size + length laid_next)) (want_after-next next ps)
    ∙ ap (λ room. after room (Exactly (id_at next (length ps))) (place + 4 + full_size + length laid_next)) rooms
    ∙ ap (after (limit - length (p ++ concat ps)) (Exactly (id_at next (length ps)))) ats

pub joined-whole : (first : ℕ) (full : List (List ℕ)) (last : ℕ) (more behind : List ℕ) →
    joined first full (Whole (id_at first (length full)) last more behind) ≡ Whole first last (concat full ++ more) behind
joined-whole first [] last more behind = refl
joined-whole first (p ∷ ps) last more behind =
    ap (continued_front first p) (joined-whole (id_after first) ps last more behind)
    ∙ ap (λ payload. Whole first last payload behind) (sym (append_assoc p (concat ps) more))

pub joined-part : (first : ℕ) (full : List (List ℕ)) (missing : ℕ) → joined first full (Part missing) ≡ Part missing
joined-part first [] missing = refl
joined-part first (p ∷ ps) missing = ap (continued_front first p) (joined-part (id_after first) ps missing)

pub joined-fault : (first : ℕ) (full : List (List ℕ)) (fault : FrameFault) → joined first full (Fault fault) ≡ Fault fault
joined-fault first [] fault = refl
joined-fault first (p ∷ ps) fault = ap (continued_front first p) (joined-fault (id_after first) ps fault)

-- what begins with whole full pieces that fit
pub front-begun : (limit : ℕ) (want : Want) (total : ℕ) (next : Want) (before : List ℕ) (place : ℕ) (tail : List ℕ) (begun : IsBegun limit want total next before) →
    front limit want place (before ++ tail)
    ≡ joined begun.first begun.full (front (limit - total) next (place + length before) tail)
front-begun limit want total next before place tail begun =
    let full = begun.full in
    let first = begun.first in
    let bytes = pieces_text first full in
    let after = λ (room : ℕ) (want' : Want). joined first full (front room want' (place + length bytes) tail) in
    ap (λ b. front limit want place (b ++ tail)) begun.laid_out
    ∙ front-pieces_text full limit want first place tail begun.each_full begun.begins (omega (arith, begun.total_is, begun.fits))
    ∙ ap (λ t. after (limit - t) (want_after want first full)) (sym begun.total_is)
    ∙ ap (after (limit - total)) (sym begun.next_is)
    ∙ ap (λ b. joined first full (front (limit - total) next (place + length b) tail)) (sym begun.laid_out)

-- a packet stands at the front
pub front-packet : (limit : ℕ) (want : Want) (first last : ℕ) (payload head : List ℕ) (place : ℕ) (behind : List ℕ) →
    IsPacket limit want first last payload head → front limit want place (head ++ behind) ≡ Whole first last payload behind
front-packet limit want first last payload head place behind packet =
    let full = packet.full in
    let ending = packet.ending in
    let id = id_at first (length full) in
    let bytes = pieces_text first full in
    let tail = header_text (length ending) id ++ ending in
    let room = limit - length (concat full) in
    let next = want_after want first full in
    let payload_is : payload ≡ concat full ++ ending = packet.joined ∙ concat-push full ending in
    let lengths : length payload ≡ length (concat full) + length ending = ap length payload_is ∙ length-append (concat full) ending in
    let more = front (room - length ending) (Exactly (id_after id)) (place + length bytes + 4 + length ending) (drop (length ending) (ending ++ behind)) in
    ap (λ b. front limit want place (b ++ behind)) (packet.laid_out ∙ pieces_text-push first full ending)
    ∙ ap (front limit want place) (append_assoc bytes tail behind)
    ∙ front-pieces_text full limit want first place (tail ++ behind) packet.each_full (begins-wanted want first full packet.wanted) (omega (arith, lengths, packet.fits))
    ∙ ap (joined first full)
    (front-header room next (place + length bytes) (length ending) id (ending ++ behind) (omega (arith, packet.not_full))
    ∙ headed_front-wanted room next (length ending) id (place + length bytes) (ending ++ behind) more (want_after-wanted want first full packet.wanted)
    ∙ sized_front-whole room id (place + length bytes) ending behind more (omega (arith, lengths, packet.fits)) packet.not_full)
    ∙ joined-whole first full id ending behind
    ∙ ap (λ p. Whole first id p behind) (sym payload_is)
    ∙ ap (λ l. Whole first l payload behind) (sym packet.ends_at)

-- a refused header stands at the front
pub front-refused : (room : ℕ) (want : Want) (place size id : ℕ) (behind : List ℕ) (fault : FrameFault) → size < 16777216 →
    IsRefused room want place size id fault → front room want place (header_text size id ++ behind) ≡ Fault fault
front-refused room want place size id behind (OutOfOrder at wanted got) h refused =
    let more = front (room - size) (Exactly (id_after id)) (place + 4 + size) (drop size behind) in
    ap (λ w. front room w place (header_text size id ++ behind)) refused.1
    ∙ front-header room (Exactly wanted) place size id behind h
    ∙ headed_front-other room wanted size id place behind more refused.3
    ∙ ap (λ p. Fault (OutOfOrder p wanted id)) (sym refused.0)
    ∙ ap (λ i. Fault (OutOfOrder at wanted i)) (sym refused.2)
front-refused room want place size id behind (TooLarge at) h refused =
    let more = front (room - size) (Exactly (id_after id)) (place + 4 + size) (drop size behind) in
    front-header room want place size id behind h
    ∙ headed_front-wanted room want size id place behind more refused.1
    ∙ sized_front-large room size id place behind more refused.2
    ∙ ap (λ p. Fault (TooLarge p)) (sym refused.0)
front-refused room want place size id behind Memory h refused = absurd refused

pub front-fault : (limit : ℕ) (want : Want) (place : ℕ) (fault : FrameFault) (bytes : List ℕ) →
    IsFault limit want place fault bytes → front limit want place bytes ≡ Fault fault
front-fault limit want place fault bytes shown =
    ap (front limit want place) shown.laid_out
    ∙ front-begun limit want shown.total shown.next shown.before place (header_text shown.size shown.id ++ shown.behind) shown.begun
    ∙ ap (joined shown.begun.first shown.begun.full)
    (front-refused (limit - shown.total) shown.next (place + length shown.before) shown.size shown.id shown.behind fault shown.in_range shown.refused)
    ∙ joined-fault shown.begun.first shown.begun.full fault

-- less than a header, or a header and less than its payload
pub front-cut : (room : ℕ) (want : Want) (place missing : ℕ) (present : List ℕ) → IsCut room want missing present → front room want place present ≡ Part missing
front-cut room want place missing present cut = elim cut [
  | inl short ↦ front-short room want place present short.0 ∙ ap Part (omega (arith, short.1))
  | inr (size, id, some, is, in_range, wanted, fits, less, missing_is) ↦
      let more = front (room - size) (Exactly (id_after id)) (place + 4 + size) (drop size some) in
      ap (front room want place) is
      ∙ front-header room want place size id some in_range
      ∙ headed_front-wanted room want size id place some more wanted
      ∙ sized_front-part room size id place some more fits less
      ∙ ap Part (omega (arith, missing_is))
]

pub front-unfinished : (limit : ℕ) (want : Want) (place missing : ℕ) (bytes : List ℕ) →
    IsUnfinished limit want missing bytes → front limit want place bytes ≡ Part missing
front-unfinished limit want place missing bytes part =
    ap (front limit want place) part.laid_out
    ∙ front-begun limit want part.total part.next part.before place part.present part.begun
    ∙ ap (joined part.begun.first part.begun.full)
    (front-cut (limit - part.total) part.next (place + length part.before) missing part.present part.cut)
    ∙ joined-part part.begun.first part.begun.full missing

-- what stands at the front of bytes is what is computed
pub front-only : (limit : ℕ) (want : Want) (place : ℕ) (bytes : List ℕ) (found : Front) → IsFront limit want place bytes found → front limit want place bytes ≡ found
front-only limit want place bytes (Whole first last payload behind) (head, is, packet) =
    ap (front limit want place) is ∙ front-packet limit want first last payload head place behind packet
front-only limit want place bytes (Part missing) part = front-unfinished limit want place missing bytes part
front-only limit want place bytes (Fault fault) shown = front-fault limit want place fault bytes shown
