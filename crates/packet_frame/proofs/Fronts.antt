-- The front of bytes, step by step: what a header, full pieces and the last piece give.
use Rattle.std.proofs.Common.{◌≡◌, ◌≢◌, ℕ, zero, suc, ◌+◌, ◌-◌, ◌/◌, ◌%◌, ◌<◌, ◌≤◌, List, [], ◌∷◌, ◌++◌, length, drop, refl, ap, ◌∙◌, arith, length-append, length-drop}
use Rattle.std.proofs.lemmas.List.{take_at, drop_at}
use Rattle.std.proofs.lemmas.Grind.{common_steps}
use Rattle.lg_base.specs.Fields.{little, little_text}
use Rattle.packet_frame.specs.declared.packets.Want.{Want}
use Rattle.packet_frame.specs.declared.packets.Want.TheVariants.{Exactly, Any}
use Rattle.packet_frame.specs.declared.packets.FrameFault.TheVariants.{TooLarge, OutOfOrder}
use Rattle.packet_frame.specs.Packets.{full_size, id_after, header_text, Wants}
use Rattle.packet_frame.specs.Front.{Front, Whole, Part, Fault, continued_front, sized_front, headed_front, front_within, front}

-- three bytes of a number below 2 ^ 24 stand for it
pub little_three : (size : ℕ) → size < 16777216 → little (little_text 3 size) ≡ size
little_three size h = omega arith

-- it doesn't matter how many bytes there are at most
pub front_within-same : (m n : ℕ) (room : ℕ) (want : Want) (place : ℕ) (bytes : List ℕ) → length bytes ≤ m → length bytes ≤ n → front_within m room want place bytes ≡ front_within n room want place bytes
front_within-same _ _ room want place [] h k = refl
front_within-same _ _ room want place (_ ∷ []) h k = refl
front_within-same _ _ room want place (_ ∷ _ ∷ []) h k = refl
front_within-same _ _ room want place (_ ∷ _ ∷ _ ∷ []) h k = refl
front_within-same zero _ room want place (_ ∷ _ ∷ _ ∷ _ ∷ _) h k = absurd (omega arith)
front_within-same (suc _) zero room want place (_ ∷ _ ∷ _ ∷ _ ∷ _) h k = absurd (omega arith)
front_within-same (suc m) (suc n) room want place (a ∷ b ∷ c ∷ id ∷ behind) h k =
    let size = little (a ∷ b ∷ c ∷ []) in
    ap (headed_front room want size id place behind)
    (front_within-same m n (room - size) (Exactly (id_after id)) (place + 4 + size) (drop size behind)
    (omega (arith, length-drop size behind)) (omega (arith, length-drop size behind)))

-- less than a header
pub front-short : (limit : ℕ) (want : Want) (place : ℕ) (bytes : List ℕ) → length bytes < 4 → front limit want place bytes ≡ Part (4 - length bytes)
unfolding front
front-short limit want place [] h = refl
front-short limit want place (_ ∷ []) h = refl
front-short limit want place (_ ∷ _ ∷ []) h = refl
front-short limit want place (_ ∷ _ ∷ _ ∷ []) h = refl
front-short limit want place (_ ∷ _ ∷ _ ∷ _ ∷ _) h = absurd (omega arith)

pub front-nothing : (limit : ℕ) (want : Want) (place : ℕ) → front limit want place [] ≡ Part 4
front-nothing limit want place = front-short limit want place [] (omega arith)

-- four bytes
pub front-four : (limit : ℕ) (want : Want) (place a b c id : ℕ) (behind : List ℕ) →
    front limit want place (a ∷ b ∷ c ∷ id ∷ behind)
    ≡ headed_front limit want (little (a ∷ b ∷ c ∷ [])) id place behind
    (front (limit - little (a ∷ b ∷ c ∷ [])) (Exactly (id_after id)) (place + 4 + little (a ∷ b ∷ c ∷ []))
    (drop (little (a ∷ b ∷ c ∷ [])) behind))
unfolding front
front-four limit want place a b c id behind =
    let size = little (a ∷ b ∷ c ∷ []) in
    let rest = drop size behind in
    ap (headed_front limit want size id place behind)
    (front_within-same (suc (suc (suc (length behind)))) (length rest) (limit - size) (Exactly (id_after id)) (place + 4 + size) rest
    (omega (arith, length-drop size behind)) (omega arith))

-- a header
pub front-header : (limit : ℕ) (want : Want) (place size id : ℕ) (behind : List ℕ) → size < 16777216 →
    front limit want place (header_text size id ++ behind)
    ≡ headed_front limit want size id place behind
    (front (limit - size) (Exactly (id_after id)) (place + 4 + size) (drop size behind))
front-header limit want place size id behind h =
    front-four limit want place (size % 256) (size / 256 % 256) (size / 256 / 256 % 256) id behind
    ∙ ap (λ n. headed_front limit want n id place behind (front (limit - n) (Exactly (id_after id)) (place + 4 + n) (drop n behind))) (little_three size h)

-- a wanted id is taken
pub headed_front-wanted : (room : ℕ) (want : Want) (size id place : ℕ) (behind : List ℕ) (more : Front) → Wants want id → headed_front room want size id place behind more ≡ sized_front room size id place behind more
headed_front-wanted room (Exactly wanted) size id place behind more h = grind (arith, common_steps)
headed_front-wanted room Any size id place behind more h = refl

pub headed_front-other : (room wanted size id place : ℕ) (behind : List ℕ) (more : Front) → id ≢ wanted → headed_front room (Exactly wanted) size id place behind more ≡ Fault (OutOfOrder place wanted id)
headed_front-other room wanted size id place behind more h = grind (arith, common_steps)

pub sized_front-large : (room size id place : ℕ) (behind : List ℕ) (more : Front) → room < size → sized_front room size id place behind more ≡ Fault (TooLarge place)
sized_front-large room size id place behind more h = grind (arith, common_steps)

pub sized_front-part : (room size id place : ℕ) (behind : List ℕ) (more : Front) → size ≤ room → length behind < size → sized_front room size id place behind more ≡ Part (size - length behind)
sized_front-part room size id place behind more h k = grind (arith, common_steps)

pub sized_front-full : (room id place : ℕ) (payload behind : List ℕ) (more : Front) → full_size ≤ room → length payload ≡ full_size → sized_front room full_size id place (payload ++ behind) more ≡ continued_front id payload more
sized_front-full room id place payload behind more h e =
    let longer : full_size ≤ length (payload ++ behind) = omega (arith, length-append payload behind) in
    let front_is = take_at payload behind full_size e in
    grind (arith, common_steps)

pub sized_front-whole : (room id place : ℕ) (payload behind : List ℕ) (more : Front) → length payload ≤ room → length payload < full_size → sized_front room (length payload) id place (payload ++ behind) more ≡ Whole id id payload behind
sized_front-whole room id place payload behind more h k =
    let longer : length payload ≤ length (payload ++ behind) = omega (arith, length-append payload behind) in
    let front_is = take_at payload behind (length payload) refl in
    let behind_is = drop_at payload behind (length payload) refl in
    grind (arith, common_steps)
