-- What stands at the front stays there with further bytes behind it.
use Rattle.std.proofs.Common.{◌≡◌, ◌≢◌, ℕ, zero, suc, ◌+◌, ◌-◌, ◌≤◌, List, [], ◌∷◌, ◌++◌, length, take, drop, refl, sym, ap, ◌∙◌, subst, inl, inr, arith, length-append, length-drop}
use Rattle.std.proofs.lemmas.Bool.{cases_eq, cases_lt}
use Rattle.std.proofs.lemmas.Grind.{common_steps}
use Rattle.std.proofs.lemmas.List.{take-append-le, drop-append-le}
use Rattle.lg_base.specs.Fields.{little}
use Rattle.packet_frame.specs.declared.packets.Want.{Want}
use Rattle.packet_frame.specs.declared.packets.Want.TheVariants.{Exactly, Any}
use Rattle.packet_frame.specs.declared.packets.FrameFault.TheVariants.{TooLarge, OutOfOrder}
use Rattle.packet_frame.specs.Packets.{full_size, id_after}
use Rattle.packet_frame.specs.Front.{Front, Whole, Part, Fault, continued_front, sized_front, headed_front, front, StaysWith}
use Rattle.packet_frame.proofs.Fronts.{front-short, front-four, headed_front-wanted, headed_front-other, sized_front-large, sized_front-part}

pub stays-by : (more : List ℕ) (f f' g g' : Front) → f ≡ f' → g ≡ g' → StaysWith more f' g' → StaysWith more f g
stays-by more f f' g g' a b h = subst (λ x. StaysWith more x g) (sym a) (subst (λ y. StaysWith more f' y) (sym b) h)

pub stays-part : (more : List ℕ) (f g : Front) (missing : ℕ) → f ≡ Part missing → StaysWith more f g
stays-part more f g missing a = subst (λ x. StaysWith more x g) (sym a) tt

pub continued_front-stays : (more : List ℕ) (id : ℕ) (payload : List ℕ) (f g : Front) → StaysWith more f g → StaysWith more (continued_front id payload f) (continued_front id payload g)
continued_front-stays more id payload (Whole first last rest behind) g h = ap (continued_front id payload) h
continued_front-stays more id payload (Part missing) g h = tt
continued_front-stays more id payload (Fault fault) g h = ap (continued_front id payload) h

pub sized_front-at_full : (room id place : ℕ) (behind : List ℕ) (more : Front) → full_size ≤ room → full_size ≤ length behind →
    sized_front room full_size id place behind more ≡ continued_front id (take full_size behind) more
sized_front-at_full room id place behind more h k = grind (arith, common_steps)

pub sized_front-at_end : (room size id place : ℕ) (behind : List ℕ) (more : Front) → size ≤ room → size ≤ length behind → size ≢ full_size →
    sized_front room size id place behind more ≡ Whole id id (take size behind) (drop size behind)
sized_front-at_end room size id place behind more h k other = grind (arith, common_steps)

pub sized_front-stays : (room size id place : ℕ) (behind more : List ℕ) (f g : Front) → (size ≤ length behind → StaysWith more f g) →
    StaysWith more (sized_front room size id place behind f) (sized_front room size id place (behind ++ more) g)
sized_front-stays room size id place behind more f g stays =
    let now = sized_front room size id place behind f in
    let later = sized_front room size id place (behind ++ more) g in
    let longer : length behind ≤ length (behind ++ more) = omega (arith, length-append behind more) in
    elim (cases_lt room size) [
      | inl large ↦ stays-by more now (Fault (TooLarge place)) later (Fault (TooLarge place)) (sized_front-large room size id place behind f large) (sized_front-large room size id place (behind ++ more) g large) refl
      | inr fits ↦ elim (cases_lt (length behind) size) [
        | inl less ↦ stays-part more now later (size - length behind) (sized_front-part room size id place behind f fits less)
        | inr there ↦ elim (cases_eq size full_size) [
          | inl full ↦
              let payload_same : take full_size (behind ++ more) ≡ take full_size behind = take-append-le full_size behind more (omega (arith, there, full)) in
              let now_is : now ≡ continued_front id (take full_size behind) f =
              ap (λ n. sized_front room n id place behind f) full ∙ sized_front-at_full room id place behind f (omega (arith, fits, full)) (omega (arith, there, full)) in
              let later_is : later ≡ continued_front id (take full_size behind) g =
              ap (λ n. sized_front room n id place (behind ++ more) g) full
              ∙ sized_front-at_full room id place (behind ++ more) g (omega (arith, fits, full)) (omega (arith, there, full, longer))
              ∙ ap (λ p. continued_front id p g) payload_same in
              stays-by more now (continued_front id (take full_size behind) f) later (continued_front id (take full_size behind) g) now_is later_is
              (continued_front-stays more id (take full_size behind) f g (stays there))
          | inr other ↦
              let later_is : later ≡ Whole id id (take size behind) (drop size behind ++ more) =
              sized_front-at_end room size id place (behind ++ more) g fits (omega (arith, there, longer)) other
              ∙ ap (λ p. Whole id id p (drop size (behind ++ more))) (take-append-le size behind more there)
              ∙ ap (Whole id id (take size behind)) (drop-append-le size behind more there) in
              stays-by more now (Whole id id (take size behind) (drop size behind)) later (Whole id id (take size behind) (drop size behind ++ more))
              (sized_front-at_end room size id place behind f fits there other) later_is refl
        ]
      ]
    ]

pub headed_front-stays : (room : ℕ) (want : Want) (size id place : ℕ) (behind more : List ℕ) (f g : Front) → (size ≤ length behind → StaysWith more f g) →
    StaysWith more (headed_front room want size id place behind f) (headed_front room want size id place (behind ++ more) g)
headed_front-stays room (Exactly wanted) size id place behind more f g stays =
    let now = headed_front room (Exactly wanted) size id place behind f in
    let later = headed_front room (Exactly wanted) size id place (behind ++ more) g in
    elim (cases_eq id wanted) [
      | inl same ↦
          stays-by more now (sized_front room size id place behind f) later (sized_front room size id place (behind ++ more) g)
          (headed_front-wanted room (Exactly wanted) size id place behind f same) (headed_front-wanted room (Exactly wanted) size id place (behind ++ more) g same)
          (sized_front-stays room size id place behind more f g stays)
      | inr other ↦
          stays-by more now (Fault (OutOfOrder place wanted id)) later (Fault (OutOfOrder place wanted id))
          (headed_front-other room wanted size id place behind f other) (headed_front-other room wanted size id place (behind ++ more) g other) refl
    ]
headed_front-stays room Any size id place behind more f g stays = sized_front-stays room size id place behind more f g stays

pub front-stays : (most : ℕ) (limit : ℕ) (want : Want) (place : ℕ) (bytes more : List ℕ) → length bytes ≤ most →
    StaysWith more (front limit want place bytes) (front limit want place (bytes ++ more))
front-stays _ limit want place [] more h = stays-part more (front limit want place []) (front limit want place more) 4 (front-short limit want place [] (omega arith))
front-stays _ limit want place (a ∷ []) more h =
    stays-part more (front limit want place (a ∷ [])) (front limit want place (a ∷ more)) 3 (front-short limit want place (a ∷ []) (omega arith))
front-stays _ limit want place (a ∷ b ∷ []) more h =
    stays-part more (front limit want place (a ∷ b ∷ [])) (front limit want place (a ∷ b ∷ more)) 2 (front-short limit want place (a ∷ b ∷ []) (omega arith))
front-stays _ limit want place (a ∷ b ∷ c ∷ []) more h =
    stays-part more (front limit want place (a ∷ b ∷ c ∷ [])) (front limit want place (a ∷ b ∷ c ∷ more)) 1 (front-short limit want place (a ∷ b ∷ c ∷ []) (omega arith))
front-stays zero limit want place (a ∷ b ∷ c ∷ id ∷ behind) more h = absurd (omega arith)
front-stays (suc most) limit want place (a ∷ b ∷ c ∷ id ∷ behind) more h =
    let size = little (a ∷ b ∷ c ∷ []) in
    let after = front (limit - size) (Exactly (id_after id)) (place + 4 + size) in
    let rest = drop size behind in
    stays-by more (front limit want place (a ∷ b ∷ c ∷ id ∷ behind)) (headed_front limit want size id place behind (after rest))
    (front limit want place (a ∷ b ∷ c ∷ id ∷ (behind ++ more))) (headed_front limit want size id place (behind ++ more) (after (drop size (behind ++ more))))
    (front-four limit want place a b c id behind) (front-four limit want place a b c id (behind ++ more))
    (headed_front-stays limit want size id place behind more (after rest) (after (drop size (behind ++ more)))
    (λ there. subst (λ r. StaysWith more (after rest) (after r)) (sym (drop-append-le size behind more there))
    (front-stays most (limit - size) (Exactly (id_after id)) (place + 4 + size) rest more (omega (arith, length-drop size behind)))))
