-- A packet at the front of bytes is found in its own bytes, whatever follows them.
use Rattle.std.proofs.Common.{◌≡◌, ◌≢◌, ℕ, zero, suc, ◌+◌, ◌-◌, ◌≤◌, List, [], ◌∷◌, ◌++◌, length, take, drop, refl, sym, ap, ◌∙◌, subst, inl, inr, arith, append_assoc, length-append, length-drop}
use Rattle.std.proofs.lemmas.Bool.{cases_eq, cases_lt}
use Rattle.std.proofs.lemmas.List.{take-append-drop, length-take-le, take_at, drop_at}
use Rattle.lg_base.specs.Fields.{little}
use Rattle.packet_frame.specs.declared.packets.Want.{Want}
use Rattle.packet_frame.specs.declared.packets.Want.TheVariants.{Exactly, Any}
use Rattle.packet_frame.specs.declared.packets.FrameFault.TheVariants.{TooLarge, OutOfOrder}
use Rattle.packet_frame.specs.Packets.{full_size, id_after}
use Rattle.packet_frame.specs.Front.{Front, Whole, Part, Fault, continued_front, sized_front, headed_front, front}
use Rattle.packet_frame.proofs.Fronts.{front-short, front-four, headed_front-wanted, headed_front-other, sized_front-large, sized_front-part, sized_front-full}
use Rattle.packet_frame.proofs.Longer.{sized_front-at_end}

-- where a packet is found in bytes, it is found in the bytes before what follows it, with anything behind them
abbrev pub Cuts : (List ℕ → Front) → List ℕ → Front → Type 0
Cuts found bytes (Whole first last payload behind) =
    (head : List ℕ) × (bytes ≡ head ++ behind) × ((more : List ℕ) → found (head ++ more) ≡ Whole first last payload more)
Cuts found bytes (Part missing) = Unit {0}
Cuts found bytes (Fault fault) = Unit {0}

cuts-by : (found : List ℕ → Front) (bytes : List ℕ) (f f' : Front) → f ≡ f' → Cuts found bytes f' → Cuts found bytes f
cuts-by found bytes f f' e cuts = subst (Cuts found bytes) (sym e) cuts

-- behind a beginning of the bytes
cuts-behind : (found after : List ℕ → Front) (begin : List ℕ) → ((bytes : List ℕ) → found (begin ++ bytes) ≡ after bytes) →
    (bytes : List ℕ) (f : Front) → Cuts after bytes f → Cuts found (begin ++ bytes) f
cuts-behind found after begin same bytes (Whole first last payload behind) cuts = (
  begin ++ cuts.0,
  ap (λ bs. begin ++ bs) cuts.1 ∙ sym (append_assoc begin cuts.0 behind),
  λ more. ap found (append_assoc begin cuts.0 more) ∙ (same (cuts.0 ++ more) ∙ cuts.2 more),
)
cuts-behind found after begin same bytes (Part missing) cuts = tt
cuts-behind found after begin same bytes (Fault fault) cuts = tt

-- behind a full piece
cuts-continued : (found after : List ℕ → Front) (id : ℕ) (piece : List ℕ) → ((bytes : List ℕ) → found (piece ++ bytes) ≡ continued_front id piece (after bytes)) →
    (bytes : List ℕ) (f : Front) → Cuts after bytes f → Cuts found (piece ++ bytes) (continued_front id piece f)
cuts-continued found after id piece same bytes (Whole first last payload behind) cuts = (
  piece ++ cuts.0,
  ap (λ bs. piece ++ bs) cuts.1 ∙ sym (append_assoc piece cuts.0 behind),
  λ more. ap found (append_assoc piece cuts.0 more) ∙ (same (cuts.0 ++ more) ∙ ap (continued_front id piece) (cuts.2 more)),
)
cuts-continued found after id piece same bytes (Part missing) cuts = tt
cuts-continued found after id piece same bytes (Fault fault) cuts = tt

module _ (room id place size : ℕ) (after : List ℕ → Front) where
  abbrev sized : List ℕ → Front
  sized bytes = sized_front room size id place bytes (after (drop size bytes))

  -- the last piece
  sized-ends : (piece more : List ℕ) → size ≤ room → size ≢ full_size → length piece ≡ size → sized (piece ++ more) ≡ Whole id id piece more
  sized-ends piece more fits other e =
      sized_front-at_end room size id place (piece ++ more) (after (drop size (piece ++ more))) fits (omega (arith, length-append piece more, e)) other
      ∙ ap (λ p. Whole id id p (drop size (piece ++ more))) (take_at piece more size e)
      ∙ ap (Whole id id piece) (drop_at piece more size e)

  -- a full piece
  sized-goes-on : (piece more : List ℕ) → size ≤ room → size ≡ full_size → length piece ≡ size → sized (piece ++ more) ≡ continued_front id piece (after more)
  sized-goes-on piece more fits full e =
      ap (λ n. sized_front room n id place (piece ++ more) (after (drop size (piece ++ more)))) full
      ∙ sized_front-full room id place piece more (after (drop size (piece ++ more))) (omega (arith, fits, full)) (e ∙ full)
      ∙ ap (λ bs. continued_front id piece (after bs)) (drop_at piece more size e)

  sized-cuts : (bytes : List ℕ) → (size ≤ length bytes → Cuts after (drop size bytes) (after (drop size bytes))) → Cuts sized bytes (sized bytes)
  sized-cuts bytes later =
      elim (cases_lt room size) [
        | inl large ↦ cuts-by sized bytes (sized bytes) (Fault (TooLarge place)) (sized_front-large room size id place bytes (after (drop size bytes)) large) tt
        | inr fits ↦ elim (cases_lt (length bytes) size) [
          | inl less ↦ cuts-by sized bytes (sized bytes) (Part (size - length bytes)) (sized_front-part room size id place bytes (after (drop size bytes)) fits less) tt
          | inr there ↦ elim (cases_eq size full_size) [
            | inl full ↦ in_two (λ bs. Cuts sized bs (sized bs)) there (
                cuts-by sized (take size bytes ++ drop size bytes) (sized (take size bytes ++ drop size bytes)) (continued_front id (take size bytes) (after (drop size bytes)))
                (sized-goes-on (take size bytes) (drop size bytes) fits full (long there))
                (cuts-continued sized after id (take size bytes) (λ bs. sized-goes-on (take size bytes) bs fits full (long there)) (drop size bytes) (after (drop size bytes)) (later there)))
            | inr other ↦ in_two (λ bs. Cuts sized bs (sized bs)) there (
                cuts-by sized (take size bytes ++ drop size bytes) (sized (take size bytes ++ drop size bytes)) (Whole id id (take size bytes) (drop size bytes))
                (sized-ends (take size bytes) (drop size bytes) fits other (long there))
                (take size bytes, refl, λ more. sized-ends (take size bytes) more fits other (long there)))
          ]
        ]
      ]
    where
      long : size ≤ length bytes → length (take size bytes) ≡ size
      long there = length-take-le size bytes there

      in_two : (P : List ℕ → Type 0) → size ≤ length bytes → P (take size bytes ++ drop size bytes) → P bytes
      in_two P there p = subst P (take-append-drop size bytes) p

headed-cuts : (room : ℕ) (want : Want) (size id place : ℕ) (after : List ℕ → Front) (bytes : List ℕ) →
    Cuts (sized room id place size after) bytes (sized room id place size after bytes) →
    Cuts (λ bs. headed_front room want size id place bs (after (drop size bs))) bytes (headed_front room want size id place bytes (after (drop size bytes)))
headed-cuts room (Exactly wanted) size id place after bytes cuts =
    elim (cases_eq id wanted) [
      | inl same ↦
          cuts-by headed bytes (headed bytes) (sized room id place size after bytes) (headed_front-wanted room (Exactly wanted) size id place bytes (after (drop size bytes)) same)
          (cuts-behind headed (sized room id place size after) [] (λ bs. headed_front-wanted room (Exactly wanted) size id place bs (after (drop size bs)) same) bytes (sized room id place size after bytes) cuts)
      | inr other ↦ cuts-by headed bytes (headed bytes) (Fault (OutOfOrder place wanted id)) (headed_front-other room wanted size id place bytes (after (drop size bytes)) other) tt
    ]
  where
    headed : List ℕ → Front
    headed bs = headed_front room (Exactly wanted) size id place bs (after (drop size bs))
headed-cuts room Any size id place after bytes cuts = cuts

pub front-cuts : (most : ℕ) (limit : ℕ) (want : Want) (place : ℕ) (bytes : List ℕ) → length bytes ≤ most → Cuts (front limit want place) bytes (front limit want place bytes)
front-cuts _ limit want place [] h = cuts-by (front limit want place) [] _ (Part 4) (front-short limit want place [] (omega arith)) tt
front-cuts _ limit want place (a ∷ []) h = cuts-by (front limit want place) (a ∷ []) _ (Part 3) (front-short limit want place (a ∷ []) (omega arith)) tt
front-cuts _ limit want place (a ∷ b ∷ []) h = cuts-by (front limit want place) (a ∷ b ∷ []) _ (Part 2) (front-short limit want place (a ∷ b ∷ []) (omega arith)) tt
front-cuts _ limit want place (a ∷ b ∷ c ∷ []) h = cuts-by (front limit want place) (a ∷ b ∷ c ∷ []) _ (Part 1) (front-short limit want place (a ∷ b ∷ c ∷ []) (omega arith)) tt
front-cuts zero limit want place (a ∷ b ∷ c ∷ id ∷ behind) h = absurd (omega arith)
front-cuts (suc most) limit want place (a ∷ b ∷ c ∷ id ∷ behind) h =
    let size = little (a ∷ b ∷ c ∷ []) in
    let after = front (limit - size) (Exactly (id_after id)) (place + 4 + size) in
    let headed : List ℕ → Front = (λ bs. headed_front limit want size id place bs (after (drop size bs))) in
    cuts-by (front limit want place) (a ∷ b ∷ c ∷ id ∷ behind) _ (headed behind) (front-four limit want place a b c id behind)
    (cuts-behind (front limit want place) headed (a ∷ b ∷ c ∷ id ∷ []) (λ bs. front-four limit want place a b c id bs) behind (headed behind)
    (headed-cuts limit want size id place after behind (sized-cuts limit id place size after behind
    (λ there. front-cuts most (limit - size) (Exactly (id_after id)) (place + 4 + size) (drop size behind) (omega (arith, length-drop size behind))))))
