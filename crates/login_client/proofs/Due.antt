-- The bytes that a server sends decide how a login over a link ends.
use Rattle.std.proofs.Common.{◌≡◌, ◌⊎◌, inl, inr, ⊎_elim, refl, sym, ap, ◌∙◌, subst, ℕ, ◌+◌, ◌*◌, List, [], ◌∷◌, ◌++◌, length, Option, Some, arith, append_assoc, append-nil, length-append}
use Rattle.std.specs.List.{concat}
use Rattle.lg_outside.specs.Traffic.{Traffic}
use Rattle.packet_frame.specs.Front.{Whole, front}
use Rattle.packet_frame.specs.Packets.{AllFull, id_after, id_at, IsPacket}
use Rattle.packet_frame.specs.Streams.{Ending, Between, Cut, Faulty, IsEnding}
use Rattle.packet_frame.specs.declared.packets.Want.{Want}
use Rattle.packet_frame.specs.declared.packets.Want.TheVariants.{Exactly}
use Rattle.packet_frame.proofs.Readings.{concat-push, front-packet}
use Rattle.packet_frame.proofs.Streams.{ending-no_packet, fault-goes_on, front-ending}
use Rattle.link_packets.specs.Moving.{IsAtEnd}
use Rattle.login_client.specs.Exchange.{EndsAs, EndsAsDue, IsExchange, IsOpen, Stand, Waits, Ends, closed, decided, failed, framing, hears, no_memory, over, says, waits}
use Rattle.packet_stream.specs.declared.limits.TheConstants.{MAX_PAYLOAD}
use Rattle.login_client.specs.Hearing.{IsHeard}
use Rattle.login_client.specs.Talk.{Talk, Hears, Says, Over}
use Rattle.login_client.specs.declared.ends.LoginEnd.{LoginEnd}
use Rattle.login_client.specs.declared.hearing.Heard.{Heard}
use Rattle.login_client.proofs.Meaning.{one-meaning}

-- ## A packet's last id is told by its first one and its payload

concat-full : (full : List (List ℕ)) → AllFull full → length (concat full) ≡ 16777215 * length full
concat-full [] each = refl
concat-full (piece ∷ full) each = omega (arith, each.0, concat-full full each.1, length-append piece (concat full))

payload-length : (limit : ℕ) (want : Want) (first last : ℕ) (payload text : List ℕ) → (p : IsPacket limit want first last payload text) → length payload ≡ 16777215 * length p.full + length p.ending
payload-length limit want first last payload text p =
    omega (arith, ap (λ (l : List ℕ). length l) (p.joined ∙ concat-push p.full p.ending), length-append (concat p.full) p.ending, concat-full p.full p.each_full)

one-last : (limit limit' : ℕ) (want want' : Want) (first last last' : ℕ) (payload text text' : List ℕ) → IsPacket limit want first last payload text → IsPacket limit' want' first last' payload text' → last ≡ last'
one-last limit limit' want want' first last last' payload text text' p q =
    let pieces : length p.full ≡ length q.full =
    omega (arith, payload-length limit want first last payload text p, payload-length limit' want' first last' payload text' q, p.not_full, q.not_full) in
    p.ends_at ∙ ap (λ (n : ℕ). id_at first n) pieces ∙ sym q.ends_at

-- ## What an exchange of a talk is

abbrev Inverse : Talk → (id place : ℕ) → (got sent : List ℕ) → Stand → Type 0
Inverse (Hears k) id place got sent stand =
    ((ending : Ending) × (stand ≡ Waits ending) × IsEnding MAX_PAYLOAD (Exactly id) place got ending)
    ⊎ ((first last : ℕ) × (payload head rest : List ℕ) × (heard : Heard) × (got ≡ head ++ rest) × IsPacket MAX_PAYLOAD (Exactly id) first last payload head × IsHeard payload heard
    × IsExchange (k heard) (id_after last) (place + length head) rest sent stand)
Inverse (Says said k) id place got sent stand =
    (last : ℕ) × (text rest : List ℕ) × IsPacket (length said) (Exactly id) id last said text × IsExchange (Hears k) (id_after last) place got rest stand
Inverse (Over end) id place got sent stand = stand ≡ Ends end

inverse : (talk : Talk) (id place : ℕ) (got sent : List ℕ) (stand : Stand) → IsExchange talk id place got sent stand → Inverse talk id place got sent stand
inverse _ _ _ _ _ _ (hears k id place first last payload head got sent heard stand packet is-heard x) = inr (first, last, payload, head, got, heard, refl, packet, is-heard, x)
inverse _ _ _ _ _ _ (waits k id place got ending ends) = inl (ending, refl, ends)
inverse _ _ _ _ _ _ (says said k id place last text got sent stand packet x) = (last, text, sent, packet, x)
inverse _ _ _ _ _ _ (over end id place) = refl

-- ## No two ends

-- a talk that waits for a payload waits in vain: there are no further bytes, or those that were got are no packet
abbrev InVain : Stand → List ℕ → Type 0
InVain (Ends end) behind = Unit {0}
InVain (Waits Between) behind = behind ≡ []
InVain (Waits (Cut at)) behind = behind ≡ []
InVain (Waits (Faulty fault)) behind = Unit {0}

still-ends : (ending : Ending) (id place : ℕ) (bytes behind : List ℕ) → IsEnding MAX_PAYLOAD (Exactly id) place bytes ending → InVain (Waits ending) behind
    → IsEnding MAX_PAYLOAD (Exactly id) place (bytes ++ behind) ending
still-ends Between id place bytes behind ends none = subst (λ (l : List ℕ). IsEnding MAX_PAYLOAD (Exactly id) place l Between) (sym (ap (λ (l : List ℕ). bytes ++ l) none ∙ append-nil bytes)) ends
still-ends (Cut at) id place bytes behind ends none = subst (λ (l : List ℕ). IsEnding MAX_PAYLOAD (Exactly id) place l (Cut at)) (sym (ap (λ (l : List ℕ). bytes ++ l) none ∙ append-nil bytes)) ends
still-ends (Faulty fault) id place bytes behind ends none = fault-goes_on MAX_PAYLOAD (Exactly id) place fault bytes behind ends

-- a packet at the front of bytes that go on
front-is : (id first last place : ℕ) (payload head rest behind bytes : List ℕ) → IsPacket MAX_PAYLOAD (Exactly id) first last payload head → bytes ≡ (head ++ rest) ++ behind
    → front MAX_PAYLOAD (Exactly id) place bytes ≡ Whole first last payload (rest ++ behind)
front-is id first last place payload head rest behind bytes packet is =
    ap (λ (l : List ℕ). front MAX_PAYLOAD (Exactly id) place l) (is ∙ append_assoc head rest behind)
    ∙ front-packet MAX_PAYLOAD (Exactly id) first last payload head place (rest ++ behind) packet

never-waits : (ending : Ending) (id place first last : ℕ) (payload head rest behind bytes tail : List ℕ) → IsPacket MAX_PAYLOAD (Exactly id) first last payload head
    → (head ++ rest) ++ behind ≡ bytes ++ tail → IsEnding MAX_PAYLOAD (Exactly id) place bytes ending → InVain (Waits ending) tail → ⊥
never-waits ending id place first last payload head rest behind bytes tail packet same ends vain =
    ending-no_packet ending place (front MAX_PAYLOAD (Exactly id) place (bytes ++ tail)) first last payload (rest ++ behind)
    (front-ending MAX_PAYLOAD (Exactly id) place (bytes ++ tail) ending (still-ends ending id place bytes tail ends vain))
    (front-is id first last place payload head rest behind (bytes ++ tail) packet (sym same))

-- two packets at the front of the same bytes
record SamePacket (last last' : ℕ) (payload payload' rest rest' : List ℕ) : Type 0 where
  pub lasts : last' ≡ last
  pub payloads : payload' ≡ payload
  pub rests : rest ≡ rest'

same-packet : (id first last first' last' : ℕ) (payload head rest behind payload' head' rest' behind' : List ℕ) → IsPacket MAX_PAYLOAD (Exactly id) first last payload head
    → IsPacket MAX_PAYLOAD (Exactly id) first' last' payload' head' → (head ++ rest) ++ behind ≡ (head' ++ rest') ++ behind'
    → SamePacket last last' payload payload' (rest ++ behind) (rest' ++ behind')
same-packet id first last first' last' payload head rest behind payload' head' rest' behind' p q same =
    let x = front-is id first last 0 payload head rest behind ((head ++ rest) ++ behind) p refl in
    let y = front-is id first' last' 0 payload' head' rest' behind' ((head ++ rest) ++ behind) q same in
    record {
      lasts = cc;
      payloads = cc;
      rests = cc;
    }

agree : (talk : Talk) (id place place' : ℕ) (got sent got' sent' behind behind' : List ℕ) (stand stand' : Stand) (due : LoginEnd) → IsExchange talk id place got sent stand → stand ≡ Ends due
    → IsExchange talk id place' got' sent' stand' → got ++ behind ≡ got' ++ behind' → InVain stand' behind' → stand' ≡ Ends due
agree _ _ _ place' _ _ got' sent' behind behind' _ stand' due (hears k id place first last payload head got sent heard stand packet is-heard x) is y same vain =
    ⊎_elim {C = stand' ≡ Ends due}
    (λ (w : (ending : Ending) × (stand' ≡ Waits ending) × IsEnding MAX_PAYLOAD (Exactly id) place' got' ending).
    absurd (never-waits w.0 id place' first last payload head got behind got' behind' packet same w.2 (subst (λ (s : Stand). InVain s behind') w.1 vain)))
    (λ (h : (first' last' : ℕ) × (payload' head' rest' : List ℕ) × (heard' : Heard) × (got' ≡ head' ++ rest') × IsPacket MAX_PAYLOAD (Exactly id) first' last' payload' head' × IsHeard payload' heard'
    × IsExchange (k heard') (id_after last') (place' + length head') rest' sent' stand').
    let same-two : SamePacket last h.1 payload h.2 (got ++ behind) (h.4 ++ behind') =
    same-packet id first last h.0 h.1 payload head got behind h.2 h.3 h.4 behind' packet h.7 (same ∙ ap (λ (l : List ℕ). l ++ behind') h.6) in
    let meaning : h.5 ≡ heard = one-meaning payload h.5 heard (subst (λ (l : List ℕ). IsHeard l h.5) same-two.payloads h.8) is-heard in
    let y' = subst (λ (n : ℕ). IsExchange (k heard) (id_after n) (place' + length h.3) h.4 sent' stand') same-two.lasts
    (subst (λ (i : Heard). IsExchange (k i) (id_after h.1) (place' + length h.3) h.4 sent' stand') meaning h.9) in
    agree (k heard) (id_after last) (place + length head) (place' + length h.3) got sent h.4 sent' behind behind' stand stand' due x is y' same-two.rests vain)
    (inverse (Hears k) id place' got' sent' stand' y)
agree _ _ _ place' _ _ got' sent' behind behind' _ stand' due (waits k id place got ending ends) is y same vain = absurd (cc)
agree _ _ _ place' _ _ got' sent' behind behind' _ stand' due (says said k id place last text got sent stand packet x) is y same vain =
    let h = inverse (Says said k) id place' got' sent' stand' y in
    let lasts : h.0 ≡ last = one-last (length said) (length said) (Exactly id) (Exactly id) id h.0 last said h.1 text h.3 packet in
    agree (Hears k) (id_after last) place place' got sent got' h.2 behind behind' stand stand' due x is
    (subst (λ (n : ℕ). IsExchange (Hears k) (id_after n) place' got' h.2 stand') lasts h.4) same vain
agree _ _ _ place' _ _ got' sent' behind behind' _ stand' due (over end id place) is y same vain = inverse (Over end) id place' got' sent' stand' y ∙ is

-- ## The end

end-vain : (ending : Ending) (left : List ℕ) → IsOpen ending → left ≡ [] → InVain (Waits ending) left
end-vain Between left open_ none = none
end-vain (Cut at) left open_ none = none
end-vain (Faulty fault) left open_ none = absurd open_

pub ends-as-due : (talk : Talk) (id place : ℕ) (t : Traffic) (after : Option Traffic) (Rises : Type 0) (got behind sent : List ℕ) (due end : LoginEnd) → IsExchange talk id place got sent (Ends due)
    → t.left ≡ got ++ behind → EndsAs talk id place (Some t) after Rises end → EndsAsDue due Rises end
ends-as-due talk id place t after Rises got behind sent due _ x split (decided got' sent' end is-decided moved y) =
    let same : Ends end ≡ Ends due = agree talk id place place got sent got' sent' behind moved.0 (Ends due) (Ends end) due x refl y (sym split ∙ moved.1) tt in
    inl (cc)
ends-as-due talk id place t after Rises got behind sent due _ x split (framing got' sent' fault moved y) =
    let same : Waits (Faulty fault) ≡ Ends due = agree talk id place place got sent got' sent' behind moved.0 (Ends due) (Waits (Faulty fault)) due x refl y (sym split ∙ moved.1) tt in
    absurd (cc)
ends-as-due talk id place t after Rises got behind sent due _ x split (closed got' sent' ending open_ moved y at-end) =
    let none : moved.0 ≡ [] = subst (λ (a : Option Traffic). IsAtEnd a) moved.2 at-end in
    let same : Waits ending ≡ Ends due = agree talk id place place got sent got' sent' behind moved.0 (Ends due) (Waits ending) due x refl y (sym split ∙ moved.1) (end-vain ending moved.0 open_ none) in
    absurd (cc)
ends-as-due talk id place t after Rises got behind sent due _ x split (failed got' sent' count stand moved y rises) = inr (inl (refl, rises))
ends-as-due talk id place t after Rises got behind sent due _ x split (no_memory got' more sent' count stand moved y) = inr (inr refl)
