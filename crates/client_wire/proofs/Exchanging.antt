-- What comes of bytes is an exchange.
use Rattle.std.proofs.Common.{◌≡◌, refl, ap, sym, ◌∙◌, subst, ℕ, ◌+◌, ◌-◌, ◌<◌, List, [], ◌∷◌, ◌++◌, length, drop, length-append, append_assoc, arith}
use Rattle.std.specs.Prelude.{All}
use Rattle.std.proofs.lemmas.List.{drop_at}
use Rattle.std.proofs.lemmas.List.Elements.{All-drop}
use Rattle.packet_frame.specs.Front.{Front, Whole, Part, Fault, IsFront}
use Rattle.packet_frame.specs.Packets.{IsUnfinished, id_after}
use Rattle.packet_frame.specs.Streams.{Between, Cut, Faulty}
use Rattle.packet_frame.specs.declared.packets.Want.TheVariants.{Exactly}
use Rattle.packet_frame.proofs.Shown.{front-stands}
use Rattle.packet_stream.specs.Sent.{id_behind}
use Rattle.packet_stream.specs.Streams.{Stream, behind_of, front_of}
use Rattle.packet_stream.specs.declared.limits.TheConstants.{MAX_PAYLOAD}
use Rattle.login_client.specs.Exchange as exchange
use Rattle.login_client.specs.Exchange.{Ends, IsExchange, Stand, Waits}
use Rattle.login_client.specs.Heard.{heard_of}
use Rattle.login_client.specs.Talk.{Talk, Hears, Says, Over}
use Rattle.login_client.specs.declared.hearing.Heard.{Heard}
use Rattle.login_client.proofs.HeardOf.{heard_of_is}
use Rattle.client_wire.specs.Getting.{Got, after_written, getting, rests}
use Rattle.client_wire.specs.Laws as laws
use Rattle.client_wire.specs.Laws.{ComesTo, GettingIsExchange}
use Rattle.packet_stream.specs.Packing.{packet_text}
use Rattle.client_wire.proofs.Fronted.{at_front}
use Rattle.packet_stream.proofs.Packed.{text_is_packet}

abbrev Below : List ℕ → Type 0
Below bytes = All (λ x. x < 256) bytes

abbrev Comes : (next : ℕ) → Talk → Stream → Got → Type 0
Comes next t stream g = ComesTo t next stream.place stream.bytes g

-- bytes behind others
behind_below : (bytes head behind : List ℕ) → bytes ≡ head ++ behind → Below bytes → Below behind
behind_below bytes head behind split below =
    subst Below (ap (drop (length head)) split ∙ drop_at head behind (length head) refl) (All-drop (λ x. x < 256) (length head) bytes below)

-- ## A talk that hears

module _ (next : ℕ) (k : Heard → Talk) (stream : Stream) where
  abbrev Shows : Front → Type 0
  Shows f = IsFront MAX_PAYLOAD (Exactly next) stream.place stream.bytes f

  abbrev Again : Type 0
  Again = (last : ℕ) (payload : List ℕ) (s : Stream) → Below s.bytes → Comes (id_after last) (k (heard_of payload)) s (getting (id_after last) (k (heard_of payload)) s)

  -- a packet is heard, and then the bytes behind it
  heard_then : (first last : ℕ) (payload behind : List ℕ) (g : Got) → Shows (Whole first last payload behind) →
      Comes (id_after last) (k (heard_of payload)) (behind_of stream behind) g → Comes next (Hears k) stream g
  heard_then first last payload behind g (head, split, is) comes =
      subst (λ (bytes : List ℕ). ComesTo (Hears k) next stream.place bytes g) (sym split) (with_head comes)
    where
      place_is : stream.place + (length stream.bytes - length behind) ≡ stream.place + length head
      place_is = omega (arith, ap length split, length-append head behind)

      hears : (got : List ℕ) (stand : Stand) → IsExchange (k (heard_of payload)) (id_after last) (stream.place + (length stream.bytes - length behind)) got g.sent stand →
          IsExchange (Hears k) next stream.place (head ++ got) g.sent stand
      hears got stand went =
          exchange.hears k next stream.place first last payload head got g.sent (heard_of payload) stand is (heard_of_is payload)
          (subst (λ (place : ℕ). IsExchange (k (heard_of payload)) (id_after last) place got g.sent stand) place_is went)

      with_head : Comes (id_after last) (k (heard_of payload)) (behind_of stream behind) g → ComesTo (Hears k) next stream.place (head ++ behind) g
      with_head (laws.ends got rest end split_there at went) =
          laws.ends (head ++ got) rest end (ap (λ (bytes : List ℕ). head ++ bytes) split_there ∙ sym (append_assoc head got rest)) at (hears got (Ends end) went)
      with_head (laws.faults fault at went) = laws.faults fault at (hears behind (Waits (Faulty fault)) went)
      with_head (laws.waits ending opened waiting went) = laws.waits ending opened waiting (hears behind (Waits ending) went)

  -- less than a packet
  waits_at : (missing : ℕ) (bytes : List ℕ) → IsUnfinished MAX_PAYLOAD (Exactly next) missing bytes → ComesTo (Hears k) next stream.place bytes (rests next (Hears k) stream)
  waits_at missing [] part = laws.waits Between tt tt (exchange.waits k next stream.place [] Between refl)
  waits_at missing (x ∷ xs) part =
      laws.waits (Cut stream.place) tt tt (exchange.waits k next stream.place (x ∷ xs) (Cut stream.place) ((λ none. cc), refl, missing, part))

  by_shown : Again → Below stream.bytes → (f : Front) → Shows f → Comes next (Hears k) stream (at_front next k stream f)
  by_shown again below (Whole first last payload behind) (head, split, is) =
      heard_then first last payload behind (at_front next k stream (Whole first last payload behind)) (head, split, is)
      (again last payload (behind_of stream behind) (behind_below stream.bytes head behind split below))
  by_shown again below (Part missing) part = waits_at missing stream.bytes part
  by_shown again below (Fault fault) shown =
      laws.faults fault refl (exchange.waits k next stream.place stream.bytes (Faulty fault) shown)

  pub hears_comes : Again → Below stream.bytes → Comes next (Hears k) stream (at_front next k stream (front_of next stream))
  hears_comes again below = by_shown again below (front_of next stream) (front-stands MAX_PAYLOAD (Exactly next) stream.place stream.bytes below)

-- ## A talk that says

says_comes : (next : ℕ) (said : List ℕ) (k : Heard → Talk) (stream : Stream) (g : Got) → Comes (id_behind next said) (Hears k) stream g →
    Comes next (Says said k) stream (after_written (packet_text next said) g)
says_comes next said k stream g comes = with_text comes
  where
    says : (got : List ℕ) (stand : Stand) → IsExchange (Hears k) (id_behind next said) stream.place got g.sent stand →
        IsExchange (Says said k) next stream.place got (packet_text next said ++ g.sent) stand
    says got stand went =
        let (last, is, next_is) = text_is_packet next said in
        exchange.says said k next stream.place last (packet_text next said) got g.sent stand is
        (subst (λ (id : ℕ). IsExchange (Hears k) id stream.place got g.sent stand) (sym next_is) went)

    with_text : Comes (id_behind next said) (Hears k) stream g → Comes next (Says said k) stream (after_written (packet_text next said) g)
    with_text (laws.ends got rest end split at went) = laws.ends got rest end split at (says got (Ends end) went)
    with_text (laws.faults fault at went) = laws.faults fault at (says stream.bytes (Waits (Faulty fault)) went)
    with_text (laws.waits ending opened waiting went) = laws.waits ending opened waiting (says stream.bytes (Waits ending) went)

pub getting_is_exchange : GettingIsExchange
unfolding getting
getting_is_exchange next (Hears k) stream below =
    hears_comes next k stream (λ last payload s. getting_is_exchange (id_after last) (k (heard_of payload)) s) below
getting_is_exchange next (Says said k) stream below =
    says_comes next said k stream _
    (hears_comes (id_behind next said) k stream (λ last payload s. getting_is_exchange (id_after last) (k (heard_of payload)) s) below)
getting_is_exchange next (Over end) stream below = laws.ends [] stream.bytes end refl refl (exchange.over end next stream.place)
