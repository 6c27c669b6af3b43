-- What a turn of a login makes of the talk.
use Rattle.std.proofs.Common.{◌≡◌, refl, sym, ap, ◌∙◌, subst, ℕ, zero, suc, ◌+◌, List, [], ◌∷◌, ◌++◌, length, take, Option, Some, None, append-nil}
use Rattle.lg_outside.specs.Traffic.{Traffic}
use Rattle.packet_frame.specs.Framing.{Framing, after_expect, front_of, held_length, unfinished_length}
use Rattle.packet_frame.specs.Front.{Front, Part}
use Rattle.packet_frame.specs.Packets.{IsPacket, id_after}
use Rattle.packet_frame.specs.Streams.{Ending, Between, Cut, Faulty, IsEnding}
use Rattle.packet_frame.specs.declared.packets.Packet.{Packet}
use Rattle.packet_frame.specs.declared.packets.Want.TheVariants.{Exactly}
use Rattle.packet_frame.proofs.Fronts.{front-nothing}
use Rattle.login_client.specs.Acting.{Acts, Does}
use Rattle.login_client.specs.Exchange.{EndsAs, EndsWithin, IsDecided, IsExchange, IsOpen, Stand, Ends, Waits, closed as ends-closed, decided, failed as ends-failed, framing as ends-framing, hears, no_memory as ends-no_memory, over, says, waits}
use Rattle.packet_stream.specs.declared.limits.TheConstants.{MAX_PAYLOAD}
use Rattle.login_client.specs.Turning.{GoesOn, end_of_read, end_of_write}
use Rattle.login_client.specs.Talk.{Talk, Hears, Says, Over, IsWaiting}
use Rattle.login_client.specs.declared.ends.ClientAct.{ClientAct}
use Rattle.login_client.specs.declared.ends.ClientAct.TheVariants.{Send, Done}
use Rattle.login_client.specs.declared.ends.LoginEnd.{LoginEnd}
use Rattle.login_client.specs.declared.ends.LoginEnd.TheVariants.{Memory}
use Rattle.login_client.specs.declared.hearing.Heard.{Heard}
use Rattle.link_packets.proofs.Moves.{moved-more}
use Rattle.link_packets.specs.Moving.{Moved}
use Rattle.link_packets.specs.Reading.{IsPartOf, ReadsPacket, Stops, between, closed, failed, faulty, no_memory}
use Rattle.link_packets.specs.Writing.{Fails, cut, unwritten}
use Rattle.link_packets.specs.declared.reading.ReadEnd.{ReadEnd}
use Rattle.link_packets.specs.declared.writing.WriteEnd.{WriteEnd}
use Rattle.packet_stream.specs.Packing.{packet_text, packets_text}
use Rattle.packet_stream.specs.Sent.{id_behind, sent_from}
use Rattle.packet_stream.proofs.Packed.{text_is_packet}

-- less than a packet ends a stream
part-ending : (id place : ℕ) (got : List ℕ) → IsPartOf id place got → (ending : Ending) × IsEnding MAX_PAYLOAD (Exactly id) place got ending × IsOpen ending
part-ending id place [] part = (Between, refl, tt {0})
part-ending id place (b ∷ got) part = (Cut place, ((λ none. cc), refl, part.missing, part.unfinished), tt {0})

-- no packet came
pub stop-ends : (talk : Talk) (id place : ℕ) (before after : Option Traffic) (Rises : Type 0) (end : ReadEnd) → IsWaiting talk → Stops id place before after Rises end
    → EndsAs talk id place before after Rises (end_of_read end)
stop-ends (Hears k) id place before after Rises _ w (faulty got fault moved shown front-is) =
    ends-framing got [] fault moved (waits k id place got (Faulty fault) shown)
stop-ends (Hears k) id place before after Rises _ w (closed got is-cut moved part at-end within-is) =
    let (ending, ends, is-open) = part-ending id place got part in
    ends-closed got [] ending is-open moved (waits k id place got ending ends) at-end
stop-ends (Hears k) id place before after Rises _ w (failed got moved part rises) =
    let (ending, ends, is-open) = part-ending id place got part in
    ends-failed got [] 0 (Waits ending) moved (waits k id place got ending ends) rises
stop-ends (Hears k) id place before after Rises _ w (no_memory got more moved part) =
    let (ending, ends, is-open) = part-ending id place got part in
    ends-no_memory got more [] 0 (Waits ending) moved (waits k id place got ending ends)
stop-ends (Says said k) id place before after Rises end w stops = absurd w
stop-ends (Over over-end) id place before after Rises end w stops = absurd w

-- there was no memory for what a packet asks for
pub heard-nothing : (talk : Talk) (id place : ℕ) (before after : Option Traffic) (packet : Packet) (frames : Framing) (Rises : Type 0) → IsWaiting talk
    → ReadsPacket id place before after packet frames → EndsAs talk id place before after Rises Memory
heard-nothing (Hears k) id place before after packet frames Rises w read =
    ends-no_memory [] read.head [] 0 (Waits Between) read.moved (waits k id place [] Between refl)
heard-nothing (Says said k) id place before after packet frames Rises w read = absurd w
heard-nothing (Over end) id place before after packet frames Rises w read = absurd w

done-exchange : (talk : Talk) (last id place : ℕ) (end : LoginEnd) (next : Talk) → Does talk last (Some (Done end)) next → IsExchange talk id place [] [] (Ends end)
done-exchange (Hears k) last id place end next d = absurd d
done-exchange (Says said k) last id place end next d = absurd d
done-exchange (Over e) last id place end next d = subst (λ (x : LoginEnd). IsExchange (Over e) id place [] [] (Ends x)) (sym d.0) (over e id place)

done-decided : (n : ℕ) (talk : Talk) (last : ℕ) (end : LoginEnd) (next : Talk) → EndsWithin n talk → Does talk last (Some (Done end)) next → IsDecided end
done-decided n (Hears k) last end next h d = absurd d
done-decided n (Says said k) last end next h d = absurd d
done-decided n (Over e) last end next h d = subst (λ (x : LoginEnd). IsDecided x) (sym d.0) h

-- the talk is over
pub heard-done : (n : ℕ) (talk : Talk) (id place : ℕ) (before after : Option Traffic) (packet : Packet) (frames : Framing) (Rises : Type 0) (end : LoginEnd) (next : Talk) → IsWaiting talk
    → EndsWithin n talk → ReadsPacket id place before after packet frames → Acts talk packet (Some (Done end)) next → EndsAs talk id place before after Rises end
heard-done zero (Hears k) id place before after packet frames Rises end next w h read acts = absurd h
heard-done (suc n) (Hears k) id place before after packet frames Rises end next w h read acts =
    decided (read.head ++ []) [] end
    (done-decided n (k acts.heard) packet.last end next (h acts.heard) acts.does)
    (subst (λ (got : List ℕ). Moved before after got []) (sym (append-nil read.head)) read.moved)
    (hears k id place packet.first packet.last packet.payload read.head [] [] acts.heard (Ends end) read.is_packet acts.is_heard
    (done-exchange (k acts.heard) packet.last (id_after packet.last) (place + length read.head) end next acts.does))
heard-done n (Says said k) id place before after packet frames Rises end next w h read acts = absurd w
heard-done n (Over e) id place before after packet frames Rises end next w h read acts = absurd w

waits-same : (talk : Talk) (last : ℕ) (next : Talk) → Does talk last None next → (next ≡ talk) × IsWaiting next
waits-same (Hears k) last next d = (d, subst (λ (t : Talk). IsWaiting t) (sym d) (tt {0}))
waits-same (Says said k) last next d = absurd d
waits-same (Over end) last next d = absurd d

-- the client hears on
pub heard-waits : (n : ℕ) (talk : Talk) (id place : ℕ) (before after : Option Traffic) (packet : Packet) (frames : Framing) (next : Talk) → IsWaiting talk
    → EndsWithin n talk → ReadsPacket id place before after packet frames → Acts talk packet None next → GoesOn n talk id place before after next frames
heard-waits zero (Hears k) id place before after packet frames next w h read acts = absurd h
heard-waits (suc n) (Hears k) id place before after packet frames next w h read acts =
    let same = waits-same (k acts.heard) packet.last next acts.does in
    record {
      got = read.head;
      sent = [];
      next = id_after packet.last;
      moved = read.moved;
      short = read.short;
      frames_are = read.now_is;
      waits = same.1;
      fewer = (n, refl, subst (λ (t : Talk). EndsWithin n t) (sym same.0) (h acts.heard));
      follows = λ more later stand x.
          hears k id place packet.first packet.last packet.payload read.head more later acts.heard stand read.is_packet acts.is_heard
          (subst (λ (t : Talk). IsExchange t (id_after packet.last) (place + length read.head) more later stand) same.0 x);
    }
heard-waits n (Says said k) id place before after packet frames next w h read acts = absurd w
heard-waits n (Over e) id place before after packet frames next w h read acts = absurd w

-- what a payload that is to be said is
record Saying (talk : Talk) (last first : ℕ) (payload : List ℕ) (next : Talk) : Type 0 where
  k : Heard → Talk
  talk_is : talk ≡ Says payload k
  first_is : first ≡ id_after last
  next_is : next ≡ Hears k

saying : (talk : Talk) (last first : ℕ) (payload : List ℕ) (next : Talk) → Does talk last (Some (Send first payload)) next → Saying talk last first payload next
saying (Hears k) last first payload next d = absurd d
saying (Says said k) last first payload next d = record {
  k = k;
  talk_is = ap (λ (p : List ℕ). Says p k) (sym d.1);
  first_is = d.0;
  next_is = d.2;
}
saying (Over end) last first payload next d = absurd d

said-within : (n : ℕ) (said : List ℕ) (k : Heard → Talk) → EndsWithin n (Says said k) → EndsWithin n (Hears k)
said-within zero said k h = h
said-within (suc n) said k h = h

-- the client says a payload
said-exchange : (talk : Talk) (last first : ℕ) (payload : List ℕ) (next : Talk) (place after-id last' : ℕ) (text more later : List ℕ) (stand : Stand) → Does talk last (Some (Send first payload)) next
    → IsPacket (length payload) (Exactly first) first last' payload text → after-id ≡ id_after last' → IsExchange next after-id place more later stand
    → IsExchange talk (id_after last) place more (text ++ later) stand
said-exchange talk last first payload next place after-id last' text more later stand d packet after-is x =
    let s = saying talk last first payload next d in
    let y = subst (λ (t : Talk). IsExchange t (id_after last') place more later stand) s.next_is (subst (λ (i : ℕ). IsExchange next i place more later stand) after-is x) in
    let z = says payload s.k first place last' text more later stand packet y in
    subst (λ (t : Talk). IsExchange t (id_after last) place more (text ++ later) stand) (sym s.talk_is)
    (subst (λ (i : ℕ). IsExchange (Says payload s.k) i place more (text ++ later) stand) s.first_is z)

-- a payload was said, and the client hears on
pub heard-says : (n : ℕ) (talk : Talk) (id place : ℕ) (before middle after : Option Traffic) (packet : Packet) (frames now : Framing) (first : ℕ) (payload : List ℕ) (next : Talk) (after-id : ℕ)
    → IsWaiting talk → EndsWithin n talk → ReadsPacket id place before middle packet frames → Acts talk packet (Some (Send first payload)) next
    → Moved middle after [] (packets_text (sent_from first (payload ∷ []))) → after-id ≡ id_behind first payload → now ≡ after_expect (front_of frames) frames (Exactly after-id)
    → GoesOn n talk id place before after next now
heard-says zero (Hears k) id place before middle after packet frames now first payload next after-id w h read acts wrote after-is expected = absurd h
heard-says (suc n) (Hears k) id place before middle after packet frames now first payload next after-id w h read acts wrote after-is expected =
    let s = saying (k acts.heard) packet.last first payload next acts.does in
    let place' = place + length read.head in
    let fresh : front_of frames ≡ Part 4 = ap (λ (v : Framing). front_of v) read.now_is ∙ front-nothing MAX_PAYLOAD (Exactly (id_after packet.last)) place' in
    let text : List ℕ = packet_text first payload in
    let (last, is-packet, next-is) = text_is_packet first payload in
    let written : Moved middle after [] text = subst (λ (sent : List ℕ). Moved middle after [] sent) (append-nil text) wrote in
    record {
      got = read.head;
      sent = text;
      next = after-id;
      moved = subst (λ (got : List ℕ). Moved before after got text) (append-nil read.head) (moved-more before middle after read.head [] [] text read.moved written);
      short = read.short;
      frames_are = expected ∙ ap (λ (f : Front). after_expect f frames (Exactly after-id)) fresh
          ∙ ap (λ (v : Framing). let u : Framing = record v { want = Exactly after-id } in u) read.now_is;
      waits = subst (λ (t : Talk). IsWaiting t) (sym s.next_is) (tt {0});
      fewer = (
        n,
        refl,
        subst (λ (t : Talk). EndsWithin n t) (sym s.next_is) (said-within n payload s.k (subst (λ (t : Talk). EndsWithin n t) s.talk_is (h acts.heard))),
      );
      follows = λ more later stand x.
          hears k id place packet.first packet.last packet.payload read.head more (text ++ later) acts.heard stand read.is_packet acts.is_heard
          (said-exchange (k acts.heard) packet.last first payload next place' after-id last text more later stand acts.does is-packet (after-is ∙ sym next-is) x);
    }
heard-says n (Says said k) id place before middle after packet frames now first payload next after-id w h read acts wrote after-is expected = absurd w
heard-says n (Over e) id place before middle after packet frames now first payload next after-id w h read acts wrote after-is expected = absurd w

-- a payload was to be said, and wasn't or not whole
pub heard-fails : (talk : Talk) (id place : ℕ) (before middle after : Option Traffic) (packet : Packet) (frames : Framing) (first : ℕ) (payload : List ℕ) (next : Talk) (Rises Rose : Type 0) (end : WriteEnd)
    → IsWaiting talk → ReadsPacket id place before middle packet frames → Acts talk packet (Some (Send first payload)) next
    → (Rises → Rose) → Fails (packets_text (sent_from first (payload ∷ []))) middle after Rises end → EndsAs talk id place before after Rose (end_of_write end)
heard-fails (Hears k) id place before middle after packet frames first payload next Rises Rose _ w read acts up (cut count moved rises) =
    let s = saying (k acts.heard) packet.last first payload next acts.does in
    let place' = place + length read.head in
    let text : List ℕ = packet_text first payload in
    let (last, is-packet, next-is) = text_is_packet first payload in
    let x = subst (λ (t : Talk). IsExchange t (id_after last) place' [] [] (Waits Between)) (sym s.next_is) (waits s.k (id_after last) place' [] Between refl) in
    let y = said-exchange (k acts.heard) packet.last first payload next place' (id_after last) last text [] [] (Waits Between) acts.does is-packet refl x in
    ends-failed (read.head ++ []) (text ++ []) count (Waits Between)
    (moved-more before middle after read.head [] [] (take count (text ++ [])) read.moved moved)
    (hears k id place packet.first packet.last packet.payload read.head [] (text ++ []) acts.heard (Waits Between) read.is_packet acts.is_heard y)
    (up rises)
heard-fails (Hears k) id place before middle after packet frames first payload next Rises Rose _ w read acts up (unwritten moved) =
    ends-no_memory [] (read.head ++ []) [] 0 (Waits Between) (moved-more before middle after read.head [] [] [] read.moved moved) (waits k id place [] Between refl)
heard-fails (Says said k) id place before middle after packet frames first payload next Rises Rose end w read acts up fails = absurd w
heard-fails (Over e) id place before middle after packet frames first payload next Rises Rose end w read acts up fails = absurd w

-- between packets nothing is held
pub held-between : (frames : Framing) (id place : ℕ) → frames ≡ between id place → held_length frames ≡ 0
held-between frames id place is = ap (λ (v : Framing). held_length v) is ∙ ap (λ (f : Front). unfinished_length f 0) (front-nothing MAX_PAYLOAD (Exactly id) place)

does-within : (n : ℕ) (talk : Talk) (last : ℕ) (act : Option ClientAct) (next : Talk) → EndsWithin n talk → Does talk last act next → EndsWithin n next
does-within n (Hears k) last None next h d = subst (λ (t : Talk). EndsWithin n t) (sym d) h
does-within n (Hears k) last (Some act) next h d = absurd d
does-within n (Says said k) last None next h d = absurd d
does-within n (Says said k) last (Some (Send first payload)) next h d = subst (λ (t : Talk). EndsWithin n t) (sym d.2) (said-within n said k h)
does-within n (Says said k) last (Some (Done end)) next h d = absurd d
does-within n (Over e) last None next h d = absurd d
does-within n (Over e) last (Some (Send first payload)) next h d = absurd d
does-within n (Over e) last (Some (Done end)) next h d = subst (λ (t : Talk). EndsWithin n t) (sym d.1) h

-- a packet less is left to a client that heard one
pub acts-within : (n : ℕ) (talk : Talk) (packet : Packet) (act : Option ClientAct) (next : Talk) → IsWaiting talk → EndsWithin (suc n) talk → Acts talk packet act next → EndsWithin n next
acts-within n (Hears k) packet act next w h acts = does-within n (k acts.heard) packet.last act next (h acts.heard) acts.does
acts-within n (Says said k) packet act next w h acts = absurd w
acts-within n (Over end) packet act next w h acts = absurd w

-- a client is done by what its talk decides
pub acts-decided : (n : ℕ) (talk : Talk) (packet : Packet) (end : LoginEnd) (next : Talk) → IsWaiting talk → EndsWithin (suc n) talk → Acts talk packet (Some (Done end)) next → IsDecided end
acts-decided n (Hears k) packet end next w h acts = done-decided n (k acts.heard) packet.last end next (h acts.heard) acts.does
acts-decided n (Says said k) packet end next w h acts = absurd w
acts-decided n (Over e) packet end next w h acts = absurd w
