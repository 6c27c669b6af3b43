-- A talk over a connection: the payloads stand in packets, whose sequence ids rise by one over both directions
-- ("MySQL Packets" of the MySQL client/server protocol documentation).
use Rattle.std.specs.Prelude.{◌≡◌, ◌⊎◌, ℕ, zero, suc, ◌+◌, List, [], ◌++◌, length, take, Option}
use Rattle.lg_outside.specs.Traffic.{Traffic}
use Rattle.link_packets.specs.Moving.{IsAtEnd, Moved}
use Rattle.packet_frame.specs.Packets.{id_after, IsPacket}
use Rattle.packet_frame.specs.Streams.{Ending, Between, Cut, Faulty, IsEnding}
use Rattle.packet_frame.specs.declared.packets.FrameFault.{FrameFault}
use Rattle.packet_frame.specs.declared.packets.Want.TheVariants.{Exactly}
use Rattle.packet_stream.specs.declared.limits.TheConstants.{MAX_PAYLOAD}
use Rattle.login_client.specs.Hearing.{IsHeard}
use Rattle.login_client.specs.Talk.{Talk, Hears, Says, Over}
use Rattle.login_client.specs.declared.ends.LoginEnd.{LoginEnd}
use Rattle.login_client.specs.declared.ends.LoginEnd.TheVariants.{Opened, Refused, Malformed, Framing, WontSend, PeerClosed, LinkFault, Memory}
use Rattle.login_client.specs.declared.hearing.Heard.{Heard}

-- Where the bytes got leave a talk: it waits for a payload, and the bytes end between packets, within one or at a
-- fault; or it is over.
pub data Stand : Type 0 where
  Waits : Ending → Stand
  Ends : LoginEnd → Stand

-- A talk that gets these bytes and sends those. The next packet, in either direction, has the id; the next byte got
-- stands at the place. No byte is got behind the packet that ends the talk.
pub data IsExchange : Talk → (id place : ℕ) → (got sent : List ℕ) → Stand → Type 0 where
  hears : (k : Heard → Talk) (id place first last : ℕ) (payload head got sent : List ℕ) (heard : Heard) (stand : Stand)
      → IsPacket MAX_PAYLOAD (Exactly id) first last payload head → IsHeard payload heard
      → IsExchange (k heard) (id_after last) (place + length head) got sent stand
      → IsExchange (Hears k) id place (head ++ got) sent stand
  waits : (k : Heard → Talk) (id place : ℕ) (got : List ℕ) (ending : Ending) → IsEnding MAX_PAYLOAD (Exactly id) place got ending
      → IsExchange (Hears k) id place got [] (Waits ending)
  says : (said : List ℕ) (k : Heard → Talk) (id place last : ℕ) (text got sent : List ℕ) (stand : Stand)
      → IsPacket (length said) (Exactly id) id last said text
      → IsExchange (Hears k) (id_after last) place got sent stand
      → IsExchange (Says said k) id place got (text ++ sent) stand
  over : (end : LoginEnd) (id place : ℕ) → IsExchange (Over end) id place [] [] (Ends end)

-- between packets or within one
abbrev pub IsOpen : Ending → Type 0
IsOpen Between = Unit {0}
IsOpen (Cut at) = Unit {0}
IsOpen (Faulty fault) = ⊥

-- an end that the talk decides
abbrev pub IsDecided : LoginEnd → Type 0
IsDecided Opened = Unit {0}
IsDecided (Refused number) = Unit {0}
IsDecided (Malformed at) = Unit {0}
IsDecided (WontSend reason) = Unit {0}
IsDecided (Framing fault) = ⊥
IsDecided PeerClosed = ⊥
IsDecided LinkFault = ⊥
IsDecided Memory = ⊥

-- a talk hears at most so many payloads, and then ends by itself
abbrev pub EndsWithin : ℕ → Talk → Type 0
EndsWithin n (Over end) = IsDecided end
EndsWithin zero (Hears k) = ⊥
EndsWithin (suc n) (Hears k) = (heard : Heard) → EndsWithin n (k heard)
EndsWithin zero (Says said k) = ⊥
EndsWithin (suc n) (Says said k) = (heard : Heard) → EndsWithin n (k heard)

-- How a talk over a link ended, by what the link told before and after, and by whether its count of faults rose.
pub data EndsAs (talk : Talk) (id place : ℕ) (before after : Option Traffic) (Rises : Type 0) : LoginEnd → Type 0 where
  -- the talk itself is over
  decided : (got sent : List ℕ) (end : LoginEnd) → IsDecided end → Moved before after got sent
      → IsExchange talk id place got sent (Ends end) → EndsAs talk id place before after Rises end
  -- it waits for a payload, and the bytes got are no packet
  framing : (got sent : List ℕ) (fault : FrameFault) → Moved before after got sent
      → IsExchange talk id place got sent (Waits (Faulty fault)) → EndsAs talk id place before after Rises (Framing fault)
  -- it waits for a payload, and there are no further bytes
  closed : (got sent : List ℕ) (ending : Ending) → IsOpen ending → Moved before after got sent
      → IsExchange talk id place got sent (Waits ending) → IsAtEnd after → EndsAs talk id place before after Rises PeerClosed
  -- a read failed, or a write, which may have written a part
  failed : (got sent : List ℕ) (count : ℕ) (stand : Stand) → Moved before after got (take count sent)
      → IsExchange talk id place got sent stand → Rises → EndsAs talk id place before after Rises LinkFault
  -- there was no memory, maybe for bytes that were read already, or for a packet that was due
  no_memory : (got more sent : List ℕ) (count : ℕ) (stand : Stand) → Moved before after (got ++ more) (take count sent)
      → IsExchange talk id place got sent stand → EndsAs talk id place before after Rises Memory

-- a login ended as was due, unless the link failed or there was no memory
abbrev pub EndsAsDue : LoginEnd → (Rises : Type 0) → LoginEnd → Type 0
EndsAsDue due Rises end = (end ≡ due) ⊎ (((end ≡ LinkFault) × Rises) ⊎ (end ≡ Memory))
