-- Handlers that give what stands in lists: all that is given to the talk in order; packets and answers; or bytes and
-- answers.
use Rattle.std.specs.Prelude.{ℕ, ◌==◌, not, List, [], ◌∷◌, ◌++◌, length, Option, Some, None}
use Rattle.packet_frame.specs.Front.{Front, Whole, Part, Fault}
use Rattle.packet_frame.specs.Packets.{id_after}
use Rattle.packet_stream.specs.Streams.{Stream, behind_of, front_of, with_more}
use Rattle.interaction.specs.Events.{Given, GivesReading, Received, GivesAnswer}
use Rattle.interaction.specs.Runs.{Answered, Handler, Own, Ran, Read, run}
use Rattle.interaction.specs.Talk.{Talk, Got, Faulty, PeerClosed, LinkFailed}

-- ## A script

module _ {Answer Entry : Type 0} where
  abbrev pub read_given : List (Given Answer Entry) → Option (Read (List (Given Answer Entry)))
  read_given (GivesReading given next ∷ script) = Some (record { given = given; next = next; later = script })
  read_given _ = None

  abbrev pub answer_given : List (Given Answer Entry) → Option (Answered (List (Given Answer Entry)) Answer Entry)
  answer_given (GivesAnswer own ∷ script) = Some (record { own = own; later = script })
  answer_given _ = None

abbrev pub scripted : {Question Answer Entry : Type 0} → Handler (List (Given Answer Entry)) Question Answer Entry
scripted = record { read = λ script next wanted. read_given script; answer = λ script question. answer_given script }

-- ## States of another handler

-- what was read or answered, with another state after it

abbrev pub read_with : {State Other : Type 0} → (State → Other) → Option (Read State) → Option (Read Other)
read_with other (Some read) = Some (record { given = read.given; next = read.next; later = other read.later })
read_with other None = None

abbrev pub answered_with : {State Other Answer Entry : Type 0} → (State → Other) → Option (Answered State Answer Entry) → Option (Answered Other Answer Entry)
answered_with other (Some answered) = Some (record { own = answered.own; later = other answered.later })
answered_with other None = None

-- the first of a list of answers, whatever is asked
abbrev pub first_own : {Answer Entry : Type 0} → List (Own Answer Entry) → Option (Answered (List (Own Answer Entry)) Answer Entry)
first_own (own ∷ owns) = Some (record { own = own; later = owns })
first_own [] = None

-- ## Packets and answers

pub record OverPackets (Answer Entry : Type 0) : Type 0 where
  pub packets : List Received
  pub owns : List (Own Answer Entry)

abbrev pub of_packets : {Answer Entry : Type 0} → List Received → List (Own Answer Entry) → OverPackets Answer Entry
of_packets packets owns = record { packets = packets; owns = owns }

abbrev pub first_packet : List Received → Option (Read (List Received))
first_packet (packet ∷ packets) = Some (record { given = Got packet.payload; next = packet.next; later = packets })
first_packet [] = None

abbrev pub over_packets : {Question Answer Entry : Type 0} → Handler (OverPackets Answer Entry) Question Answer Entry
over_packets = record {
  read = λ s next wanted. read_with (λ packets. of_packets packets s.owns) (first_packet s.packets);
  answer = λ s question. answered_with (of_packets s.packets) (first_own s.owns);
}

-- what a talk owes for packets and answers: all that it does until they are used up
abbrev pub owed : {Question Answer Entry End : Type 0} →
    List Received → List (Own Answer Entry) → (next : ℕ) → Talk Question Answer End → Ran (OverPackets Answer Entry) Question Answer Entry End
owed packets owns next t = run over_packets (of_packets packets owns) next t

-- ## Bytes and answers

-- how the peer's bytes go on after those that are there: more may come, the peer closed the connection, or the link failed
pub data Peer : Type 0 where
  Open : Peer
  Closed : Peer
  Failed : Peer

-- What reading gives of bytes: the packet at their front, which is taken off, or the fault that stands there. Where less
-- than a packet stands there, it gives the peer's end, which cuts a packet exactly where bytes are left, or the failure of
-- the link, or nothing yet.

abbrev pub read_short : Peer → (next : ℕ) → Stream → Option (Read Stream)
read_short Open next stream = None
read_short Closed next stream = Some (record { given = PeerClosed (not (length stream.bytes == 0)); next = next; later = stream })
read_short Failed next stream = Some (record { given = LinkFailed; next = next; later = stream })

abbrev pub read_front : Peer → (next wanted : ℕ) → Stream → Front → Option (Read Stream)
read_front peer next wanted stream (Whole first last payload behind) =
    Some (record { given = Got payload; next = id_after last; later = behind_of stream behind })
read_front peer next wanted stream (Part missing) = read_short peer next stream
read_front peer next wanted stream (Fault fault) = Some (record { given = Faulty fault; next = id_after wanted; later = stream })

abbrev pub read_bytes : Peer → (next wanted : ℕ) → Stream → Option (Read Stream)
read_bytes peer next wanted stream = read_front peer next wanted stream (front_of wanted stream)

pub record OverBytes (Answer Entry : Type 0) : Type 0 where
  pub stream : Stream
  pub owns : List (Own Answer Entry)

abbrev pub of_bytes : {Answer Entry : Type 0} → Stream → List (Own Answer Entry) → OverBytes Answer Entry
of_bytes stream owns = record { stream = stream; owns = owns }

abbrev pub over_bytes : {Question Answer Entry : Type 0} → Peer → Handler (OverBytes Answer Entry) Question Answer Entry
over_bytes peer = record {
  read = λ s next wanted. read_with (λ stream. of_bytes stream s.owns) (read_bytes peer next wanted s.stream);
  answer = λ s question. answered_with (of_bytes s.stream) (first_own s.owns);
}

-- more bytes and further answers behind those that are there
abbrev pub with_both : {Answer Entry : Type 0} → List ℕ → List (Own Answer Entry) → OverBytes Answer Entry → OverBytes Answer Entry
with_both more others s = of_bytes (with_more s.stream more) (s.owns ++ others)

abbrev pub with_owns : {Answer Entry : Type 0} → List (Own Answer Entry) → OverBytes Answer Entry → OverBytes Answer Entry
with_owns others s = of_bytes s.stream (s.owns ++ others)
