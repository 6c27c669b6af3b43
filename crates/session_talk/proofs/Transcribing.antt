-- What a session sends and how it ends stands in the transcript of what it was given.
use Rattle.std.proofs.Common.{◌≡◌, refl, ap, sym, ◌∙◌, subst, IsTrue, ℕ, Bool, if◌then◌else◌, List, [], ◌∷◌, ◌++◌, Option, Some, None}
use Rattle.packet_frame.specs.Front.{Front, Whole, Part, Fault}
use Rattle.packet_frame.specs.Packets.{id_after}
use Rattle.packet_frame.specs.declared.packets.FrameFault.{FrameFault}
use Rattle.packet_frame.specs.declared.packets.FrameFault.TheVariants.{TooLarge, OutOfOrder, Memory as NoMemory}
use Rattle.packet_frame.specs.declared.packets.Packet.{Packet}
use Rattle.packet_stream.specs.Sent.{Sent, id_behind, id_behind_all, sent_from}
use Rattle.packet_stream.specs.Streams.{Stream, behind_of, by_front, front_of}
use Rattle.account_history.specs.declared.entries.Entry.{Entry}
use Rattle.interaction.specs.Talk as talk
use Rattle.interaction.specs.Talk.{Got, Says, Hears, Asks, Over}
use Rattle.session_talk.specs.declared.ends.SessionEnd.{SessionEnd}
use Rattle.session_talk.specs.declared.ends.SessionEnd.TheVariants as end
use Rattle.session_talk.specs.declared.inputs.Input.{Input}
use Rattle.session_talk.specs.declared.inputs.Input.TheVariants as input
use Rattle.session_talk.specs.Given.{Given, IsDone, end_in}
use Rattle.session_talk.specs.Logins.{faulted}
use Rattle.session_talk.specs.Runs.{EachAnswers, owns_in, packets_in, spoken, stands_after, stands_on}
use Rattle.session_talk.specs.Talk.{Question, SessionTalk}
use Rattle.session_talk.specs.Transcript.{Enters, Open, Peer, Reading, after_packet, by_packet, ended, read_of}
use Rattle.session_talk.specs.Turns.{Adds, IsAsked, IsFitting, asked, first_id, heard, is_answer, question, rest, said, takes, wanted, wanted_by}
use Rattle.session_talk.specs.Wired.{Wired, said_from, stops, wired}
use Rattle.session_talk.proofs.Asking.{own_answer, untrue}
use Rattle.session_talk.proofs.Running.{at}
use Rattle.session_talk.proofs.Putting.{faulted_well, no_end, rest_well}
use Rattle.session_talk.specs.Doable.{AsksWell}

-- a talk at a question
abbrev pub IsResting : SessionTalk → Type 0
IsResting (Says payload t) = ⊥
IsResting _ = Unit {0}

rest_rests : (t : SessionTalk) → IsResting (rest t)
unfolding rest
rest_rests (Says payload t) = rest_rests t
rest_rests (Hears anew k) = tt
rest_rests (Asks q k) = tt
rest_rests (Over how) = tt

-- what is read of bytes and what is owed over them make these entries, and are these packets, these payloads and this end
pub record Shows (peer : Peer) (t : SessionTalk) (read : Reading) (w : Wired) (owns : List Input) (entries : List Entry) (packets : List Packet) (sent : List Sent) (how : Option SessionEnd) : Type 0 where
  pub entered : Enters t read.packets owns entries
  pub reads : read.packets ≡ packets
  pub sends : sent ≡ w.sent
  pub ends : how ≡ ended peer w.at w.unread

abbrev pub Stands : (peer : Peer) (next : ℕ) (t : SessionTalk) (stream : Stream) (owns : List Input) (entries : List Entry) (packets : List Packet) (sent : List Sent) (how : Option SessionEnd) → Type 0
Stands peer next t stream owns entries packets sent how = Shows peer t (read_of next t stream owns) (wired next t stream owns) owns entries packets sent how

module _ (peer : Peer) (how : Option SessionEnd) where
  -- what a talk says first
  says : (n : ℕ) (t : SessionTalk) (stream : Stream) (owns : List Input) (entries : List Entry) (packets : List Packet) (sent : List Sent) →
      Stands peer (id_behind_all n (said t)) (rest t) stream owns entries packets sent how →
      Stands peer n t stream owns entries packets (sent_from n (said t) ++ sent) how
  unfolding said rest wired read_of Enters
  says n (Says payload t) stream owns entries packets sent s =
      let later = says (id_behind n payload) t stream owns entries packets sent s in
      record {
        entered = later.entered;
        reads = later.reads;
        sends = ap (λ (more : List Sent). record { first = n; payload = payload } ∷ more) later.sends;
        ends = later.ends;
      }
  says n _ stream owns entries packets sent s = s

  module _ (next : ℕ) (anew : Bool) (k : talk.Reading → SessionTalk) (stream : Stream) (owns : List Input) where
    abbrev read_by : Front → Reading
    read_by f = by_packet (λ packet behind. after_packet packet (read_of (id_after packet.last) (k (Got packet.payload)) behind owns)) stream f

    abbrev wired_by : Front → Wired
    wired_by f = by_front (λ last payload behind. wired (id_after last) (k (Got payload)) (behind_of stream behind) owns)
        (stops next (Hears anew k) stream owns) (λ fault. said_from (id_after (wanted anew next)) (faulted fault) stream owns) f

    -- by what stands at the front
    by_shown : (f : Front) (entries : List Entry) (packets : List Packet) (sent : List Sent) → front_of (wanted anew next) stream ≡ f →
        Shows peer (Hears anew k) (read_by f) (wired_by f) owns entries packets sent how →
        Stands peer next (Hears anew k) stream owns entries packets sent how
    unfolding wired read_of
    by_shown f entries packets sent e s = subst (λ (g : Front). Shows peer (Hears anew k) (read_by g) (wired_by g) owns entries packets sent how) (sym e) s

    hears : (packet : Packet) (behind : List ℕ) (entries : List Entry) (packets : List Packet) (sent : List Sent) →
        front_of (wanted anew next) stream ≡ Whole packet.first packet.last packet.payload behind → packet.at ≡ stream.place →
        Stands peer (id_after packet.last) (k (Got packet.payload)) (behind_of stream behind) owns entries packets sent how →
        Stands peer next (Hears anew k) stream owns entries (packet ∷ packets) sent how
    unfolding Enters
    hears packet behind entries packets sent e at_place s =
        by_shown (Whole packet.first packet.last packet.payload behind) entries (packet ∷ packets) sent e (record {
          entered = s.entered;
          reads = ap (λ (place : ℕ). record packet { at = place } ∷ (read_of (id_after packet.last) (k (Got packet.payload)) (behind_of stream behind) owns).packets) (sym at_place)
              ∙ ap (λ (more : List Packet). packet ∷ more) s.reads;
          sends = s.sends;
          ends = s.ends;
        })

    -- a fault is told, and a session that has ended takes nothing more
    over_shown : (fault : FrameFault) (entries : List Entry) (packets : List Packet) (sent : List Sent) →
        Stands peer (id_after (wanted anew next)) (faulted fault) stream owns entries packets sent how →
        Shows peer (Hears anew k) (record { packets = []; left = stream }) (said_from (id_after (wanted anew next)) (faulted fault) stream owns) owns entries packets sent how
    unfolding wired read_of Enters said_from
    over_shown (TooLarge place) entries packets sent s = record { entered = s.entered; reads = s.reads; sends = s.sends; ends = s.ends }
    over_shown (OutOfOrder place want got) entries packets sent s = record { entered = s.entered; reads = s.reads; sends = s.sends; ends = s.ends }
    over_shown NoMemory entries packets sent s = record { entered = s.entered; reads = s.reads; sends = s.sends; ends = s.ends }

    fails : (fault : FrameFault) (entries : List Entry) (packets : List Packet) (sent : List Sent) →
        front_of (wanted anew next) stream ≡ Fault fault →
        Stands peer (id_after (wanted anew next)) (faulted fault) stream owns entries packets sent how →
        Stands peer next (Hears anew k) stream owns entries packets sent how
    fails fault entries packets sent e s = by_shown (Fault fault) entries packets sent e (over_shown fault entries packets sent s)

    -- less than a packet is there, and the session ends so
    closes : (missing : ℕ) (entries : List Entry) (packets : List Packet) (sent : List Sent) (at_end : SessionEnd) →
        front_of (wanted anew next) stream ≡ Part missing → ended peer (Hears anew k) stream ≡ Some at_end →
        Stands peer next (Over at_end) stream owns entries packets sent how →
        Stands peer next (Hears anew k) stream owns entries packets sent how
    unfolding wired read_of Enters
    closes missing entries packets sent at_end e is s =
        by_shown (Part missing) entries packets sent e (record {
          entered = s.entered;
          reads = s.reads;
          sends = s.sends;
          ends = s.ends ∙ sym is;
        })

module _ (peer : Peer) (left : Stream) where
  -- where nothing more comes
  waits_here : (next : ℕ) (anew : Bool) (k : talk.Reading → SessionTalk) (missing : ℕ) → front_of (wanted anew next) left ≡ Part missing →
      peer ≡ Open → Stands peer next (Hears anew k) left [] [] [] [] None
  unfolding Enters
  waits_here next anew k missing e is =
      by_shown peer None next anew k left [] (Part missing) [] [] [] e
      (record { entered = (refl, refl); reads = refl; sends = refl; ends = ap (λ (p : Peer). ended p (Hears anew k) left) (sym is) })

  stops_here : (next : ℕ) (t : SessionTalk) → IsResting t → AsksWell t → IsDone peer (asked next t) left →
      Stands peer next t left [] [] [] [] (end_in (asked next t))
  unfolding wired read_of Enters question wanted_by
  stops_here next (Says payload t) rests well done = absurd rests
  stops_here next (Hears anew k) rests well done = waits_here next anew k done.1.0 done.1.1 done.0
  stops_here next (Asks q k) rests well done = record { entered = (refl, refl); reads = refl; sends = refl; ends = no_end q well.0 }
  stops_here next (Over how) rests well done = record { entered = (refl, refl); reads = refl; sends = refl; ends = refl }

  -- ## Turn by turn

  -- a turn, and the turns after it
  turn : (given : Input) (inputs : List Input) (next : ℕ) (t : SessionTalk) (stream behind : Stream) (owns : List Input) (entries : List Entry) (packets : List Packet) (how : Option SessionEnd) →
      behind ≡ stream →
      Stands peer (stands_on (at next t) given).next (stands_on (at next t) given).at behind owns entries packets (spoken (stands_on (at next t) given) inputs) how →
      Stands peer (first_id next t given) (heard t given) stream owns entries packets (spoken (at next t) (given ∷ inputs)) how
  turn given inputs next t stream behind owns entries packets how e s =
      says peer how (first_id next t given) (heard t given) stream owns entries packets (spoken (stands_on (at next t) given) inputs)
      (subst (λ (b : Stream). Stands peer (stands_on (at next t) given).next (stands_on (at next t) given).at b owns entries packets (spoken (stands_on (at next t) given) inputs) how) e s)

  -- the entries, by what an answer adds
  adding : (next : ℕ) (t : SessionTalk) (stream : Stream) (owns : List Input) (entries added more known : List Entry) (packets : List Packet) (sent : List Sent) (how : Option SessionEnd) →
      entries ≡ added ++ more → added ≡ known → Stands peer next t stream owns (known ++ more) packets sent how → Stands peer next t stream owns entries packets sent how
  adding next t stream owns entries added more known packets sent how e f s =
      subst (λ (es : List Entry). Stands peer next t stream owns es packets sent how) (sym (e ∙ ap (λ (a : List Entry). a ++ more) f)) s

  -- an answer of the own side
  answers_on : (next : ℕ) (q : Question) (k : Input → SessionTalk) (given : Input) (stream : Stream) (owns : List Input) (added entries : List Entry) (packets : List Packet) (sent : List Sent) (how : Option SessionEnd) →
      IsTrue (takes q given) → IsFitting q given → Adds q given added → Stands peer next (k given) stream owns entries packets sent how →
      Stands peer next (Asks q k) stream (given ∷ owns) (added ++ entries) packets sent how
  unfolding wired read_of Enters
  answers_on next q k given stream owns added entries packets sent how is fits adds s =
      subst (λ (b : Bool). Shows peer (Asks q k) (read_by_kind b) (wired_by_kind b) (given ∷ owns) (added ++ entries) packets sent how) (sym is)
      (record { entered = (added, entries, is, fits, adds, refl, s.entered); reads = s.reads; sends = s.sends; ends = s.ends })
    where
      read_by_kind : Bool → Reading
      read_by_kind b = if b then read_of next (k given) stream owns else record { packets = []; left = stream }

      wired_by_kind : Bool → Wired
      wired_by_kind b = if b then wired next (k given) stream owns else stops next (Asks q k) stream (given ∷ owns)

  -- where the session stands at the end
  abbrev how_of : (next : ℕ) → SessionTalk → List Input → Option SessionEnd
  how_of next t inputs = end_in (asked (stands_after (at next t) inputs).next (stands_after (at next t) inputs).at)

  abbrev Run : List Input → (next : ℕ) → SessionTalk → Type 0
  Run inputs next t = (stream : Stream) (entries : List Entry) → IsResting t → AsksWell t → EachAnswers (at next t) inputs →
      Given peer (at next t) stream entries inputs left → IsDone peer (asked (stands_after (at next t) inputs).next (stands_after (at next t) inputs).at) left →
      Stands peer next t stream (owns_in inputs) entries (packets_in inputs) (spoken (at next t) inputs) (how_of next t inputs)

  pub run : (inputs : List Input) (next : ℕ) (t : SessionTalk) → Run inputs next t
  unfolding wired read_of Enters heard is_answer IsAsked wanted_by
  run [] next t stream entries rests well each given done =
      subst (λ (es : List Entry). Stands peer next t stream [] es [] [] (how_of next t [])) (sym given.0)
      (subst (λ (l : Stream). Stands peer next t l [] [] [] [] (how_of next t [])) given.1 (stops_here next t rests well done))
  run (input.Packet packet ∷ inputs) next (Hears anew k) stream entries rests well each given done =
      hears peer _ next anew k stream (owns_in inputs) packet given.3.0 entries (packets_in inputs) _ given.3.1 given.3.2
      (turn (input.Packet packet) inputs next (Hears anew k) _ given.0 _ entries _ _ given.3.3
      (adding _ _ given.0 _ entries given.1 given.2 [] _ _ _ given.5 given.4
      (run inputs _ _ given.0 given.2 (rest_rests (k (Got packet.payload))) (rest_well (k (Got packet.payload)) (well packet.payload)) each.3 given.6 done)))
  run (input.Frame fault ∷ inputs) next (Hears anew k) stream entries rests well each given done =
      fails peer _ next anew k stream (owns_in inputs) fault entries (packets_in inputs) _ given.3.0
      (turn (input.Frame fault) inputs next (Hears anew k) stream given.0 (owns_in inputs) entries _ _ given.3.1
      (adding _ _ given.0 _ entries given.1 given.2 [] _ _ _ given.5 given.4
      (run inputs _ _ given.0 given.2 (rest_rests (faulted fault)) (rest_well (faulted fault) (faulted_well fault)) each.3 given.6 done)))
  run (input.End cut ∷ inputs) next (Hears anew k) stream entries rests well each given done =
      closes peer _ next anew k stream (owns_in inputs) given.3.0.0 entries (packets_in inputs) _ (end.PeerClosed cut) given.3.0.1
      (ap (λ (p : Peer). ended p (Hears anew k) stream) given.3.1 ∙ ap (λ (c : Bool). Some (end.PeerClosed c)) (sym given.3.2))
      (turn (input.End cut) inputs next (Hears anew k) stream given.0 (owns_in inputs) entries _ _ given.3.3
      (adding _ _ given.0 _ entries given.1 given.2 [] _ _ _ given.5 given.4
      (run inputs _ _ given.0 given.2 (rest_rests (Over (end.PeerClosed cut))) (rest_well (Over (end.PeerClosed cut)) tt) each.3 given.6 done)))
  run (input.LinkFailed ∷ inputs) next (Hears anew k) stream entries rests well each given done =
      closes peer _ next anew k stream (owns_in inputs) given.3.0.0 entries (packets_in inputs) _ end.LinkFault given.3.0.1
      (ap (λ (p : Peer). ended p (Hears anew k) stream) given.3.1)
      (turn input.LinkFailed inputs next (Hears anew k) stream given.0 (owns_in inputs) entries _ _ given.3.2
      (adding _ _ given.0 _ entries given.1 given.2 [] _ _ _ given.5 given.4
      (run inputs _ _ given.0 given.2 (rest_rests (Over end.LinkFault)) (rest_well (Over end.LinkFault) tt) each.3 given.6 done)))
  run (input.Packet packet ∷ inputs) next (Asks q k) stream entries rests well each g done = absurd (untrue (own_answer q (input.Packet packet) each.1).1)
  run (input.Frame fault ∷ inputs) next (Asks q k) stream entries rests well each g done = absurd (untrue (own_answer q (input.Frame fault) each.1).1)
  run (input.End cut ∷ inputs) next (Asks q k) stream entries rests well each g done = absurd (untrue (own_answer q (input.End cut) each.1).1)
  run (input.LinkFailed ∷ inputs) next (Asks q k) stream entries rests well each g done = absurd (untrue (own_answer q input.LinkFailed each.1).1)
  run (given ∷ inputs) next (Asks q k) stream entries rests well each g done =
      subst (λ (es : List Entry). Stands peer next (Asks q k) stream (given ∷ owns_in inputs) es (packets_in inputs) (spoken (at next (Asks q k)) (given ∷ inputs)) (how_of next (Asks q k) (given ∷ inputs))) (sym g.5)
      (answers_on next q k given stream (owns_in inputs) g.1 g.2 (packets_in inputs) _ _ (own_answer q given each.1).0 each.2 g.4
      (turn given inputs next (Asks q k) stream g.0 (owns_in inputs) g.2 _ _ g.3
      (run inputs _ _ g.0 g.2 (rest_rests (k given)) (rest_well (k given) (well.2 given each.1)) each.3 g.6 done)))
  run (given ∷ inputs) next (Over how) stream entries rests well each g done = absurd each.0
  run (given ∷ inputs) next t stream entries rests well each g done = absurd (untrue each.1)
