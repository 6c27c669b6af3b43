-- What holds of every talk.
use Rattle.std.specs.Prelude.{◌≡◌, ◌<◌, ℕ, Bool, List, [], ◌∷◌, ◌++◌, Some, IfSome}
use Rattle.packet_stream.specs.Sent.{id_behind}
use Rattle.packet_stream.specs.Streams.{Stream, with_more}
use Rattle.interaction.specs.Driving.{Arrived, HasCome, Leads}
use Rattle.interaction.specs.Events.{Given, Received, owns_of, packets_in, script_of, until_unread}
use Rattle.interaction.specs.Handlers.{Open, OverBytes, Peer, answered_with, of_bytes, of_packets, over_bytes, owed, read_bytes, read_with, scripted, with_both, with_owns}
use Rattle.interaction.specs.Runs.{Answers, Handler, Own, Ran, Reads, Sends, after_all, run, stops, wanted}
use Rattle.interaction.specs.Talk.{Reading, Talk, Says, Hears, Asks}
use Rattle.interaction.specs.Turns.{HasNothing, IsAtRest, Within, by_turn, left_behind, turn}

-- ## A run goes on

-- what the one handler gives, the other gives at the state that it goes on to, and goes on likewise
pub record Grows (State Other Question Answer Entry : Type 0) (h : Handler State Question Answer Entry) (g : Handler Other Question Answer Entry) (grow : State → Other) : Type 0 where
  pub reads : (s : State) (next want : ℕ) → IfSome (h.read s next want) (λ read. g.read (grow s) next want ≡ read_with grow (Some read))
  pub answers : (s : State) (question : Question) → IfSome (h.answer s question) (λ answered. g.answer (grow s) question ≡ answered_with grow (Some answered))

-- A run goes on: where a handler gives what another gave and then more, it is the run before, and the run from where that
-- stood.
abbrev pub RunsGoOn : (State Other Question Answer Entry End : Type 0) → Type 0
RunsGoOn State Other Question Answer Entry End =
    (h : Handler State Question Answer Entry) (g : Handler Other Question Answer Entry) (grow : State → Other) →
    Grows State Other Question Answer Entry h g grow →
    (s : State) (next : ℕ) (t : Talk Question Answer End) →
    let before = run h s next t in
    run g (grow s) next t ≡ after_all before.did (run g (grow before.state) before.next before.at)

-- Over bytes, cutting them changes nothing: what is done for more bytes and further answers is what was done before, and
-- what is then done for them, also where the peer ends behind them.
abbrev pub CuttingChangesNothing : (Question Answer Entry End : Type 0) → Type 0
CuttingChangesNothing Question Answer Entry End =
    (peer : Peer) (more : List ℕ) (others : List (Own Answer Entry)) (s : OverBytes Answer Entry) (next : ℕ) (t : Talk Question Answer End) →
    let before = run (over_bytes Open) s next t in
    run (over_bytes peer) (with_both more others s) next t
    ≡ after_all before.did (run (over_bytes peer) (with_both more others before.state) before.next before.at)

-- The same of further answers alone, however the peer's bytes go on.
abbrev pub AnswersChangeNothing : (Question Answer Entry End : Type 0) → Type 0
AnswersChangeNothing Question Answer Entry End =
    (peer : Peer) (others : List (Own Answer Entry)) (s : OverBytes Answer Entry) (next : ℕ) (t : Talk Question Answer End) →
    let before = run (over_bytes peer) s next t in
    run (over_bytes peer) (with_owns others s) next t
    ≡ after_all before.did (run (over_bytes peer) (with_owns others before.state) before.next before.at)

-- ## A run is determined by what was given

-- A run over any handler is the run over the script of what it gave, all of which is used.
abbrev pub RunsAreScripted : (State Question Answer Entry End : Type 0) → Type 0
RunsAreScripted State Question Answer Entry End =
    (h : Handler State Question Answer Entry) (s : State) (next : ℕ) (t : Talk Question Answer End) →
    let r = run h s next t in
    run scripted (script_of r.did) next t ≡ record { did = r.did; state = []; next = r.next; at = r.at }

-- a handler reads the bytes of a stream, and what it answers leaves them
pub record ReadsBytes (State Question Answer Entry : Type 0) (h : Handler State Question Answer Entry) (peer : Peer) (stream_of : State → Stream) : Type 0 where
  pub reads : (s : State) (next want : ℕ) → read_with stream_of (h.read s next want) ≡ read_bytes peer next want (stream_of s)
  pub answers : (s : State) (question : Question) → IfSome (h.answer s question) (λ answered. stream_of answered.later ≡ stream_of s)

-- A run over a handler that reads bytes is the run over these bytes and its answers, all of which are used.
abbrev pub RunsAreOverBytes : (State Question Answer Entry End : Type 0) → Type 0
RunsAreOverBytes State Question Answer Entry End =
    (h : Handler State Question Answer Entry) (peer : Peer) (stream_of : State → Stream) →
    ReadsBytes State Question Answer Entry h peer stream_of →
    (s : State) (next : ℕ) (t : Talk Question Answer End) →
    let r = run h s next t in
    run (over_bytes peer) (of_bytes (stream_of s) (owns_of r.did)) next t
    ≡ record { did = r.did; state = of_bytes (stream_of r.state) []; next = r.next; at = r.at }

-- What has come goes further: where a talk has used some answers over bytes, and a handler goes on with what is left of
-- the bytes and with more of them, the talk does the same over all bytes and all answers. Where the handler goes on
-- without more bytes, that holds however the peer's bytes go on.
pub record WhatHasComeGoesFurther (State Question Answer Entry End : Type 0) : Type 0 where
  pub with_bytes : (h : Handler State Question Answer Entry) (peer : Peer) (stream_of : State → Stream) →
      ReadsBytes State Question Answer Entry h peer stream_of →
      (b : Arrived Question Answer Entry End) (before : Ran Stream Question Answer Entry End) (more : List ℕ) (s : State) →
      HasCome Open b before → stream_of s ≡ with_more before.state more →
      let r = run h s before.next before.at in
      HasCome peer (record { stream = with_more b.stream more; owns = b.owns ++ owns_of r.did; next = b.next; at = b.at })
      (record { did = before.did ++ r.did; state = stream_of r.state; next = r.next; at = r.at })
  pub without : (h : Handler State Question Answer Entry) (peer : Peer) (stream_of : State → Stream) →
      ReadsBytes State Question Answer Entry h peer stream_of →
      (b : Arrived Question Answer Entry End) (before : Ran Stream Question Answer Entry End) (s : State) →
      HasCome peer b before → stream_of s ≡ before.state →
      let r = run h s before.next before.at in
      HasCome peer (record { stream = b.stream; owns = b.owns ++ owns_of r.did; next = b.next; at = b.at })
      (record { did = before.did ++ r.did; state = stream_of r.state; next = r.next; at = r.at })

-- What is done until reading ends is owed for the packets that were received and the answers until then. Where reading
-- hasn't ended, that is the whole run, and all of them are used.
pub record RunsAreOwed (State Question Answer Entry End : Type 0) : Type 0 where
  pub until : (h : Handler State Question Answer Entry) (s : State) (next : ℕ) (t : Talk Question Answer End) →
      let before = until_unread (run h s next t).did in
      (owed (packets_in before) (owns_of before) next t).did ≡ before
  pub whole : (h : Handler State Question Answer Entry) (s : State) (next : ℕ) (t : Talk Question Answer End) →
      let r = run h s next t in
      until_unread r.did ≡ r.did →
      owed (packets_in r.did) (owns_of r.did) next t ≡ record { did = r.did; state = of_packets [] []; next = r.next; at = r.at }

-- What stands in lists is used in order, from the front: of a script, of packets and answers, and of answers beside bytes.
pub record ListsAreUsedInOrder (Question Answer Entry End : Type 0) : Type 0 where
  pub script : (given : List (Given Answer Entry)) (next : ℕ) (t : Talk Question Answer End) →
      let r = run scripted given next t in
      given ≡ script_of r.did ++ r.state
  pub packets : (packets : List Received) (owns : List (Own Answer Entry)) (next : ℕ) (t : Talk Question Answer End) →
      let r = owed packets owns next t in
      (packets ≡ packets_in r.did ++ r.state.packets) × (owns ≡ owns_of r.did ++ r.state.owns)
  pub answers : (peer : Peer) (stream : Stream) (owns : List (Own Answer Entry)) (next : ℕ) (t : Talk Question Answer End) →
      let r = run (over_bytes peer) (of_bytes stream owns) next t in
      owns ≡ owns_of r.did ++ r.state.owns

-- ## A run stops, and goes by turns

-- A run stops where the talk has ended, or waits for what the handler doesn't have.
abbrev pub RunsStop : (State Question Answer Entry End : Type 0) → Type 0
RunsStop State Question Answer Entry End =
    (h : Handler State Question Answer Entry) (s : State) (next : ℕ) (t : Talk Question Answer End) →
    let r = run h s next t in
    HasNothing h r.state r.next r.at

-- A run of a talk that waits is its first turn, and the run from where that leaves it.
abbrev pub RunsGoByTurns : (State Question Answer Entry End : Type 0) → Type 0
RunsGoByTurns State Question Answer Entry End =
    (h : Handler State Question Answer Entry) (s : State) (next : ℕ) (t : Talk Question Answer End) → IsAtRest t →
    run h s next t ≡ by_turn h (stops s next t) (turn h s next t)

-- Turns are taken: an answered question takes one of the turns that are left, the end of reading takes one, and a packet
-- gives all anew.
abbrev pub TurnsAreTaken : (State Question Answer Entry End : Type 0) → Type 0
TurnsAreTaken State Question Answer Entry End =
    (h : Handler State Question Answer Entry) (all left : ℕ) (s : State) (next : ℕ) (t : Talk Question Answer End) → Within all left t →
    IfSome (turn h s next t) (λ r. (0 < left) × IsAtRest r.at × Within all (left_behind all left r.did) r.at)

-- ## A loop over a link

-- A loop that drives a talk keeps the talk's run: at its begin, where it writes what the talk says, gives an answer, reads
-- what stands at the front of the bytes, and gets more bytes.
pub record DriversKeepTheRun (Question Answer Entry End : Type 0) : Type 0 where
  pub begins : (stream : Stream) (next : ℕ) (t : Talk Question Answer End) →
      Leads {Entry = Entry} (record { stream = stream; owns = []; next = next; at = t }) (stops stream next t)
  pub says : (b : Arrived Question Answer Entry End) (now : Ran Stream Question Answer Entry End) (payload : List ℕ) (t : Talk Question Answer End) →
      now.at ≡ Says payload t → Leads b now →
      Leads b (record {
        did = now.did ++ Sends (record { first = now.next; payload = payload }) ∷ [];
        state = now.state;
        next = id_behind now.next payload;
        at = t;
      })
  pub answers : (b : Arrived Question Answer Entry End) (now : Ran Stream Question Answer Entry End) (question : Question) (k : Answer → Talk Question Answer End)
      (own : Own Answer Entry) →
      now.at ≡ Asks question k → Leads b now →
      Leads (record { stream = b.stream; owns = b.owns ++ own ∷ []; next = b.next; at = b.at })
      (record { did = now.did ++ Answers question own ∷ []; state = now.state; next = now.next; at = k own.given })
  pub reads : (b : Arrived Question Answer Entry End) (now : Ran Stream Question Answer Entry End) (anew : Bool) (k : Reading → Talk Question Answer End) →
      now.at ≡ Hears anew k → Leads b now →
      IfSome (read_bytes Open now.next (wanted anew now.next) now.state) (λ read. Leads b (record {
        did = now.did ++ Reads (wanted anew now.next) read.given read.next ∷ [];
        state = read.later;
        next = read.next;
        at = k read.given;
      }))
  pub gets : (b : Arrived Question Answer Entry End) (now : Ran Stream Question Answer Entry End) (more : List ℕ) → Leads b now →
      Leads (record { stream = with_more b.stream more; owns = b.owns; next = b.next; at = b.at })
      (record { did = now.did; state = with_more now.state more; next = now.next; at = now.at })
