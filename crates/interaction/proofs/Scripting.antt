-- A run is the run over the script of what was given, and over bytes and answers.
use Rattle.std.proofs.Common.{◌≡◌, refl, ap, sym, ◌∙◌, ℕ, Bool, List, [], ◌++◌, Option, Some, None, IfSome}
use Rattle.packet_stream.specs.Sent.{id_behind}
use Rattle.packet_stream.specs.Streams.{Stream, with_more}
use Rattle.interaction.specs.Driving.{Arrived, HasCome}
use Rattle.interaction.specs.Events.{owns_of, script_of}
use Rattle.interaction.specs.Handlers.{Open, OverBytes, Peer, of_bytes, over_bytes, read_bytes, read_with, scripted, with_both, with_owns}
use Rattle.interaction.specs.Laws.{ReadsBytes, WhatHasComeGoesFurther}
use Rattle.interaction.specs.Runs.{Answered, Answers, Handler, Own, Ran, Read, Reads, Sends, after, after_all, by_answer, by_read, run, stops, wanted}
use Rattle.interaction.specs.Talk.{Reading, Talk, Says, Hears, Asks, Over}
use Rattle.interaction.proofs.Cutting.{answers_change_nothing, cutting_changes_nothing}
use Rattle.interaction.proofs.GoingOn.{heard, told}

-- ## Over a script

module _ {State Question Answer Entry End : Type 0} (h : Handler State Question Answer Entry) where
  abbrev IsScripted : (next : ℕ) → Talk Question Answer End → Ran State Question Answer Entry End → Type 0
  IsScripted next t r = run scripted (script_of r.did) next t ≡ record { did = r.did; state = []; next = r.next; at = r.at }

  script_reading : (s : State) (next : ℕ) (anew : Bool) (k : Reading → Talk Question Answer End) (o : Option (Read State)) →
      ((given : Reading) (id : ℕ) (later : State) → IsScripted id (k given) (run h later id (k given))) →
      IsScripted next (Hears anew k) (by_read (heard h next anew k) (stops s next (Hears anew k)) o)
  unfolding run
  script_reading s next anew k (Some read) again =
      ap (after (Reads (wanted anew next) read.given read.next)) (again read.given read.next read.later)
  script_reading s next anew k None again = refl

  script_answering : (s : State) (next : ℕ) (question : Question) (k : Answer → Talk Question Answer End) (o : Option (Answered State Answer Entry)) →
      ((own : Own Answer Entry) (later : State) → IsScripted next (k own.given) (run h later next (k own.given))) →
      IsScripted next (Asks question k) (by_answer (told h next question k) (stops s next (Asks question k)) o)
  unfolding run
  script_answering s next question k (Some answered) again = ap (after (Answers question answered.own)) (again answered.own answered.later)
  script_answering s next question k None again = refl

  pub runs_are_scripted : (s : State) (next : ℕ) (t : Talk Question Answer End) → IsScripted next t (run h s next t)
  unfolding run
  runs_are_scripted s next (Says payload t) =
      ap (after (Sends (record { first = next; payload = payload }))) (runs_are_scripted s (id_behind next payload) t)
  runs_are_scripted s next (Hears anew k) = script_reading s next anew k (h.read s next (wanted anew next)) (λ given id later. runs_are_scripted later id (k given))
  runs_are_scripted s next (Asks question k) = script_answering s next question k (h.answer s question) (λ own later. runs_are_scripted later next (k own.given))
  runs_are_scripted s next (Over end) = refl

-- ## Over bytes

module _ {State Question Answer Entry End : Type 0} (h : Handler State Question Answer Entry) (peer : Peer) (stream_of : State → Stream)
    (is : ReadsBytes State Question Answer Entry h peer stream_of) where
  abbrev IsOver : (stream : Stream) (next : ℕ) → Talk Question Answer End → Ran State Question Answer Entry End → Type 0
  IsOver stream next t r =
      run (over_bytes peer) (of_bytes stream (owns_of r.did)) next t
      ≡ record { did = r.did; state = of_bytes (stream_of r.state) []; next = r.next; at = r.at }

  over_reading : (s : State) (next : ℕ) (anew : Bool) (k : Reading → Talk Question Answer End) (o : Option (Read State)) →
      read_with stream_of o ≡ read_bytes peer next (wanted anew next) (stream_of s) →
      ((given : Reading) (id : ℕ) (later : State) → IsOver (stream_of later) id (k given) (run h later id (k given))) →
      IsOver (stream_of s) next (Hears anew k) (by_read (heard h next anew k) (stops s next (Hears anew k)) o)
  unfolding run
  over_reading s next anew k (Some read) e again =
      let owns : List (Own Answer Entry) = owns_of (run h read.later read.next (k read.given)).did in
      ap (λ p. by_read (heard (over_bytes peer) next anew k) (stops (of_bytes (stream_of s) owns) next (Hears anew k)) (read_with (λ left. of_bytes left owns) p)) (sym e)
      ∙ ap (after (Reads (wanted anew next) read.given read.next)) (again read.given read.next read.later)
  over_reading s next anew k None e again =
      ap (λ p. by_read (heard (over_bytes peer) next anew k) (stops (of_bytes (stream_of s) []) next (Hears anew k)) (read_with (λ left. of_bytes left []) p)) (sym e)

  over_answering : (s : State) (next : ℕ) (question : Question) (k : Answer → Talk Question Answer End) (o : Option (Answered State Answer Entry)) →
      IfSome o (λ answered. stream_of answered.later ≡ stream_of s) →
      ((own : Own Answer Entry) (later : State) → IsOver (stream_of later) next (k own.given) (run h later next (k own.given))) →
      IsOver (stream_of s) next (Asks question k) (by_answer (told h next question k) (stops s next (Asks question k)) o)
  unfolding run
  over_answering s next question k (Some answered) e again =
      ap (after (Answers question answered.own))
      (ap (λ stream. run (over_bytes peer) (of_bytes stream (owns_of (run h answered.later next (k answered.own.given)).did)) next (k answered.own.given)) (sym e)
      ∙ again answered.own answered.later)
  over_answering s next question k None e again = refl

  pub runs_are_over_bytes : (s : State) (next : ℕ) (t : Talk Question Answer End) → IsOver (stream_of s) next t (run h s next t)
  unfolding run
  runs_are_over_bytes s next (Says payload t) =
      ap (after (Sends (record { first = next; payload = payload }))) (runs_are_over_bytes s (id_behind next payload) t)
  runs_are_over_bytes s next (Hears anew k) =
      over_reading s next anew k (h.read s next (wanted anew next)) (is.reads s next (wanted anew next)) (λ given id later. runs_are_over_bytes later id (k given))
  runs_are_over_bytes s next (Asks question k) =
      over_answering s next question k (h.answer s question) (is.answers s question) (λ own later. runs_are_over_bytes later next (k own.given))
  runs_are_over_bytes s next (Over end) = refl

  -- ## What has come goes further

  further : (b : Arrived Question Answer Entry End) (before : Ran Stream Question Answer Entry End) (s : State) (begin : OverBytes Answer Entry) (stream : Stream) →
      stream_of s ≡ stream →
      let r = run h s before.next before.at in
      run (over_bytes peer) begin b.next b.at ≡ after_all before.did (run (over_bytes peer) (of_bytes stream (owns_of r.did)) before.next before.at) →
      run (over_bytes peer) begin b.next b.at ≡ record { did = before.did ++ r.did; state = of_bytes (stream_of r.state) []; next = r.next; at = r.at }
  further b before s begin stream e goes =
      let owns : List (Own Answer Entry) = owns_of (run h s before.next before.at).did in
      goes
      ∙ (ap (λ left. after_all before.did (run (over_bytes peer) (of_bytes left owns) before.next before.at)) (sym e)
      ∙ ap (after_all before.did) (runs_are_over_bytes s before.next before.at))

  pub with_bytes : (b : Arrived Question Answer Entry End) (before : Ran Stream Question Answer Entry End) (more : List ℕ) (s : State) →
      HasCome Open b before → stream_of s ≡ with_more before.state more →
      let r = run h s before.next before.at in
      HasCome peer (record { stream = with_more b.stream more; owns = b.owns ++ owns_of r.did; next = b.next; at = b.at })
      (record { did = before.did ++ r.did; state = stream_of r.state; next = r.next; at = r.at })
  with_bytes b before more s come e =
      let owns : List (Own Answer Entry) = owns_of (run h s before.next before.at).did in
      further b before s (of_bytes (with_more b.stream more) (b.owns ++ owns)) (with_more before.state more) e
      (cutting_changes_nothing peer more owns (of_bytes b.stream b.owns) b.next b.at
      ∙ ap (λ r. after_all r.did (run (over_bytes peer) (with_both more owns r.state) r.next r.at)) come)

  pub without : (b : Arrived Question Answer Entry End) (before : Ran Stream Question Answer Entry End) (s : State) →
      HasCome peer b before → stream_of s ≡ before.state →
      let r = run h s before.next before.at in
      HasCome peer (record { stream = b.stream; owns = b.owns ++ owns_of r.did; next = b.next; at = b.at })
      (record { did = before.did ++ r.did; state = stream_of r.state; next = r.next; at = r.at })
  without b before s come e =
      let owns : List (Own Answer Entry) = owns_of (run h s before.next before.at).did in
      further b before s (of_bytes b.stream (b.owns ++ owns)) before.state e
      (answers_change_nothing peer owns (of_bytes b.stream b.owns) b.next b.at
      ∙ ap (λ r. after_all r.did (run (over_bytes peer) (with_owns owns r.state) r.next r.at)) come)

module _ {State Question Answer Entry End : Type 0} where
  pub what_has_come_goes_further : WhatHasComeGoesFurther State Question Answer Entry End
  what_has_come_goes_further = record {
    with_bytes = λ h peer stream_of is b before more s come e. with_bytes h peer stream_of is b before more s come e;
    without = λ h peer stream_of is b before s come e. without h peer stream_of is b before s come e;
  }
