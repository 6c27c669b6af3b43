-- A run goes on, and stops where the handler has nothing.
use Rattle.std.proofs.Common.{◌≡◌, refl, ap, ◌∙◌, ℕ, Bool, Option, Some, None, IfSome}
use Rattle.packet_stream.specs.Sent.{id_behind}
use Rattle.interaction.specs.Handlers.{answered_with, read_with}
use Rattle.interaction.specs.Laws.{Grows}
use Rattle.interaction.specs.Runs.{Answered, Answers, Handler, Own, Ran, Read, Reads, Sends, after, after_all, by_answer, by_read, run, stops, wanted}
use Rattle.interaction.specs.Talk.{Reading, Talk, Says, Hears, Asks, Over}
use Rattle.interaction.specs.Turns.{HasNothing}

-- ## What is done once something is given

module _ {State Question Answer Entry End : Type 0} (h : Handler State Question Answer Entry) (next : ℕ) where
  abbrev pub heard : (anew : Bool) → (Reading → Talk Question Answer End) → Reading → ℕ → State → Ran State Question Answer Entry End
  heard anew k given id later = after (Reads (wanted anew next) given id) (run h later id (k given))

  abbrev pub told : Question → (Answer → Talk Question Answer End) → Own Answer Entry → State → Ran State Question Answer Entry End
  told question k own later = after (Answers question own) (run h later next (k own.given))

-- ## Going on

module _ {State Other Question Answer Entry End : Type 0} (h : Handler State Question Answer Entry) (g : Handler Other Question Answer Entry) (grow : State → Other)
    (grows : Grows State Other Question Answer Entry h g grow) where
  abbrev goes : Ran State Question Answer Entry End → Ran Other Question Answer Entry End
  goes before = after_all before.did (run g (grow before.state) before.next before.at)

  by_reading : (s : State) (next : ℕ) (anew : Bool) (k : Reading → Talk Question Answer End) (o : Option (Read State)) →
      IfSome o (λ read. g.read (grow s) next (wanted anew next) ≡ read_with grow (Some read)) →
      ((given : Reading) (id : ℕ) (later : State) → run g (grow later) id (k given) ≡ goes (run h later id (k given))) →
      run g (grow s) next (Hears anew k) ≡ goes (by_read (heard h next anew k) (stops s next (Hears anew k)) o)
  unfolding run
  by_reading s next anew k (Some read) e again =
      ap (by_read (heard g next anew k) (stops (grow s) next (Hears anew k))) e
      ∙ ap (after (Reads (wanted anew next) read.given read.next)) (again read.given read.next read.later)
  by_reading s next anew k None e again = refl

  by_answering : (s : State) (next : ℕ) (question : Question) (k : Answer → Talk Question Answer End) (o : Option (Answered State Answer Entry)) →
      IfSome o (λ answered. g.answer (grow s) question ≡ answered_with grow (Some answered)) →
      ((own : Own Answer Entry) (later : State) → run g (grow later) next (k own.given) ≡ goes (run h later next (k own.given))) →
      run g (grow s) next (Asks question k) ≡ goes (by_answer (told h next question k) (stops s next (Asks question k)) o)
  unfolding run
  by_answering s next question k (Some answered) e again =
      ap (by_answer (told g next question k) (stops (grow s) next (Asks question k))) e
      ∙ ap (after (Answers question answered.own)) (again answered.own answered.later)
  by_answering s next question k None e again = refl

  pub runs_go_on : (s : State) (next : ℕ) (t : Talk Question Answer End) → run g (grow s) next t ≡ goes (run h s next t)
  unfolding run
  runs_go_on s next (Says payload t) = ap (after (Sends (record { first = next; payload = payload }))) (runs_go_on s (id_behind next payload) t)
  runs_go_on s next (Hears anew k) =
      by_reading s next anew k (h.read s next (wanted anew next)) (grows.reads s next (wanted anew next)) (λ given id later. runs_go_on later id (k given))
  runs_go_on s next (Asks question k) =
      by_answering s next question k (h.answer s question) (grows.answers s question) (λ own later. runs_go_on later next (k own.given))
  runs_go_on s next (Over end) = refl

-- ## Stopping

module _ {State Question Answer Entry End : Type 0} (h : Handler State Question Answer Entry) where
  abbrev Stopped : Ran State Question Answer Entry End → Type 0
  Stopped r = HasNothing h r.state r.next r.at

  stops_reading : (s : State) (next : ℕ) (anew : Bool) (k : Reading → Talk Question Answer End) (o : Option (Read State)) →
      h.read s next (wanted anew next) ≡ o →
      ((given : Reading) (id : ℕ) (later : State) → Stopped (run h later id (k given))) →
      Stopped (by_read (heard h next anew k) (stops s next (Hears anew k)) o)
  stops_reading s next anew k (Some read) e again = again read.given read.next read.later
  stops_reading s next anew k None e again = e

  stops_answering : (s : State) (next : ℕ) (question : Question) (k : Answer → Talk Question Answer End) (o : Option (Answered State Answer Entry)) →
      h.answer s question ≡ o →
      ((own : Own Answer Entry) (later : State) → Stopped (run h later next (k own.given))) →
      Stopped (by_answer (told h next question k) (stops s next (Asks question k)) o)
  stops_answering s next question k (Some answered) e again = again answered.own answered.later
  stops_answering s next question k None e again = e

  pub runs_stop : (s : State) (next : ℕ) (t : Talk Question Answer End) → Stopped (run h s next t)
  unfolding run
  runs_stop s next (Says payload t) = runs_stop s (id_behind next payload) t
  runs_stop s next (Hears anew k) =
      stops_reading s next anew k (h.read s next (wanted anew next)) refl (λ given id later. runs_stop later id (k given))
  runs_stop s next (Asks question k) =
      stops_answering s next question k (h.answer s question) refl (λ own later. runs_stop later next (k own.given))
  runs_stop s next (Over end) = tt
