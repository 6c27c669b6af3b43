-- What each answer of a handler is, all answers of a run are; and what each step of a handler keeps, a run keeps.
use Rattle.std.proofs.Common.{ℕ, Bool, List, Option, Some, None, IfSome}
use Rattle.packet_stream.specs.Sent.{id_behind}
use Rattle.interaction.specs.Events.{AllAnswered}
use Rattle.interaction.specs.Runs.{Answered, Handler, Own, Ran, Read, by_answer, by_read, run, stops, wanted}
use Rattle.interaction.specs.Talk.{Reading, Talk, Says, Hears, Asks, Over}
use Rattle.interaction.proofs.GoingOn.{heard, told}

module _ {State Question Answer Entry End : Type 0} (h : Handler State Question Answer Entry) (Keeps : State → Type 0) (Right : Question → Answer → List Entry → Type 0)
    (reads : (s : State) (next want : ℕ) → Keeps s → IfSome (h.read s next want) (λ read. Keeps read.later))
    (answers : (s : State) (question : Question) → Keeps s →
    IfSome (h.answer s question) (λ answered. Right question answered.own.given answered.own.added × Keeps answered.later)) where
  abbrev IsKept : Ran State Question Answer Entry End → Type 0
  IsKept r = AllAnswered Right r.did × Keeps r.state

  kept_reading : (s : State) (next : ℕ) (anew : Bool) (k : Reading → Talk Question Answer End) (o : Option (Read State)) →
      Keeps s → IfSome o (λ read. Keeps read.later) →
      ((given : Reading) (id : ℕ) (later : State) → Keeps later → IsKept (run h later id (k given))) →
      IsKept (by_read (heard h next anew k) (stops s next (Hears anew k)) o)
  kept_reading s next anew k (Some read) keeps later again = again read.given read.next read.later later
  kept_reading s next anew k None keeps later again = (tt, keeps)

  kept_answering : (s : State) (next : ℕ) (question : Question) (k : Answer → Talk Question Answer End) (o : Option (Answered State Answer Entry)) →
      Keeps s → IfSome o (λ answered. Right question answered.own.given answered.own.added × Keeps answered.later) →
      ((own : Own Answer Entry) (later : State) → Keeps later → IsKept (run h later next (k own.given))) →
      IsKept (by_answer (told h next question k) (stops s next (Asks question k)) o)
  kept_answering s next question k (Some answered) keeps right again =
      let kept = again answered.own answered.later right.1 in
      ((right.0, kept.0), kept.1)
  kept_answering s next question k None keeps right again = (tt, keeps)

  pub runs_keep : (s : State) (next : ℕ) (t : Talk Question Answer End) → Keeps s → IsKept (run h s next t)
  unfolding run
  runs_keep s next (Says payload t) keeps = runs_keep s (id_behind next payload) t keeps
  runs_keep s next (Hears anew k) keeps =
      kept_reading s next anew k (h.read s next (wanted anew next)) keeps (reads s next (wanted anew next) keeps) (λ given id later kept. runs_keep later id (k given) kept)
  runs_keep s next (Asks question k) keeps =
      kept_answering s next question k (h.answer s question) keeps (answers s question keeps) (λ own later kept. runs_keep later next (k own.given) kept)
  runs_keep s next (Over end) keeps = (tt, keeps)
