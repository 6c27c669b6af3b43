-- A run goes by turns, of which each takes one that is left.
use Rattle.std.proofs.Common.{◌≡◌, refl, ap, ◌<◌, ℕ, zero, suc, Bool, Option, Some, None, IfSome, arith}
use Rattle.interaction.specs.Runs.{Answered, Answers, Handler, Own, Ran, Read, Reads, after, after_all, by_answer, by_read, run, stops, wanted}
use Rattle.interaction.specs.Talk.{Reading, Talk, Got, Faulty, PeerClosed, LinkFailed, Says, Hears, Asks, Over}
use Rattle.interaction.specs.Turns.{IsAtRest, Within, by_turn, left_behind, silent, turn}
use Rattle.packet_stream.specs.Sent.{id_behind}
use Rattle.interaction.proofs.GoingOn.{heard, runs_go_on, told}

module _ {State Question Answer Entry End : Type 0} (h : Handler State Question Answer Entry) where
  -- ## By turns

  -- the talk says what it says before it waits, and goes on from there
  says_first : (s : State) (next : ℕ) (t : Talk Question Answer End) →
      let r = run silent s next t in
      run h s next t ≡ after_all r.did (run h r.state r.next r.at)
  says_first s next t = runs_go_on silent h (λ same. same) (record { reads = λ s next want. tt; answers = λ s question. tt }) s next t

  abbrev heard_first : (next : ℕ) (anew : Bool) → (Reading → Talk Question Answer End) → Reading → ℕ → State → Ran State Question Answer Entry End
  heard_first next anew k given id later = after (Reads (wanted anew next) given id) (run silent later id (k given))

  abbrev told_first : (next : ℕ) → Question → (Answer → Talk Question Answer End) → Own Answer Entry → State → Ran State Question Answer Entry End
  told_first next question k own later = after (Answers question own) (run silent later next (k own.given))

  turn_reading : (s : State) (next : ℕ) (anew : Bool) (k : Reading → Talk Question Answer End) (o : Option (Read State)) →
      by_read (heard h next anew k) (stops s next (Hears anew k)) o
      ≡ by_turn h (stops s next (Hears anew k)) (by_read (λ given id later. Some (heard_first next anew k given id later)) None o)
  turn_reading s next anew k (Some read) = ap (after (Reads (wanted anew next) read.given read.next)) (says_first read.later read.next (k read.given))
  turn_reading s next anew k None = refl

  turn_answering : (s : State) (next : ℕ) (question : Question) (k : Answer → Talk Question Answer End) (o : Option (Answered State Answer Entry)) →
      by_answer (told h next question k) (stops s next (Asks question k)) o
      ≡ by_turn h (stops s next (Asks question k)) (by_answer (λ own later. Some (told_first next question k own later)) None o)
  turn_answering s next question k (Some answered) = ap (after (Answers question answered.own)) (says_first answered.later next (k answered.own.given))
  turn_answering s next question k None = refl

  pub runs_go_by_turns : (s : State) (next : ℕ) (t : Talk Question Answer End) → IsAtRest t → run h s next t ≡ by_turn h (stops s next t) (turn h s next t)
  unfolding run turn
  runs_go_by_turns s next (Says payload t) rest = absurd rest
  runs_go_by_turns s next (Hears anew k) rest = turn_reading s next anew k (h.read s next (wanted anew next))
  runs_go_by_turns s next (Asks question k) rest = turn_answering s next question k (h.answer s question)
  runs_go_by_turns s next (Over end) rest = refl

  -- ## Turns that are left

  says_within : (all left : ℕ) (s : State) (next : ℕ) (t : Talk Question Answer End) → Within all left t →
      IsAtRest (run {Entry = Entry} silent s next t).at × Within all left (run {Entry = Entry} silent s next t).at
  unfolding run
  says_within all left s next (Says payload t) within = says_within all left s (id_behind next payload) t within
  says_within all left s next (Hears anew k) within = (tt, within)
  says_within all left s next (Asks question k) within = (tt, within)
  says_within all left s next (Over end) within = (tt, within)

  abbrev IsTaken : (all left : ℕ) → Ran State Question Answer Entry End → Type 0
  IsTaken all left r = (0 < left) × IsAtRest r.at × Within all (left_behind all left r.did) r.at

  taken_reading : (all left next : ℕ) (anew : Bool) (k : Reading → Talk Question Answer End) (o : Option (Read State)) → Within all (suc left) (Hears anew k) →
      IfSome (by_read (λ given id later. Some (heard_first next anew k given id later)) None o) (IsTaken all (suc left))
  taken_reading all left next anew k (Some read) within = by_given read.given
    where
      by_given : (given : Reading) → IsTaken all (suc left) (heard_first next anew k given read.next read.later)
      by_given (Got payload) = let said = says_within all all read.later read.next (k (Got payload)) (within.0 payload) in (omega arith, said.0, said.1)
      by_given (Faulty fault) = let said = says_within all left read.later read.next (k (Faulty fault)) (within.1 fault) in (omega arith, said.0, said.1)
      by_given (PeerClosed cut) = let said = says_within all left read.later read.next (k (PeerClosed cut)) (within.2 cut) in (omega arith, said.0, said.1)
      by_given LinkFailed = let said = says_within all left read.later read.next (k LinkFailed) within.3 in (omega arith, said.0, said.1)
  taken_reading all left next anew k None within = tt

  taken_answering : (all left next : ℕ) (question : Question) (k : Answer → Talk Question Answer End) (o : Option (Answered State Answer Entry)) →
      Within all (suc left) (Asks question k) →
      IfSome (by_answer (λ own later. Some (told_first next question k own later)) None o) (IsTaken all (suc left))
  taken_answering all left next question k (Some answered) within =
      let said = says_within all left answered.later next (k answered.own.given) (within answered.own.given) in
      (omega arith, said.0, said.1)
  taken_answering all left next question k None within = tt

  pub turns_are_taken : (all left : ℕ) (s : State) (next : ℕ) (t : Talk Question Answer End) → Within all left t → IfSome (turn h s next t) (IsTaken all left)
  unfolding turn
  turns_are_taken all left s next (Says payload t) within = tt
  turns_are_taken all zero s next (Hears anew k) within = absurd within
  turns_are_taken all (suc left) s next (Hears anew k) within = taken_reading all left next anew k (h.read s next (wanted anew next)) within
  turns_are_taken all zero s next (Asks question k) within = absurd within
  turns_are_taken all (suc left) s next (Asks question k) within = taken_answering all left next question k (h.answer s question) within
  turns_are_taken all left s next (Over end) within = tt
