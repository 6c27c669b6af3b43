-- What is done until reading ends is owed.
use Rattle.std.proofs.Common.{◌≡◌, refl, ap, ℕ, Bool, List, [], ◌∷◌, Option, Some, None}
use Rattle.packet_stream.specs.Sent.{id_behind}
use Rattle.interaction.specs.Events.{owns_of, packets_in, until_unread}
use Rattle.interaction.specs.Handlers.{of_packets, owed}
use Rattle.interaction.specs.Laws.{RunsAreOwed}
use Rattle.interaction.specs.Runs.{Answered, Answers, Handler, Own, Ran, Read, Reads, Sends, after, by_answer, by_read, run, stops, wanted}
use Rattle.interaction.specs.Talk.{Reading, Talk, Got, Faulty, PeerClosed, LinkFailed, Says, Hears, Asks, Over}
use Rattle.interaction.proofs.GoingOn.{heard, told}

tail_is : {A : Type 0} {x y : A} {xs ys : List A} → x ∷ xs ≡ y ∷ ys → xs ≡ ys
tail_is e = ap (λ zs. elim zs [ [] ↦ [] | _ ∷ rest ↦ rest ]) e

module _ {State Question Answer Entry End : Type 0} (h : Handler State Question Answer Entry) where
  abbrev IsOwed : (next : ℕ) → Talk Question Answer End → Ran State Question Answer Entry End → Type 0
  IsOwed next t r =
      let before = until_unread r.did in
      (owed (packets_in before) (owns_of before) next t).did ≡ before

  owed_reading : (s : State) (next : ℕ) (anew : Bool) (k : Reading → Talk Question Answer End) (o : Option (Read State)) →
      ((given : Reading) (id : ℕ) (later : State) → IsOwed id (k given) (run h later id (k given))) →
      IsOwed next (Hears anew k) (by_read (heard h next anew k) (stops s next (Hears anew k)) o)
  unfolding run
  owed_reading s next anew k (Some read) again = by_given read.given
    where
      by_given : (given : Reading) → IsOwed next (Hears anew k) (heard h next anew k given read.next read.later)
      by_given (Got payload) = ap (λ did. Reads (wanted anew next) (Got payload) read.next ∷ did) (again (Got payload) read.next read.later)
      by_given (Faulty fault) = refl
      by_given (PeerClosed cut) = refl
      by_given LinkFailed = refl
  owed_reading s next anew k None again = refl

  owed_answering : (s : State) (next : ℕ) (question : Question) (k : Answer → Talk Question Answer End) (o : Option (Answered State Answer Entry)) →
      ((own : Own Answer Entry) (later : State) → IsOwed next (k own.given) (run h later next (k own.given))) →
      IsOwed next (Asks question k) (by_answer (told h next question k) (stops s next (Asks question k)) o)
  unfolding run
  owed_answering s next question k (Some answered) again = ap (λ did. Answers question answered.own ∷ did) (again answered.own answered.later)
  owed_answering s next question k None again = refl

  pub owed_until : (s : State) (next : ℕ) (t : Talk Question Answer End) → IsOwed next t (run h s next t)
  unfolding run
  owed_until s next (Says payload t) = ap (λ did. Sends (record { first = next; payload = payload }) ∷ did) (owed_until s (id_behind next payload) t)
  owed_until s next (Hears anew k) = owed_reading s next anew k (h.read s next (wanted anew next)) (λ given id later. owed_until later id (k given))
  owed_until s next (Asks question k) = owed_answering s next question k (h.answer s question) (λ own later. owed_until later next (k own.given))
  owed_until s next (Over end) = refl

  -- the whole run, where reading hasn't ended
  abbrev IsAllOwed : (next : ℕ) → Talk Question Answer End → Ran State Question Answer Entry End → Type 0
  IsAllOwed next t r =
      until_unread r.did ≡ r.did →
      owed (packets_in r.did) (owns_of r.did) next t ≡ record { did = r.did; state = of_packets [] []; next = r.next; at = r.at }

  all_reading : (s : State) (next : ℕ) (anew : Bool) (k : Reading → Talk Question Answer End) (o : Option (Read State)) →
      ((given : Reading) (id : ℕ) (later : State) → IsAllOwed id (k given) (run h later id (k given))) →
      IsAllOwed next (Hears anew k) (by_read (heard h next anew k) (stops s next (Hears anew k)) o)
  unfolding run
  all_reading s next anew k (Some read) again = by_given read.given
    where
      by_given : (given : Reading) → IsAllOwed next (Hears anew k) (heard h next anew k given read.next read.later)
      by_given (Got payload) e = ap (after (Reads (wanted anew next) (Got payload) read.next)) (again (Got payload) read.next read.later (tail_is e))
      by_given (Faulty fault) e = absurd (cc)
      by_given (PeerClosed cut) e = absurd (cc)
      by_given LinkFailed e = absurd (cc)
  all_reading s next anew k None again = λ e. refl

  all_answering : (s : State) (next : ℕ) (question : Question) (k : Answer → Talk Question Answer End) (o : Option (Answered State Answer Entry)) →
      ((own : Own Answer Entry) (later : State) → IsAllOwed next (k own.given) (run h later next (k own.given))) →
      IsAllOwed next (Asks question k) (by_answer (told h next question k) (stops s next (Asks question k)) o)
  unfolding run
  all_answering s next question k (Some answered) again e =
      ap (after (Answers question answered.own)) (again answered.own answered.later (tail_is e))
  all_answering s next question k None again e = refl

  pub owed_whole : (s : State) (next : ℕ) (t : Talk Question Answer End) → IsAllOwed next t (run h s next t)
  unfolding run
  owed_whole s next (Says payload t) e = ap (after (Sends (record { first = next; payload = payload }))) (owed_whole s (id_behind next payload) t (tail_is e))
  owed_whole s next (Hears anew k) e = all_reading s next anew k (h.read s next (wanted anew next)) (λ given id later. owed_whole later id (k given)) e
  owed_whole s next (Asks question k) e = all_answering s next question k (h.answer s question) (λ own later. owed_whole later next (k own.given)) e
  owed_whole s next (Over end) e = refl

module _ {State Question Answer Entry End : Type 0} where
  pub runs_are_owed : RunsAreOwed State Question Answer Entry End
  runs_are_owed = record {
    until = λ h s next t. owed_until h s next t;
    whole = λ h s next t e. owed_whole h s next t e;
  }
