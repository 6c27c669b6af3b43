-- What stands in lists is used in order.
use Rattle.std.proofs.Common.{◌≡◌, refl, ap, ℕ, Bool, List, [], ◌∷◌, ◌++◌, Option, Some, None}
use Rattle.packet_stream.specs.Sent.{id_behind}
use Rattle.packet_stream.specs.Streams.{Stream}
use Rattle.interaction.specs.Events.{Given, GivesAnswer, GivesReading, Received, owns_of, packets_in, script_of}
use Rattle.interaction.specs.Handlers.{OverBytes, Peer, of_bytes, over_bytes, owed, read_bytes, read_with, scripted}
use Rattle.interaction.specs.Laws.{ListsAreUsedInOrder}
use Rattle.interaction.specs.Runs.{Own, Ran, Read, by_read, run, stops, wanted}
use Rattle.interaction.specs.Talk.{Reading, Talk, Got, Says, Hears, Asks, Over}
use Rattle.interaction.proofs.GoingOn.{heard}

module _ {Question Answer Entry End : Type 0} where
  script_used : (given : List (Given Answer Entry)) (next : ℕ) (t : Talk Question Answer End) →
      let r = run scripted given next t in
      given ≡ script_of r.did ++ r.state
  unfolding run
  script_used given next (Says payload t) = script_used given (id_behind next payload) t
  script_used [] next (Hears anew k) = refl
  script_used (GivesReading reading id ∷ given) next (Hears anew k) = ap (λ rest. GivesReading reading id ∷ rest) (script_used given id (k reading))
  script_used (GivesAnswer own ∷ given) next (Hears anew k) = refl
  script_used [] next (Asks question k) = refl
  script_used (GivesReading reading id ∷ given) next (Asks question k) = refl
  script_used (GivesAnswer own ∷ given) next (Asks question k) = ap (λ rest. GivesAnswer own ∷ rest) (script_used given next (k own.given))
  script_used given next (Over end) = refl

  packets_used : (packets : List Received) (owns : List (Own Answer Entry)) (next : ℕ) (t : Talk Question Answer End) →
      let r = owed packets owns next t in
      (packets ≡ packets_in r.did ++ r.state.packets) × (owns ≡ owns_of r.did ++ r.state.owns)
  unfolding run
  packets_used packets owns next (Says payload t) = packets_used packets owns (id_behind next payload) t
  packets_used [] owns next (Hears anew k) = (refl, refl)
  packets_used (packet ∷ packets) owns next (Hears anew k) =
      let used = packets_used packets owns packet.next (k (Got packet.payload)) in
      (ap (λ rest. packet ∷ rest) used.0, used.1)
  packets_used packets [] next (Asks question k) = (refl, refl)
  packets_used packets (own ∷ owns) next (Asks question k) =
      let used = packets_used packets owns next (k own.given) in
      (used.0, ap (λ rest. own ∷ rest) used.1)
  packets_used packets owns next (Over end) = (refl, refl)

  module _ (peer : Peer) where
    abbrev IsUsed : List (Own Answer Entry) → Ran (OverBytes Answer Entry) Question Answer Entry End → Type 0
    IsUsed owns r = owns ≡ owns_of r.did ++ r.state.owns

    used_reading : (stream : Stream) (owns : List (Own Answer Entry)) (next : ℕ) (anew : Bool) (k : Reading → Talk Question Answer End) (o : Option (Read Stream)) →
        ((given : Reading) (id : ℕ) (left : Stream) → IsUsed owns (run (over_bytes peer) (of_bytes left owns) id (k given))) →
        IsUsed owns (by_read (heard (over_bytes peer) next anew k) (stops (of_bytes stream owns) next (Hears anew k)) (read_with (λ left. of_bytes left owns) o))
    used_reading stream owns next anew k (Some read) again = again read.given read.next read.later
    used_reading stream owns next anew k None again = refl

    answers_used : (stream : Stream) (owns : List (Own Answer Entry)) (next : ℕ) (t : Talk Question Answer End) →
        IsUsed owns (run (over_bytes peer) (of_bytes stream owns) next t)
    unfolding run
    answers_used stream owns next (Says payload t) = answers_used stream owns (id_behind next payload) t
    answers_used stream owns next (Hears anew k) =
        used_reading stream owns next anew k (read_bytes peer next (wanted anew next) stream) (λ given id left. answers_used left owns id (k given))
    answers_used stream [] next (Asks question k) = refl
    answers_used stream (own ∷ owns) next (Asks question k) = ap (λ rest. own ∷ rest) (answers_used stream owns next (k own.given))
    answers_used stream owns next (Over end) = refl

  pub lists_are_used_in_order : ListsAreUsedInOrder Question Answer Entry End
  lists_are_used_in_order = record {
    script = script_used;
    packets = packets_used;
    answers = answers_used;
  }
