-- A loop over a link keeps the run of the talk that it drives.
use Rattle.std.proofs.Common.{◌≡◌, refl, ap, sym, ◌∙◌, ℕ, Bool, List, [], ◌∷◌, ◌++◌, Option, Some, None, IfSome, append_assoc}
use Rattle.packet_stream.specs.Sent.{id_behind}
use Rattle.packet_stream.specs.Streams.{Stream, with_more}
use Rattle.interaction.specs.Driving.{Arrived, Leads}
use Rattle.interaction.specs.Handlers.{Open, OverBytes, Peer, of_bytes, over_bytes, read_bytes, read_with}
use Rattle.interaction.specs.Laws.{DriversKeepTheRun}
use Rattle.interaction.specs.Runs.{Answers, Event, Own, Ran, Read, Reads, Sends, after, after_all, by_read, run, stops, wanted}
use Rattle.interaction.specs.Talk.{Reading, Talk, Says, Hears, Asks}
use Rattle.interaction.proofs.Cutting.{reading_grows}
use Rattle.interaction.proofs.GoingOn.{heard}

more_again : (stream : Stream) (more others : List ℕ) → with_more (with_more stream more) others ≡ with_more stream (more ++ others)
more_again stream more others = ap (λ (bytes : List ℕ). record stream { bytes = bytes }) (append_assoc stream.bytes more others)

module _ {Question Answer Entry End : Type 0} where
  after_one : {State : Type 0} (did : List (Event Question Answer Entry)) (event : Event Question Answer Entry) (r : Ran State Question Answer Entry End) →
      after_all did (after event r) ≡ after_all (did ++ event ∷ []) r
  after_one did event r = ap (λ (all : List (Event Question Answer Entry)). record r { did = all }) (sym (append_assoc did (event ∷ []) r.did))

  module _ (b : Arrived Question Answer Entry End) (now : Ran Stream Question Answer Entry End) where
    -- the run from here, where the talk stands so
    abbrev from_here : Peer → List ℕ → List (Own Answer Entry) → Talk Question Answer End → Ran (OverBytes Answer Entry) Question Answer Entry End
    from_here peer more others t = after_all now.did (run (over_bytes peer) (of_bytes (with_more now.state more) others) now.next t)

    says : (payload : List ℕ) (t : Talk Question Answer End) → now.at ≡ Says payload t → Leads b now →
        Leads b (record {
          did = now.did ++ Sends (record { first = now.next; payload = payload }) ∷ [];
          state = now.state;
          next = id_behind now.next payload;
          at = t;
        })
    unfolding run
    says payload t e leads peer more others =
        leads peer more others ∙ (ap (from_here peer more others) e ∙ after_one now.did (Sends (record { first = now.next; payload = payload })) _)

    answers : (question : Question) (k : Answer → Talk Question Answer End) (own : Own Answer Entry) → now.at ≡ Asks question k → Leads b now →
        Leads (record { stream = b.stream; owns = b.owns ++ own ∷ []; next = b.next; at = b.at })
        (record { did = now.did ++ Answers question own ∷ []; state = now.state; next = now.next; at = k own.given })
    unfolding run
    answers question k own e leads peer more others =
        ap (λ owns. run (over_bytes peer) (of_bytes (with_more b.stream more) owns) b.next b.at) (append_assoc b.owns (own ∷ []) others)
        ∙ (leads peer more (own ∷ others) ∙ (ap (from_here peer more (own ∷ others)) e ∙ after_one now.did (Answers question own) _))

    read_on : (anew : Bool) (k : Reading → Talk Question Answer End) → now.at ≡ Hears anew k → Leads b now → (o : Option (Read Stream)) →
        ((peer : Peer) (more : List ℕ) →
        IfSome o (λ read. read_bytes peer now.next (wanted anew now.next) (with_more now.state more) ≡ read_with (λ left. with_more left more) (Some read))) →
        IfSome o (λ read. Leads b (record {
          did = now.did ++ Reads (wanted anew now.next) read.given read.next ∷ [];
          state = read.later;
          next = read.next;
          at = k read.given;
        }))
    unfolding run
    read_on anew k e leads (Some read) grows = λ peer more others.
        leads peer more others
        ∙ (ap (from_here peer more others) e
        ∙ (ap (λ p. after_all now.did (by_read (heard (over_bytes peer) now.next anew k) (stops (of_bytes (with_more now.state more) others) now.next (Hears anew k))
        (read_with (λ left. of_bytes left others) p))) (grows peer more)
        ∙ after_one now.did (Reads (wanted anew now.next) read.given read.next) _))
    read_on anew k e leads None grows = tt

    gets : (more : List ℕ) → Leads b now →
        Leads (record { stream = with_more b.stream more; owns = b.owns; next = b.next; at = b.at })
        (record { did = now.did; state = with_more now.state more; next = now.next; at = now.at })
    gets more leads peer others owns =
        ap (λ stream. run (over_bytes peer) (of_bytes stream (b.owns ++ owns)) b.next b.at) (more_again b.stream more others)
        ∙ (leads peer (more ++ others) owns
        ∙ ap (λ stream. after_all now.did (run (over_bytes peer) (of_bytes stream owns) now.next now.at)) (sym (more_again now.state more others)))

  pub drivers_keep_the_run : DriversKeepTheRun Question Answer Entry End
  drivers_keep_the_run = record {
    begins = λ stream next t peer more others. refl;
    says = λ b now payload t e leads. says b now payload t e leads;
    answers = λ b now question k own e leads. answers b now question k own e leads;
    reads = λ b now anew k e leads. read_on b now anew k e leads (read_bytes Open now.next (wanted anew now.next) now.state)
        (λ peer more. reading_grows peer now.next (wanted anew now.next) now.state more);
    gets = λ b now more leads. gets b now more leads;
  }
