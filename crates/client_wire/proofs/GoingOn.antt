-- What comes of bytes goes on, however they are cut.
use Rattle.std.proofs.Common.{◌≡◌, refl, ap, sym, ◌∙◌, ℕ, List, ◌++◌, append_assoc}
use Rattle.packet_frame.specs.Front.{Front, Whole, Part, Fault, StaysWith}
use Rattle.packet_frame.specs.Packets.{id_after}
use Rattle.packet_stream.proofs.Longer.{behind_more, stays}
use Rattle.packet_stream.specs.Streams.{Stream, behind_of, front_of, with_more}
use Rattle.packet_stream.specs.Sent.{id_behind}
use Rattle.login_client.specs.Heard.{heard_of}
use Rattle.login_client.specs.Talk.{Talk, Hears, Says, Over}
use Rattle.login_client.specs.declared.hearing.Heard.{Heard}
use Rattle.client_wire.specs.Getting.{Got, after_written, getting}
use Rattle.client_wire.specs.Laws.{GettingGoesOn}
use Rattle.packet_stream.specs.Packing.{packet_text}
use Rattle.client_wire.proofs.Fronted.{at_front}

abbrev goes_on : Got → List ℕ → Got
goes_on before more = after_written before.sent (getting before.next before.at (with_more before.unread more))

abbrev GoesOn : (next : ℕ) → Talk → Stream → List ℕ → Type 0
GoesOn next t stream more = getting next t (with_more stream more) ≡ goes_on (getting next t stream) more

-- a talk that hears
module _ (next : ℕ) (k : Heard → Talk) (stream : Stream) (more : List ℕ) where
  abbrev Again : Type 0
  Again = (last : ℕ) (payload : List ℕ) (s : Stream) → GoesOn (id_after last) (k (heard_of payload)) s more

  by_shown : Again → (f : Front) → StaysWith more f (front_of next (with_more stream more)) →
      at_front next k (with_more stream more) (front_of next (with_more stream more)) ≡ goes_on (at_front next k stream f) more
  unfolding getting
  by_shown again (Whole first last payload behind) e =
      ap (λ (g : Front). at_front next k (with_more stream more) g) e
      ∙ (ap (λ (s : Stream). getting (id_after last) (k (heard_of payload)) s) (behind_more stream behind more)
      ∙ again last payload (behind_of stream behind))
  by_shown again (Part missing) e = refl
  by_shown again (Fault fault) e = ap (λ (g : Front). at_front next k (with_more stream more) g) e

  pub hears_goes_on : Again →
      at_front next k (with_more stream more) (front_of next (with_more stream more)) ≡ goes_on (at_front next k stream (front_of next stream)) more
  hears_goes_on again = by_shown again (front_of next stream) (stays stream more next)

after_both : (text before : List ℕ) (g : Got) → after_written text (after_written before g) ≡ after_written (text ++ before) g
after_both text before g = ap (λ (sent : List ℕ). record g { sent = sent }) (sym (append_assoc text before g.sent))

pub getting_goes_on : GettingGoesOn
unfolding getting
getting_goes_on next (Hears k) stream more =
    hears_goes_on next k stream more (λ last payload s. getting_goes_on (id_after last) (k (heard_of payload)) s more)
getting_goes_on next (Says said k) stream more =
    ap (after_written (packet_text next said))
    (hears_goes_on (id_behind next said) k stream more (λ last payload s. getting_goes_on (id_after last) (k (heard_of payload)) s more))
    ∙ after_both (packet_text next said) _ _
getting_goes_on next (Over end) stream more = refl
