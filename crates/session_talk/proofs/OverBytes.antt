-- What is owed over bytes goes on, however they are cut.
use Rattle.std.proofs.Common.{◌≡◌, refl, ap, sym, ◌∙◌, ℕ, Bool, true, false, if◌then◌else◌, List, ◌∷◌, ◌++◌}
use Rattle.packet_frame.specs.Front.{Front, Whole, Part, Fault, StaysWith}
use Rattle.packet_frame.specs.Packets.{id_after}
use Rattle.packet_frame.specs.declared.packets.FrameFault.{FrameFault}
use Rattle.packet_frame.specs.declared.packets.FrameFault.TheVariants.{TooLarge, OutOfOrder, Memory as NoMemory}
use Rattle.packet_stream.proofs.Longer.{behind_more, stays}
use Rattle.packet_stream.specs.Sent.{id_behind}
use Rattle.packet_stream.specs.Streams.{Stream, behind_of, by_front, front_of, with_more}
use Rattle.interaction.specs.Talk.{Got, Says, Hears, Asks}
use Rattle.session_talk.specs.Laws.{WiredGoesOn}
use Rattle.session_talk.specs.Logins.{faulted}
use Rattle.session_talk.specs.Turns.{takes, wanted}
use Rattle.session_talk.specs.Wired.{Wired, after_all_sent, after_sent, said_from, stops, wired}
use Rattle.session_talk.specs.declared.inputs.Input.{Input}

-- the talk of a fault of framing is over, whatever follows
faulted_on : (next : ℕ) (fault : FrameFault) (stream : Stream) (more : List ℕ) (owns others : List Input) →
    let before = said_from next (faulted fault) stream owns in
    said_from next (faulted fault) (with_more stream more) (owns ++ others)
    ≡ after_all_sent before.sent (wired before.next before.at (with_more before.unread more) (before.unused ++ others))
unfolding said_from wired
faulted_on next (TooLarge at) stream more owns others = refl
faulted_on next (OutOfOrder at want got) stream more owns others = refl
faulted_on next NoMemory stream more owns others = refl

pub wired_goes_on : WiredGoesOn
unfolding wired
wired_goes_on next (Says payload t) stream more os us =
    ap (after_sent (record { first = next; payload = payload })) (wired_goes_on (id_behind next payload) t stream more os us)
wired_goes_on next (Hears anew k) stream more os us = by_shown (λ last payload s. wired_goes_on (id_after last) (k (Got payload)) s more os us) (front_of (wanted anew next) stream) (stays stream more (wanted anew next))
  where
    at_front : Stream → List Input → Front → Wired
    at_front s owns f = by_front (λ last payload behind. wired (id_after last) (k (Got payload)) (behind_of s behind) owns)
        (stops next (Hears anew k) s owns) (λ fault. said_from (id_after (wanted anew next)) (faulted fault) s owns) f

    Again : Type 0
    Again = (last : ℕ) (payload : List ℕ) (s : Stream) → let before = wired (id_after last) (k (Got payload)) s os in
        wired (id_after last) (k (Got payload)) (with_more s more) (os ++ us)
        ≡ after_all_sent before.sent (wired before.next before.at (with_more before.unread more) (before.unused ++ us))

    by_shown : Again → (f : Front) → StaysWith more f (front_of (wanted anew next) (with_more stream more)) →
        at_front (with_more stream more) (os ++ us) (front_of (wanted anew next) (with_more stream more))
        ≡ after_all_sent (at_front stream os f).sent (wired (at_front stream os f).next (at_front stream os f).at (with_more (at_front stream os f).unread more) ((at_front stream os f).unused ++ us))
    by_shown again (Whole first last payload behind) e =
        ap (λ (g : Front). at_front (with_more stream more) (os ++ us) g) e
        ∙ (ap (λ (s : Stream). wired (id_after last) (k (Got payload)) s (os ++ us)) (behind_more stream behind more)
        ∙ again last payload (behind_of stream behind))
    by_shown again (Part missing) e = refl
    by_shown again (Fault fault) e =
        ap (λ (g : Front). at_front (with_more stream more) (os ++ us) g) e ∙ faulted_on (id_after (wanted anew next)) fault stream more os us
wired_goes_on next (Asks q k) stream more (given ∷ os) us = by_kind (wired_goes_on next (k given) stream more os us) (takes q given) refl
  where
    before : Bool → Wired
    before b = if b then wired next (k given) stream os else stops next (Asks q k) stream (given ∷ os)

    longer : Bool → Wired
    longer b = if b then wired next (k given) (with_more stream more) (os ++ us) else stops next (Asks q k) (with_more stream more) (given ∷ (os ++ us))

    IsOn : Bool → Type 0
    IsOn b = longer b ≡ after_all_sent (before b).sent (wired (before b).next (before b).at (with_more (before b).unread more) ((before b).unused ++ us))

    by_kind : IsOn true → (b : Bool) → takes q given ≡ b → IsOn b
    by_kind again true e = again
    by_kind again false e = sym (ap longer e)
wired_goes_on next t stream more os us = refl
