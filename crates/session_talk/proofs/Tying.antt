-- What is owed over bytes is what is owed for the packets among them.
use Rattle.std.proofs.Common.{◌≡◌, refl, ap, sym, ◌∙◌, ℕ, Bool, true, false, if◌then◌else◌, List, [], ◌∷◌, Option, Some, None}
use Rattle.packet_frame.specs.Front.{Front, Whole, Part, Fault}
use Rattle.packet_frame.specs.Packets.{id_after}
use Rattle.packet_frame.specs.declared.packets.FrameFault.{FrameFault}
use Rattle.packet_stream.specs.Sent.{Sent, id_behind}
use Rattle.packet_stream.specs.Streams.{Stream, behind_of, by_front, front_of}
use Rattle.interaction.specs.Talk as talk
use Rattle.interaction.specs.Talk.{Got, Says, Hears, Asks}
use Rattle.session_talk.specs.Logins.{faulted}
use Rattle.session_talk.specs.Owed as owing
use Rattle.session_talk.specs.Owed.{Owed, owed}
use Rattle.session_talk.specs.Talk.{SessionTalk}
use Rattle.session_talk.specs.Transcript.{Reading, WiredIsOwed, after_packet, by_packet, fault_at, fault_in, read_of, told_fault}
use Rattle.session_talk.specs.Turns.{takes, wanted}
use Rattle.session_talk.specs.Wired.{Wired, after_sent, said_from, stops, wired}
use Rattle.session_talk.specs.declared.inputs.Input.{Input}

-- a payload that is sent first
sent_first : (first : Sent) (fault : Option FrameFault) (o : Owed) (stream : Stream) →
    after_sent first (told_fault fault o stream) ≡ told_fault fault (owing.after_sent first o) stream
sent_first first None o stream = refl
sent_first first (Some fault) o stream = refl

module _ (next : ℕ) (anew : Bool) (k : talk.Reading → SessionTalk) (stream : Stream) (owns : List Input) where
  abbrev read_by : Front → Reading
  read_by f = by_packet (λ packet behind. after_packet packet (read_of (id_after packet.last) (k (Got packet.payload)) behind owns)) stream f

  abbrev wired_by : Front → Wired
  wired_by f = by_front (λ last payload behind. wired (id_after last) (k (Got payload)) (behind_of stream behind) owns)
      (stops next (Hears anew k) stream owns) (λ fault. said_from (id_after (wanted anew next)) (faulted fault) stream owns) f

  abbrev tied : Reading → Wired
  tied read = told_fault (fault_at (owed next (Hears anew k) read.packets owns).next (owed next (Hears anew k) read.packets owns).at read.left)
      (owed next (Hears anew k) read.packets owns) read.left

  abbrev Again : Type 0
  Again = (last : ℕ) (payload : List ℕ) (s : Stream) →
      wired (id_after last) (k (Got payload)) s owns
      ≡ (let read = read_of (id_after last) (k (Got payload)) s owns in
      let o = owed (id_after last) (k (Got payload)) read.packets owns in told_fault (fault_at o.next o.at read.left) o read.left)

  by_shown : Again → (f : Front) → front_of (wanted anew next) stream ≡ f → wired_by f ≡ tied (read_by f)
  unfolding wired owed
  by_shown again (Whole first last payload behind) e = again last payload (behind_of stream behind)
  by_shown again (Part missing) e = ap (λ (g : Front). told_fault (fault_in g) (owing.waits next (Hears anew k) [] owns) stream) (sym e)
  by_shown again (Fault fault) e = ap (λ (g : Front). told_fault (fault_in g) (owing.waits next (Hears anew k) [] owns) stream) (sym e)

pub wired_is_owed : WiredIsOwed
unfolding wired owed read_of
wired_is_owed next (Says payload t) stream owns =
    ap (after_sent (record { first = next; payload = payload })) (wired_is_owed (id_behind next payload) t stream owns)
    ∙ sent_first (record { first = next; payload = payload }) _ _ _
wired_is_owed next (Hears anew k) stream owns =
    by_shown next anew k stream owns (λ last payload s. wired_is_owed (id_after last) (k (Got payload)) s owns) (front_of (wanted anew next) stream) refl
wired_is_owed next (Asks q k) stream (given ∷ owns) = by_kind (wired_is_owed next (k given) stream owns) (takes q given)
  where
    read : Bool → Reading
    read b = if b then read_of next (k given) stream owns else record { packets = []; left = stream }

    owes : Bool → Owed
    owes b = if b then owed next (k given) (read b).packets owns else owing.waits next (Asks q k) (read b).packets (given ∷ owns)

    IsTied : Bool → Type 0
    IsTied b = (if b then wired next (k given) stream owns else stops next (Asks q k) stream (given ∷ owns))
        ≡ told_fault (fault_at (owes b).next (owes b).at (read b).left) (owes b) (read b).left

    by_kind : IsTied true → (b : Bool) → IsTied b
    by_kind again true = again
    by_kind again false = refl
wired_is_owed next t stream owns = refl
