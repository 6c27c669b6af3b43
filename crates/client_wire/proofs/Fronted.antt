-- What comes of bytes to a client that hears, by what stands at their front.
use Rattle.std.proofs.Common.{◌≡◌, ap, ℕ, List}
use Rattle.packet_frame.specs.Front.{Front, Whole, Part, Fault}
use Rattle.packet_frame.specs.Packets.{id_after}
use Rattle.packet_frame.specs.declared.packets.FrameFault.{FrameFault}
use Rattle.packet_stream.specs.Streams.{Stream, behind_of, by_front, front_of}
use Rattle.login_client.specs.Heard.{heard_of}
use Rattle.login_client.specs.Talk.{Talk, Hears, Says, Over, IsWaiting, hearing}
use Rattle.login_client.specs.declared.ends.LoginEnd.TheVariants.{Framing}
use Rattle.login_client.specs.declared.hearing.Heard.{Heard}
use Rattle.client_wire.specs.Getting.{Got, getting, rests}

abbrev pub at_front : ℕ → (Heard → Talk) → Stream → Front → Got
at_front next k stream f = by_front (λ last payload behind. getting (id_after last) (k (heard_of payload)) (behind_of stream behind))
    (rests next (Hears k) stream) (λ fault. rests next (Over (Framing fault)) stream) f

-- the same of a talk that waits

pub getting-packet : (next : ℕ) (stream : Stream) (t : Talk) (first last : ℕ) (payload behind : List ℕ) → IsWaiting t → front_of next stream ≡ Whole first last payload behind →
    getting next t stream ≡ getting (id_after last) (hearing t (heard_of payload)) (behind_of stream behind)
unfolding getting
getting-packet next stream (Hears k) first last payload behind waits e = ap (at_front next k stream) e
getting-packet next stream (Says said k) first last payload behind waits e = absurd waits
getting-packet next stream (Over end) first last payload behind waits e = absurd waits

pub getting-part : (next : ℕ) (stream : Stream) (t : Talk) (missing : ℕ) → IsWaiting t → front_of next stream ≡ Part missing → getting next t stream ≡ rests next t stream
unfolding getting
getting-part next stream (Hears k) missing waits e = ap (at_front next k stream) e
getting-part next stream (Says said k) missing waits e = absurd waits
getting-part next stream (Over end) missing waits e = absurd waits

pub getting-fault : (next : ℕ) (stream : Stream) (t : Talk) (fault : FrameFault) → IsWaiting t → front_of next stream ≡ Fault fault →
    getting next t stream ≡ getting next (Over (Framing fault)) stream
unfolding getting
getting-fault next stream (Hears k) fault waits e = ap (at_front next k stream) e
getting-fault next stream (Says said k) fault waits e = absurd waits
getting-fault next stream (Over end) fault waits e = absurd waits
