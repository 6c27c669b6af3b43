-- A client over bytes: it reads the packets among those that have come to it, and writes what its talk says.
use Rattle.std.specs.Prelude.{ℕ, List, [], ◌++◌}
use Rattle.packet_frame.specs.Packets.{id_after}
use Rattle.packet_stream.specs.Sent.{id_behind}
use Rattle.packet_stream.specs.Streams.{Stream, behind_of, by_front, front_of}
use Rattle.login_client.specs.Heard.{heard_of}
use Rattle.login_client.specs.Talk.{Talk, Hears, Says, Over}
use Rattle.login_client.specs.declared.ends.LoginEnd.TheVariants.{Framing}
use Rattle.packet_stream.specs.Packing.{packet_text}

-- what came of bytes: the bytes that the client writes, the id that it wants of the next packet, where its talk stands,
-- and the bytes that it hasn't read
pub record Got : Type 0 where
  pub sent : List ℕ
  pub next : ℕ
  pub at : Talk
  pub unread : Stream

abbrev pub after_written : List ℕ → Got → Got
after_written text g = record g { sent = text ++ g.sent }

abbrev pub rests : (next : ℕ) → Talk → Stream → Got
rests next t stream = record { sent = []; next = next; at = t; unread = stream }

-- A fault of framing ends the login. What stands behind its end isn't read.
unfoldable pub getting : (next : ℕ) → Talk → Stream → Got
getting next (Hears k) stream =
    by_front (λ last payload behind. getting (id_after last) (k (heard_of payload)) (behind_of stream behind))
    (rests next (Hears k) stream) (λ fault. rests next (Over (Framing fault)) stream) (front_of next stream)
getting next (Says said k) stream =
    after_written (packet_text next said)
    (by_front (λ last payload behind. getting (id_after last) (k (heard_of payload)) (behind_of stream behind))
    (rests (id_behind next said) (Hears k) stream) (λ fault. rests (id_behind next said) (Over (Framing fault)) stream)
    (front_of (id_behind next said) stream))
getting next (Over end) stream = rests next (Over end) stream
