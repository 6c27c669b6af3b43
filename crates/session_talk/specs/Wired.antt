-- The same over bytes: what a session owes for the bytes that its peer has sent, in packets, and what its own side has
-- answered. A fault of framing where a packet is waited for is told and ends the session.
use Rattle.std.specs.Prelude.{ℕ, if◌then◌else◌, List, [], ◌∷◌, ◌++◌}
use Rattle.packet_frame.specs.Packets.{id_after}
use Rattle.packet_stream.specs.Sent.{Sent, id_behind}
use Rattle.packet_stream.specs.Streams.{Stream, behind_of, by_front, front_of}
use Rattle.interaction.specs.Talk.{Got, Says, Hears, Asks}
use Rattle.session_talk.specs.Logins.{faulted}
use Rattle.session_talk.specs.Talk.{SessionTalk}
use Rattle.session_talk.specs.Turns.{takes, wanted}
use Rattle.session_talk.specs.declared.inputs.Input.{Input}

-- the payloads that are sent, the id of the next packet, where the talk stands, and the bytes and answers that weren't
-- come to
pub record Wired : Type 0 where
  pub sent : List Sent
  pub next : ℕ
  pub at : SessionTalk
  pub unread : Stream
  pub unused : List Input

abbrev pub after_sent : Sent → Wired → Wired
after_sent first w = record w { sent = first ∷ w.sent }

abbrev pub after_all_sent : List Sent → Wired → Wired
after_all_sent before w = record w { sent = before ++ w.sent }

abbrev pub stops : ℕ → SessionTalk → Stream → List Input → Wired
stops next t stream owns = record { sent = []; next = next; at = t; unread = stream; unused = owns }

-- the payloads of a talk that says and then is over
unfoldable pub said_from : (next : ℕ) → SessionTalk → Stream → List Input → Wired
said_from next (Says payload t) stream owns = after_sent (record { first = next; payload = payload }) (said_from (id_behind next payload) t stream owns)
said_from next t stream owns = stops next t stream owns

unfoldable pub wired : (next : ℕ) → SessionTalk → Stream → List Input → Wired
wired next (Says payload t) stream owns =
    after_sent (record { first = next; payload = payload }) (wired (id_behind next payload) t stream owns)
wired next (Hears anew k) stream owns =
    by_front (λ last payload behind. wired (id_after last) (k (Got payload)) (behind_of stream behind) owns)
    (stops next (Hears anew k) stream owns)
    (λ fault. said_from (id_after (wanted anew next)) (faulted fault) stream owns)
    (front_of (wanted anew next) stream)
wired next (Asks q k) stream (given ∷ owns) =
    if takes q given then wired next (k given) stream owns else stops next (Asks q k) stream (given ∷ owns)
wired next t stream owns = stops next t stream owns
