-- What a session owes, for the packets that its peer has sent and what its own side has answered: the payloads that it
-- sends, and what it then waits for. It is cut off where the packets or the answers stop.
use Rattle.std.specs.Prelude.{ℕ, if◌then◌else◌, List, [], ◌∷◌, ◌++◌}
use Rattle.packet_frame.specs.Packets.{id_after}
use Rattle.packet_frame.specs.declared.packets.Packet.{Packet}
use Rattle.packet_stream.specs.Sent.{Sent, id_behind}
use Rattle.interaction.specs.Talk.{Got, Says, Hears, Asks}
use Rattle.session_talk.specs.Talk.{SessionTalk}
use Rattle.session_talk.specs.Turns.{takes}
use Rattle.session_talk.specs.declared.inputs.Input.{Input}

-- the payloads that are sent, the id of the next packet, where the talk stands, and the packets and answers that weren't
-- come to
pub record Owed : Type 0 where
  pub sent : List Sent
  pub next : ℕ
  pub at : SessionTalk
  pub unread : List Packet
  pub unused : List Input

-- the same, where a payload is sent first
abbrev pub after_sent : Sent → Owed → Owed
after_sent first o = record o { sent = first ∷ o.sent }

abbrev pub after_all_sent : List Sent → Owed → Owed
after_all_sent before o = record o { sent = before ++ o.sent }

-- nothing is sent, and the talk waits
abbrev pub waits : ℕ → SessionTalk → List Packet → List Input → Owed
waits next t packets owns = record { sent = []; next = next; at = t; unread = packets; unused = owns }

unfoldable pub owed : (next : ℕ) → SessionTalk → List Packet → (owns : List Input) → Owed
owed next (Says payload t) packets owns =
    after_sent (record { first = next; payload = payload }) (owed (id_behind next payload) t packets owns)
owed next (Hears anew k) (packet ∷ packets) owns = owed (id_after packet.last) (k (Got packet.payload)) packets owns
owed next (Asks q k) packets (given ∷ owns) =
    if takes q given then owed next (k given) packets owns else waits next (Asks q k) packets (given ∷ owns)
owed next t packets owns = waits next t packets owns
