-- What a session says over a list of inputs, turn by turn.
use Rattle.std.specs.Prelude.{ℕ, List, [], ◌∷◌, ◌++◌, IsTrue, Option, Some, None}
use Rattle.packet_frame.specs.declared.packets.Packet.{Packet}
use Rattle.packet_stream.specs.Sent.{Sent, id_behind_all, sent_from}
use Rattle.interaction.specs.Talk.{Over}
use Rattle.session_talk.specs.declared.ends.SessionEnd.TheVariants as end
use Rattle.session_talk.specs.declared.inputs.Input.{Input}
use Rattle.session_talk.specs.declared.inputs.Input.TheVariants as input
use Rattle.session_talk.specs.Logins.{faulted}
use Rattle.session_talk.specs.Talk.{SessionTalk}
use Rattle.session_talk.specs.Turns.{IsAsked, first_id, heard, is_answer, rest, said}

-- a talk at its question, and the id of the next packet
pub record Standing : Type 0 where
  pub next : ℕ
  pub at : SessionTalk

-- the payloads of one turn
abbrev pub sent_on : Standing → Input → List Sent
sent_on s given = sent_from (first_id s.next s.at given) (said (heard s.at given))

-- where the session stands after it
abbrev pub stands_on : Standing → Input → Standing
stands_on s given = record {
  next = id_behind_all (first_id s.next s.at given) (said (heard s.at given));
  at = rest (heard s.at given);
}

-- the payloads of all turns
abbrev pub spoken : Standing → List Input → List Sent
spoken s [] = []
spoken s (given ∷ inputs) = sent_on s given ++ spoken (stands_on s given) inputs

abbrev pub stands_after : Standing → List Input → Standing
stands_after s [] = s
stands_after s (given ∷ inputs) = stands_after (stands_on s given) inputs

-- an input after which a session may go on: none by which reading ended
abbrev pub IsOpen : Input → Type 0
IsOpen (input.Frame fault) = ⊥
IsOpen (input.End cut) = ⊥
IsOpen input.LinkFailed = ⊥
IsOpen _ = Unit {0}

-- the session hasn't ended
abbrev pub IsLive : SessionTalk → Type 0
IsLive (Over how) = ⊥
IsLive t = Unit {0}

-- each input answers what was asked last
abbrev pub AllAnswer : Standing → List Input → Type 0
AllAnswer s [] = Unit {0}
AllAnswer s (given ∷ inputs) =
    IsOpen given × IsLive s.at × IsTrue (is_answer s.at given) × IsAsked s.at given × AllAnswer (stands_on s given) inputs

-- the same, where reading may end: an input by which it ends is the last one, since the session has ended with it
abbrev pub EachAnswers : Standing → List Input → Type 0
EachAnswers s [] = Unit {0}
EachAnswers s (given ∷ inputs) =
    IsLive s.at × IsTrue (is_answer s.at given) × IsAsked s.at given × EachAnswers (stands_on s given) inputs

-- how a session goes on where reading ended: a fault of framing is told, and nothing is said at the peer's end or where
-- the link failed
abbrev pub ending_by : Input → Option SessionTalk
ending_by (input.Frame fault) = Some (faulted fault)
ending_by (input.End cut) = Some (Over (end.PeerClosed cut))
ending_by input.LinkFailed = Some (Over end.LinkFault)
ending_by _ = None

-- the packets among the inputs
abbrev pub packets_in : List Input → List Packet
packets_in [] = []
packets_in (input.Packet packet ∷ inputs) = packet ∷ packets_in inputs
packets_in (_ ∷ inputs) = packets_in inputs

-- and the answers of the server's side: those that don't come of reading
abbrev pub owns_in : List Input → List Input
owns_in [] = []
owns_in (input.Packet packet ∷ inputs) = owns_in inputs
owns_in (input.Frame fault ∷ inputs) = owns_in inputs
owns_in (input.End cut ∷ inputs) = owns_in inputs
owns_in (input.LinkFailed ∷ inputs) = owns_in inputs
owns_in (own ∷ inputs) = own ∷ owns_in inputs
