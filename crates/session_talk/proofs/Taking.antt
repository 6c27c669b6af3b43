-- What is owed for an answer, by whether it is of a kind that the question takes.
use Rattle.std.proofs.Common.{◌≡◌, refl, ap, IsTrue, ℕ, Bool, true, false, if◌then◌else◌, List, ◌∷◌}
use Rattle.packet_frame.specs.declared.packets.Packet.{Packet}
use Rattle.interaction.specs.Talk.{Asks}
use Rattle.session_talk.specs.Owed.{Owed, owed, waits}
use Rattle.session_talk.specs.Talk.{Question, SessionTalk}
use Rattle.session_talk.specs.Turns.{takes}
use Rattle.session_talk.specs.declared.inputs.Input.{Input}

pub owed_by_kind : (next : ℕ) (q : Question) (k : Input → SessionTalk) (packets : List Packet) (given : Input) (owns : List Input) (P : Owed → Type 0) →
    (IsTrue (takes q given) → P (owed next (k given) packets owns)) → P (waits next (Asks q k) packets (given ∷ owns)) →
    P (owed next (Asks q k) packets (given ∷ owns))
unfolding owed
owed_by_kind next q k packets given owns P taken waiting = by_kind (takes q given) refl
  where
    by_kind : (b : Bool) → takes q given ≡ b → P (if b then owed next (k given) packets owns else waits next (Asks q k) packets (given ∷ owns))
    by_kind true is = taken is
    by_kind false is = waiting

-- a right answer is taken
pub taken_owed : (next : ℕ) (q : Question) (k : Input → SessionTalk) (given : Input) (packets : List Packet) (owns : List Input) → takes q given ≡ true →
    owed next (Asks q k) packets (given ∷ owns) ≡ owed next (k given) packets owns
unfolding owed
taken_owed next q k given packets owns is =
    ap (λ (b : Bool). if b then owed next (k given) packets owns else waits next (Asks q k) packets (given ∷ owns)) is
