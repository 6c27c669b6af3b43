-- How many turns a session takes until it reads a packet or rests.
use Rattle.std.specs.Prelude.{ℕ, zero, suc, ◌-◌, ◌<◌, ◌≤◌, length}
use Rattle.session_talk.specs.Bounds.{Within}
use Rattle.interaction.specs.Talk.{Over}
use Rattle.session_talk.specs.Talk.{SessionTalk}
use Rattle.packet_stream.specs.Streams.{Stream}
use Rattle.session_talk.specs.declared.inputs.Input.{Input}
use Rattle.session_talk.specs.declared.inputs.Input.TheVariants as input

abbrev pub IsOver : SessionTalk → Type 0
IsOver (Over how) = Unit {0}
IsOver _ = ⊥

-- At most so many turns come before a packet is read: one for each question until then, and one for the end that may be
-- told in its place. A session that has ended takes none.
abbrev pub Lasts : (turns : ℕ) → SessionTalk → Type 0
Lasts zero t = IsOver t
Lasts (suc turns) t = Within turns t

-- a turn is taken, of those that were left
abbrev pub Steps : SessionTalk → SessionTalk → Type 0
Steps t after = (turns : ℕ) → Lasts turns t → (0 < turns) × Lasts (turns - 1) after

-- and so on each input but a packet
abbrev pub StepsOn : Input → SessionTalk → SessionTalk → Type 0
StepsOn (input.Packet packet) t after = Unit {0}
StepsOn _ t after = Steps t after

-- bytes are read, or a turn is taken
abbrev pub ReadsOrSteps : Stream → SessionTalk → Stream → SessionTalk → Type 0
ReadsOrSteps stream t unread after = length stream.bytes ≤ length unread.bytes → Steps t after
