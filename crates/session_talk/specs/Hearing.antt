-- What is read, as it is given to a session.
use Rattle.std.specs.Prelude.{◌≡◌, ℕ, Bool, List, Option, Some, None, IfSome}
use Rattle.interaction.specs.Talk.{Reading, Got, Faulty, PeerClosed, LinkFailed}
use Rattle.session_talk.specs.Logins.{heard_by, hears}
use Rattle.session_talk.specs.Talk.{SessionTalk}
use Rattle.session_talk.specs.Turns.{heard}
use Rattle.session_talk.specs.declared.inputs.Input.{Input}
use Rattle.session_talk.specs.declared.inputs.Input.TheVariants as input

abbrev pub reading_of : Input → Option Reading
reading_of (input.Packet packet) = Some (Got packet.payload)
reading_of (input.Frame fault) = Some (Faulty fault)
reading_of (input.End cut) = Some (PeerClosed cut)
reading_of input.LinkFailed = Some LinkFailed
reading_of _ = None

-- A session that waits for a payload goes on with what is read as its text says: with a payload, and where reading ended.
abbrev pub ReadingIsHeard : Type 0
ReadingIsHeard =
    (anew : Bool) (k : List ℕ → SessionTalk) (given : Input) →
    IfSome (reading_of given) (λ read. heard (hears anew k) given ≡ heard_by k read)
