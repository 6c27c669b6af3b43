-- What a session is given: by the bytes of its peer and by what comes behind them, packets and the end of reading, and
-- by the entries of the history, what its own side is answered.
use Rattle.std.specs.Prelude.{◌≡◌, ℕ, ◌==◌, not, List, [], ◌∷◌, ◌++◌, length, Option, Some, None}
use Rattle.packet_frame.specs.Front.{Whole, Fault}
use Rattle.packet_stream.specs.Streams.{IsShort, Stream, all_of, behind_of, front_of}
use Rattle.account_history.specs.declared.entries.Entry.{Entry}
use Rattle.interaction.specs.Talk.{Asks}
use Rattle.session_talk.specs.declared.actions.Ask.{Ask}
use Rattle.session_talk.specs.declared.actions.Ask.TheVariants as ask
use Rattle.session_talk.specs.declared.ends.SessionEnd.{SessionEnd}
use Rattle.session_talk.specs.declared.inputs.Input.{Input}
use Rattle.session_talk.specs.declared.inputs.Input.TheVariants as input
use Rattle.session_talk.specs.Logins.{session}
use Rattle.session_talk.specs.Runs.{Standing, owns_in, packets_in, spoken, stands_after, stands_on}
use Rattle.session_talk.specs.Talk.{SessionTalk}
use Rattle.session_talk.specs.Transcript.{Closed, Failed, Open, Peer, Transcript, read_of}
use Rattle.session_talk.specs.Turns.{Adds, asked, wanted_by}

-- ## Reading

-- What reading gives, where a packet with this id is wanted: the packet at the front of the bytes, or the fault that
-- stands there. Where less than a packet stands there, it may give the peer's end, which cuts a packet exactly where
-- bytes are left, or the failure of the link. The bytes of a packet are read, and others are left.
abbrev pub Reads : Peer → (want : ℕ) → Stream → Input → (left : Stream) → Type 0
Reads peer want stream (input.Packet packet) left =
    (behind : List ℕ) × (front_of want stream ≡ Whole packet.first packet.last packet.payload behind)
    × (packet.at ≡ stream.place) × (left ≡ behind_of stream behind)
Reads peer want stream (input.Frame fault) left = (front_of want stream ≡ Fault fault) × (left ≡ stream)
Reads peer want stream (input.End cut) left =
    IsShort want stream × (peer ≡ Closed) × (cut ≡ not (length stream.bytes == 0)) × (left ≡ stream)
Reads peer want stream input.LinkFailed left = IsShort want stream × (peer ≡ Failed) × (left ≡ stream)
Reads peer want stream given left = left ≡ stream

-- ## Answers of the own side

-- the entries of an input: those of an answer, and none of what is read
abbrev pub AddsAt : SessionTalk → Input → List Entry → Type 0
AddsAt (Asks q k) given added = Adds q given added
AddsAt t given added = added ≡ []

-- ## The whole

-- Inputs are what these bytes, the peer behind them and these entries give to a session, turn by turn. No entry is left
-- over, and these bytes are left.
abbrev pub Given : Peer → Standing → Stream → List Entry → List Input → (left : Stream) → Type 0
Given peer s stream entries [] left = (entries ≡ []) × (left ≡ stream)
Given peer s stream entries (given ∷ inputs) left =
    (behind : Stream) × (added : List Entry) × (more : List Entry)
    × Reads peer (wanted_by s.next s.at) stream given behind × AddsAt s.at given added × (entries ≡ added ++ more)
    × Given peer (stands_on s given) behind more inputs left

-- nothing more comes of these bytes and this peer: what is asked for isn't a packet, or less than one is left and the
-- peer is still open
abbrev pub IsDone : Peer → Ask → (left : Stream) → Type 0
IsDone peer (ask.Read want) left = (peer ≡ Open) × IsShort want left
IsDone peer _ left = Unit {0}

-- the end of a session that has ended
abbrev pub end_in : Ask → Option SessionEnd
end_in (ask.Ended how) = Some how
end_in _ = None

-- a session of this number begins
abbrev pub begins : (id : ℕ) → Standing
begins id = record { next = 0; at = session id }

-- what a session of this number asks for after these inputs
abbrev pub asked_after : (id : ℕ) → List Input → Ask
asked_after id inputs = asked (stands_after (begins id) inputs).next (stands_after (begins id) inputs).at

-- What a new session sends and how it ends, over these inputs, stands in a transcript of these bytes, this peer and these
-- entries. The transcript's own answers and packets are those among the inputs.
pub record Transcribes (id : ℕ) (peer : Peer) (bytes : List ℕ) (entries : List Entry) (inputs : List Input) : Type 0 where
  pub transcript : Transcript id peer bytes entries (spoken (begins id) inputs) (end_in (asked_after id inputs))
  pub answers : transcript.owns ≡ owns_in inputs
  pub packets : (read_of 0 (session id) (all_of bytes) transcript.owns).packets ≡ packets_in inputs
