-- Serving a session turn by turn: where it stands between two turns, what a turn does, and what the turns come to.
use Rattle.std.specs.Prelude.{◌≡◌, ℕ, ◌+◌, ◌*◌, ◌≤◌, Bool, true, IsTrue, List, [], ◌∷◌, ◌++◌, length, Option}
use Rattle.lg_outside.specs.Faults.{Rose}
use Rattle.lg_outside.specs.Traffic.{Traffic}
use Rattle.account_history.specs.declared.entries.Entry.{Entry}
use Rattle.link_packets.specs.Moving.{IsAtEnd, Moved}
use Rattle.packet_stream.specs.Packing.{packets_text}
use Rattle.packet_stream.specs.Streams.{Stream}
use Rattle.session_talk.specs.Given.{AddsAt, Given, IsDone, Reads}
use Rattle.session_talk.specs.Logins.{session}
use Rattle.session_talk.specs.Runs.{EachAnswers, IsLive, Standing, packets_in, sent_on, spoken, stands_after, stands_on}
use Rattle.session_talk.specs.Talk.{SessionTalk}
use Rattle.session_talk.specs.Transcript.{Closed, Open, Peer}
use Rattle.session_talk.specs.Turns.{IsAsked, asked, is_answer, wanted_by}
use Rattle.session_talk.specs.declared.actions.Ask.TheVariants as ask
use Rattle.session_talk.specs.declared.ends.SessionEnd.{SessionEnd}
use Rattle.session_talk.specs.declared.ends.SessionEnd.TheVariants as end
use Rattle.session_talk.specs.declared.inputs.Input.{Input}
use Rattle.session_talk.specs.declared.inputs.Input.TheVariants as input
use Rattle.serve_talk.specs.Fitting.{is_call}
use Rattle.serve_talk.specs.Serving.{IsCause, Serves}
use Rattle.serve_talk.specs.Sides.{Grew, Moment, Side, nonces_in}
use Rattle.serve_talk.specs.declared.endings.Ending.{Ending}
use Rattle.serve_talk.specs.declared.endings.Ending.TheVariants.{Told, BookEnd}

-- ## Between two turns

-- A session at its question: the id of its next packet, its talk, the place in the stream behind the packets that were read,
-- the bytes from there on that were read and are no packet, and how many calls of the accounts may come before the next packet;
-- with its link and its own side.
pub record Point : Type 0 where
  pub next : ℕ
  pub at : SessionTalk
  pub place : ℕ
  pub held : List ℕ
  pub calls : ℕ
  pub link : Option Traffic
  pub side : Side

abbrev pub standing : Point → Standing
standing p = record { next = p.next; at = p.at }

abbrev pub moment : Point → Moment
moment p = record { link = p.link; side = p.side }

-- a session of this number begins
abbrev pub from : (id : ℕ) → Moment → Point
from id x = record { next = 0; at = session id; place = 0; held = []; calls = 0; link = x.link; side = x.side }

-- what stands in the stream where these bytes stand behind those that were read
abbrev pub ahead : Point → List ℕ → Stream
ahead p bytes = record { place = p.place; bytes = p.held ++ bytes }

-- what the last turn leaves: bytes that were read and weren't taken, and text that was due and wasn't written
pub record Loose : Type 0 where
  pub over : List ℕ
  pub unwritten : List ℕ

abbrev pub nothing_loose : Loose
nothing_loose = record { over = []; unwritten = [] }

-- ## Turns

-- what stands behind the bytes that were read: anything, or the end of the connection
pub data Behind : Type 0 where
  Anything : Behind
  TheEnd : Behind

abbrev pub Is : Behind → Peer → List ℕ → Type 0
Is Anything peer rest = Unit {0}
Is TheEnd peer rest = (peer ≡ Closed) × (rest ≡ [])

-- from the link these bytes were read, and of a text that was due all was written but what is loose
pub record Wrote (p q : Point) (got due : List ℕ) (loose : Loose) : Type 0 where
  pub text : List ℕ
  pub moved : Moved p.link q.link (got ++ loose.over) text
  pub due_is : due ≡ text ++ loose.unwritten

-- a session was given an input, by bytes that were read or by its own side, and said what its talk says
pub record Turned (behind : Behind) (p : Point) (given : Input) (q : Point) (loose : Loose) : Type 0 where
  pub live : IsLive p.at
  pub answers : IsTrue (is_answer p.at given)
  pub fits : IsAsked p.at given
  pub stands : standing q ≡ stands_on (standing p) given
  pub got : List ℕ
  pub reads : (peer : Peer) (rest : List ℕ) → Is behind peer rest → Reads peer (wanted_by p.next p.at) (ahead p (got ++ rest)) given (ahead q rest)
  pub added : List Entry
  pub adds : AddsAt p.at given added
  pub wrote : Wrote p q got (packets_text (sent_on (standing p) given)) loose
  pub grew : Grew p.side q.side added (nonces_in (given ∷ []))
  pub spent : q.side.drawn + q.calls ≤ p.side.drawn + p.calls + 5 * length (packets_in (given ∷ []))

-- nothing was given to the session
pub record Rested (p q : Point) (loose : Loose) : Type 0 where
  pub same : standing q ≡ standing p
  pub got : List ℕ
  pub held_is : (rest : List ℕ) → ahead q rest ≡ ahead p (got ++ rest)
  pub moved : Moved p.link q.link (got ++ loose.over) []
  pub none_due : loose.unwritten ≡ []
  pub grew : Grew p.side q.side [] []
  pub spent : q.side.drawn + q.calls ≤ p.side.drawn + p.calls

-- ## Paths

-- one turn after another
pub record Path (behind : Behind) (p z : Point) (loose : Loose) : Type 0 where
  pub inputs : List Input
  pub answers : EachAnswers (standing p) inputs
  pub stands : standing z ≡ stands_after (standing p) inputs
  pub got : List ℕ
  pub entries : List Entry
  pub given : (peer : Peer) (rest : List ℕ) → Is behind peer rest → Given peer (standing p) (ahead p (got ++ rest)) entries inputs (ahead z rest)
  pub wrote : Wrote p z got (packets_text (spoken (standing p) inputs)) loose
  pub grew : Grew p.side z.side entries (nonces_in inputs)
  pub spent : z.side.drawn + z.calls ≤ p.side.drawn + p.calls + 5 * length (packets_in inputs)

-- whatever a session comes to from the one point, it comes to from the other
abbrev pub Leads : (p q : Point) → Type 0
Leads p q = (behind : Behind) (z : Point) (loose : Loose) → Path behind q z loose → Path behind p z loose

-- nothing more comes of the bytes that were read while the peer is open
abbrev pub IsIdle : Point → Type 0
IsIdle p = IsDone Open (asked p.next p.at) (ahead p [])

-- ## Ends

-- how a session ends in a turn
pub data Halts (p : Point) (y : Moment) (Rises : Type 0) : Ending → Type 0 where
  -- it was given an input, and its talk was over
  over : (given : Input) (z : Point) (how : SessionEnd) → Turned Anything p given z nothing_loose → moment z ≡ y
      → asked z.next z.at ≡ ask.Ended how → Halts p y Rises (Told how)
  -- it was given an input, and of what it said a part was written
  unsaid : (given : Input) (z : Point) (loose : Loose) (how : SessionEnd) → Turned Anything p given z loose → moment z ≡ y
      → IsCause Rises how → IsIdle z → Halts p y Rises (Told how)
  -- it was given the end of the connection
  closed : (cut : Bool) (z : Point) → Turned TheEnd p (input.End cut) z nothing_loose → moment z ≡ y → IsAtEnd y.link
      → Halts p y Rises (Told (end.PeerClosed cut))
  -- it was given nothing
  stopped : (z : Point) (loose : Loose) (how : SessionEnd) → Rested p z loose → moment z ≡ y → IsCause Rises how → IsIdle z
      → Halts p y Rises (Told how)
  -- it came to a call for which no turn was left
  book_end : (z : Point) → Rested p z nothing_loose → moment z ≡ y → y.side.ended ≡ true → is_call (asked p.next p.at) ≡ true
      → Halts p y Rises BookEnd

-- ## The law

-- Turns one after another serve a session.
pub record PathsAreServed : Type 0 where
  pub begins : (p : Point) → Leads p p
  pub goes_on : (p q r : Point) (given : Input) → Leads p q → Turned Anything q given r nothing_loose → Leads p r
  pub halts : (id : ℕ) (x y : Moment) (p : Point) (before after : ℕ) (how : Ending) → Leads (from id x) p → Halts p y (Rose before after) how
      → Serves id x y (Rose before after) how
