-- Where a session that is served stands between two turns.
use Rattle.std.specs.Prelude.{◌≡◌, ℕ, ◌+◌, ◌*◌, ◌^◌, ◌≤◌, [], Option}
use Rattle.lg_outside.specs.Traffic.{Traffic}
use Rattle.link_packets.specs.Reading.{between, longest_packet}
use Rattle.packet_frame.specs.Framing.{Framing}
use Rattle.serve_talk.specs.Fitting.{Fits, most_packets, nothing_held}
use Rattle.serve_talk.specs.Paths.{Anything, Point, Turned, from, nothing_loose}
use Rattle.serve_talk.specs.Sides.{Moment, Side}
use Rattle.session_talk.specs.Doable.{AsksWell}
use Rattle.session_talk.specs.Runs.{IsLive, Standing}
use Rattle.session_talk.specs.Turns.{IsBegun, asked}
use Rattle.session_talk.specs.declared.actions.Ask.{Ask}
use Rattle.session_talk.specs.declared.inputs.Input.{Input}
use Rattle.session_engine.specs.Standing.{next_of, talk_of_session}
use Rattle.session_engine.specs.declared.session.Session.{Session}
use Rattle.session_serve.specs.Holding.{Keeps, held_of}
use Rattle.session_serve.specs.declared.holding.Held.{Held}
use Rattle.shared_accounts.specs.declared.desk.Begun.{Begun}

abbrev pub stands_of : Session → Standing
stands_of session = record { next = next_of session; at = talk_of_session session }

-- the session, its reader, what it holds, its link and its own side as a point of its path
abbrev pub point_of : Session → Framing → Held → Option Traffic → Side → Point
point_of session frames h link side = record {
  next = next_of session;
  at = talk_of_session session;
  place = frames.start;
  held = [];
  calls = h.calls;
  link = link;
  side = side;
}

-- a session that asks for this goes on as its talk may: its reader is between two packets, and there is room for all that it may
-- still read
pub record IsReady (session : Session) (frames : Framing) (h : Held) (asks : Ask) : Type 0 where
  pub asks_is : asks ≡ asked (next_of session) (talk_of_session session)
  pub begun : IsBegun (talk_of_session session)
  pub live : IsLive (talk_of_session session)
  pub well : AsksWell (talk_of_session session)
  pub fits : Fits h.packets h.calls (held_of h) (talk_of_session session)
  pub id : ℕ
  pub reader : frames ≡ between id frames.start
  pub room : frames.start + h.packets * longest_packet ≤ 2 ^ 62

-- a turn after which a session goes on
pub record GoesOn (begun : Begun) (p : Point) (session : Session) (frames : Framing) (h : Held) (link : Option Traffic) (side : Side) (asks : Ask) : Type 0 where
  pub given : Input
  pub turned : Turned Anything p given (point_of session frames h link side) nothing_loose
  pub ready : IsReady session frames h asks
  pub keeps : Keeps begun side.seen.entries (held_of h)

-- what a new session holds
abbrev pub IsNewlyHeld : Held → Type 0
IsNewlyHeld h = (held_of h ≡ nothing_held) × (h.packets ≡ most_packets) × (h.calls ≡ 0)

-- the first turn, after which a session goes on
pub record Begins (begun : Begun) (id : ℕ) (x : Moment) (session : Session) (link : Option Traffic) (side : Side) (asks : Ask) : Type 0 where
  pub given : Input
  pub turned : (h : Held) → h.calls ≡ 0 → Turned Anything (from id x) given (point_of session (between 0 0) h link side) nothing_loose
  pub ready : (h : Held) → IsNewlyHeld h → IsReady session (between 0 0) h asks
