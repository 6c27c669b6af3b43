-- A world of sessions, and what is done to it.
use Rattle.std.specs.Prelude.{◌≡◌, ℕ, ◌==◌, Bool, true, false, if◌then◌else◌, List, [], ◌∷◌, ◌++◌, Option, Some, None}
use Rattle.std.specs.BTreeMap.{BTreeMap, get}
use Rattle.std.specs.Ordering.{nat_cmp}
use Rattle.session_engine.specs.Standing.{next_of, talk_of_session}
use Rattle.session_world.specs.declared.held.Held.{Held}
use Rattle.account_history.specs.declared.entries.Opening.{Opening}
use Rattle.account_machine.specs.Openings.{opening_start}
use Rattle.account_rules.specs.declared.accounts.Settings.{Settings}
use Rattle.session_talk.specs.Logins.{session}
use Rattle.interaction.specs.Talk.{Asks, Over}
use Rattle.session_talk.specs.Talk.{Own, SessionTalk}
use Rattle.packet_stream.specs.Streams.{Stream}
use Rattle.session_talk.specs.declared.actions.Ask.{Ask}
use Rattle.session_talk.specs.declared.actions.Ask.TheVariants as ask
use Rattle.session_world.specs.Going.{Gone, going}
use Rattle.stmt_rules.specs.declared.statement.Statement.{Statement}
use Rattle.world_table.specs.Statements.{Administered, administered}
use Rattle.world_table.specs.Table.{Common, with_failure}
use Rattle.world_table.specs.Printing.{Line, Idle}
use Rattle.session_world.specs.declared.calls.Calls.{Calls}
use Rattle.session_world.specs.declared.calls.Calls.TheVariants.{Nothing}
use Rattle.session_world.specs.declared.calls.Peer.{Peer}
use Rattle.session_world.specs.declared.calls.Peer.TheVariants.{Open, Closed, Failed}

-- a session: the id of its next packet, where its talk stands, the bytes that it hasn't read, and its peer
pub record Place : Type 0 where
  pub next : ℕ
  pub at : SessionTalk
  pub unread : Stream
  pub peer : Peer

-- what is common, and the sessions by their numbers
pub record World : Type 0 where
  pub common : Common
  pub places : ℕ → Option Place

-- the world of a start
abbrev pub new_world : List Opening → Settings → World
new_world openings settings = record {
  common = record { log = record { start = opening_start openings settings; entries = [] }; clock = 0; drawn = 0; fails = false };
  places = λ number. None;
}

-- one more session, or one that goes on
abbrev pub with_place : (ℕ → Option Place) → ℕ → Place → ℕ → Option Place
with_place places number place other = if other == number then Some place else places other

-- what came of something that is done: the world, and the lines of a session
pub record Happened : Type 0 where
  pub world : World
  pub session : ℕ
  pub lines : List Line

-- nothing
abbrev pub idle : World → ℕ → Happened
idle w number = record { world = w; session = number; lines = Idle ∷ [] }

-- a session goes on
abbrev pub goes : World → ℕ → Peer → Gone → Happened
goes w number peer g = record {
  world = record {
    common = g.common;
    places = with_place w.places number (record { next = g.next; at = g.at; unread = g.unread; peer = peer });
  };
  session = number;
  lines = g.lines;
}

abbrev pub going_on : World → ℕ → Calls → Place → Happened
going_on w number calls place = goes w number place.peer (going place.peer calls w.common place.next place.at place.unread)

abbrev pub no_bytes : Stream
no_bytes = record { place = 0; bytes = [] }

abbrev pub is_call : Ask → Bool
is_call (ask.Read want) = false
is_call ask.Draw = false
is_call (ask.Observe who) = true
is_call (ask.Renew who) = true
is_call (ask.Check look evidences) = false
is_call (ask.Settle checked flags) = true
is_call (ask.SettleLocked user evidences flags) = true
is_call (ask.Prepare look statement salt actor) = false
is_call (ask.Commit prepared actor) = true
is_call (ask.CommitLocked statement salt actor) = true
is_call (ask.CommitPlain statement actor) = true
is_call (ask.Ended how) = false

-- a session waits for a call of the account store
abbrev pub waits : SessionTalk → Bool
waits (Asks (Own asked_for) k) = is_call asked_for
waits t = false

abbrev pub is_end : Ask → Bool
is_end (ask.Ended how) = true
is_end _ = false

-- bytes and the end still come to a session that hasn't ended, and whose peer is there
abbrev pub is_there : SessionTalk → Peer → Bool
is_there (Over how) peer = false
is_there t Open = true
is_there t Closed = false
is_there t Failed = false

abbrev pub is_open_by : Ask → Peer → Bool
is_open_by (ask.Ended how) peer = false
is_open_by asks Open = true
is_open_by asks Closed = false
is_open_by asks Failed = false

-- the same of a session of some number, if there is one
abbrev pub waits_at : Option Place → Bool
waits_at None = false
waits_at (Some place) = waits place.at

abbrev pub is_there_at : Option Place → Bool
is_there_at None = false
is_there_at (Some place) = is_there place.at place.peer

abbrev pub is_over : SessionTalk → Bool
is_over (Over how) = true
is_over t = false

-- it has ended
abbrev pub is_over_at : Option Place → Bool
is_over_at None = false
is_over_at (Some place) = is_over place.at

-- further bytes have come
abbrev pub more_at : Place → List ℕ → Place
more_at place bytes = record place { unread = record { place = place.unread.place; bytes = place.unread.bytes ++ bytes } }

-- ## What is done

-- the clock is set; the keeper's next call is to fail; a statement of the administrator is executed; a session begins; its
-- peer sends bytes; it is answered so many calls of the account store; its peer ends, or its link fails; or nothing can be
-- done
pub data Doing : Type 0 where
  ToSet : (reading : ℕ) → Doing
  ToFail : Doing
  ToExecute : Statement → Doing
  ToOpen : (session : ℕ) → Doing
  ToSend : (session : ℕ) → (bytes : List ℕ) → Doing
  ToCall : (session : ℕ) → Calls → Doing
  ToLeave : (session : ℕ) → Peer → Doing
  ToIdle : (session : ℕ) → Doing

-- What it comes to: something is set that is common; or a statement is executed; or a session goes on, whose peer stands so
-- and to which further bytes have come; or nothing can be done.
pub data Move : Type 0 where
  Sets : Common → Move
  Executes : Administered → Move
  GoesOn : (session : ℕ) → Peer → (bytes : List ℕ) → Gone → Move
  IsIdle : (session : ℕ) → Move

abbrev pub opening : World → ℕ → Option Place → Move
opening w number (Some place) = IsIdle number
opening w number None = GoesOn number Open [] (going Open Nothing w.common 0 (session number) no_bytes)

abbrev pub calling : World → ℕ → Calls → Option Place → Move
calling w number calls None = IsIdle number
calling w number calls (Some place) =
    if waits place.at
    then GoesOn number place.peer [] (going place.peer calls w.common place.next place.at place.unread)
    else IsIdle number

abbrev pub sending : World → ℕ → List ℕ → Option Place → Move
sending w number bytes None = IsIdle number
sending w number bytes (Some place) =
    if is_there place.at place.peer
    then GoesOn number place.peer bytes (going place.peer Nothing w.common place.next place.at (more_at place bytes).unread)
    else IsIdle number

abbrev pub leaving : World → ℕ → Peer → Option Place → Move
leaving w number peer None = IsIdle number
leaving w number peer (Some place) =
    if is_there place.at place.peer
    then GoesOn number peer [] (going peer Nothing w.common place.next place.at place.unread)
    else IsIdle number

abbrev pub move : World → Doing → Move
move w (ToSet reading) = Sets (record w.common { clock = reading })
move w ToFail = Sets (with_failure w.common)
move w (ToExecute statement) = Executes (administered w.common statement)
move w (ToOpen number) = opening w number (w.places number)
move w (ToSend number bytes) = sending w number bytes (w.places number)
move w (ToCall number calls) = calling w number calls (w.places number)
move w (ToLeave number peer) = leaving w number peer (w.places number)
move w (ToIdle number) = IsIdle number

-- the world after it, and its lines: what is done for no session stands under the number 0
abbrev pub moved : World → Move → Happened
moved w (Sets common) = record { world = record w { common = common }; session = 0; lines = [] }
moved w (Executes did) = record { world = record w { common = did.common }; session = 0; lines = did.lines }
moved w (GoesOn number peer bytes g) = goes w number peer g
moved w (IsIdle number) = idle w number

abbrev pub does : World → Doing → Happened
does w doing = moved w (move w doing)

-- all that is done, one after another
abbrev pub after_all : World → List Doing → World
after_all w [] = w
after_all w (first ∷ doings) = after_all (does w first).world doings

-- ## What the code keeps

-- a session that is kept: it stands at a place, and asks what its talk asks there
pub record IsAt (number : ℕ) (place : Place) (held : Held) : Type 0 where
  pub number_is : held.seat.number ≡ number
  pub peer_is : held.seat.peer ≡ place.peer
  pub next_is : next_of held.seat.session ≡ place.next
  pub talk_is : talk_of_session held.seat.session ≡ place.at
  pub unread_is : held.seat.inbox ≡ place.unread

abbrev pub Shows : (number : ℕ) → Option Held → Option Place → Type 0
Shows number None None = Unit {0}
Shows number (Some held) (Some place) = IsAt number place held
Shows number (Some held) None = ⊥
Shows number None (Some place) = ⊥

-- the sessions that are kept, by their numbers, stand at their places
abbrev pub AreAt : BTreeMap ℕ Held → (ℕ → Option Place) → Type 0
AreAt sessions places = (number : ℕ) → Shows number (get nat_cmp sessions number) (places number)

-- where a session stands after going on
abbrev pub place_of : Peer → Gone → Place
place_of peer g = record { next = g.next; at = g.at; unread = g.unread; peer = peer }
