-- A replay: a world of sessions, and the login clients that some of them have as their peers. What either end sends is
-- under way until an event brings it to the other.
use Rattle.std.specs.Prelude.{ℕ, zero, suc, ◌==◌, Bool, true, false, if◌then◌else◌, List, [], ◌∷◌, ◌++◌, take, drop, Option, Some, None, is_some, option_map, Result, Ok, Err, codes, decimal}
use Rattle.account_history.specs.declared.entries.Opening.{Opening}
use Rattle.account_rules.specs.declared.accounts.Settings.{Settings}
use Rattle.client_wire.specs.UnderWay.{Client, claim_of, client_after, new_client, result_by, sent_to, with_client}
use Rattle.packet_stream.specs.Queue.{has_bytes}
use Rattle.packet_stream.specs.Packing.{packet_text, packets_text}
use Rattle.login_client.specs.declared.claims.Claim.{Claim}
use Rattle.login_client.specs.declared.ends.LoginEnd.{LoginEnd}
use Rattle.login_client.specs.declared.ends.LoginEnd.TheVariants as end
use Rattle.script_text.specs.declared.event.Event.{Event}
use Rattle.script_text.specs.declared.event.Event.TheVariants as event
use Rattle.session_talk.specs.Statements.{statement_in}
use Rattle.session_world.specs.Lines.{sends_in}
use Rattle.stmt_rules.specs.declared.statement.Statement.{Statement}
use Rattle.session_world.specs.Worlds.{Doing, Happened, Place, ToCall, ToExecute, ToFail, ToIdle, ToLeave, ToOpen, ToSend, ToSet, World, does, is_over_at, is_there_at, new_world, waits_at}
use Rattle.session_world.specs.declared.calls.Calls.TheVariants.{One, All}
use Rattle.session_world.specs.declared.running.Task.{Task}
use Rattle.session_world.specs.declared.running.Task.TheVariants.{Answers, GoesDown, GoesUp, CutsOff, Rests}
use Rattle.session_world.specs.declared.calls.Peer.TheVariants as peer
use Rattle.world_table.specs.Printing.{Line, Idle, line_text}
use Rattle.client_wire.specs.Words.{end_words}

pub record Replay : Type 0 where
  pub world : World
  pub clients : ℕ → Option Client

-- before any event
abbrev pub new_replay : List Opening → Settings → Replay
new_replay openings settings = record { world = new_world openings settings; clients = λ number. None }

-- ## What comes of an event

-- a line of a session, or the result of its client; or that a text of the administrator is no statement
pub data Printed : Type 0 where
  Of : (session : ℕ) → Line → Printed
  Tells : (session : ℕ) → LoginEnd → Printed
  NoStatement : Printed

-- the replay after it, what is printed, and what was done to the world of sessions
pub record Came : Type 0 where
  pub replay : Replay
  pub printed : List Printed
  pub doings : List Doing

-- the line of a client's result
unfoldable pub result_line : (session : ℕ) → LoginEnd → List ℕ
result_line session how = codes "login " ++ decimal session ++ 32 ∷ end_words how ++ 10 ∷ []

-- the line of a text that is no statement
unfoldable pub no_statement_line : List ℕ
no_statement_line = codes "admin 1064" ++ 10 ∷ []

abbrev pub printed_line : Printed → List ℕ
printed_line (Of session line) = line_text session line
printed_line (Tells session how) = result_line session how
printed_line NoStatement = no_statement_line

abbrev pub printed_text : List Printed → List ℕ
printed_text [] = []
printed_text (first ∷ more) = printed_line first ++ printed_text more

-- one thing after another
abbrev pub followed_by : Came → Came → Came
followed_by first second = record {
  replay = second.replay;
  printed = first.printed ++ second.printed;
  doings = first.doings ++ second.doings;
}

abbrev pub nothing : Replay → Came
nothing r = record { replay = r; printed = []; doings = [] }

-- nothing can be done
abbrev pub idles : Replay → ℕ → Came
idles r number = record { replay = r; printed = Of number Idle ∷ []; doings = ToIdle number ∷ [] }

-- a client has changed
abbrev pub alters : Replay → ℕ → Client → List Printed → Came
alters r number client printed = record { replay = record r { clients = with_client r.clients number client }; printed = printed; doings = [] }

-- ## Sessions

abbrev pub of_session : ℕ → List Line → List Printed
of_session number [] = []
of_session number (line ∷ lines) = Of number line ∷ of_session number lines

-- the bytes that a session sends are under way to its client
abbrev pub with_sent : (ℕ → Option Client) → ℕ → List ℕ → ℕ → Option Client
with_sent clients number bytes other = if other == number then option_map (sent_to bytes) (clients other) else clients other

-- the bytes of all that a session sends
abbrev pub bytes_of : Happened → List ℕ
bytes_of h = packets_text (sends_in h.lines)

-- the session to which it is done
abbrev pub session_of : Doing → ℕ
session_of (ToSet reading) = 0
session_of ToFail = 0
session_of (ToExecute statement) = 0
session_of (ToOpen number) = number
session_of (ToSend number bytes) = number
session_of (ToCall number calls) = number
session_of (ToLeave number peer) = number
session_of (ToIdle number) = number

abbrev pub came_of : Replay → Doing → Happened → Came
came_of r what h = record {
  replay = record { world = h.world; clients = with_sent r.clients (session_of what) (bytes_of h) };
  printed = of_session h.session h.lines;
  doings = what ∷ [];
}

-- something is done to the world of sessions
abbrev pub doing : Replay → Doing → Came
doing r what = came_of r what (does r.world what)

-- ## The administrator

-- a statement is executed, or the text is none
abbrev pub administers : Replay → Result Statement ℕ → Came
administers r (Ok statement) = doing r (ToExecute statement)
administers r (Err place) = record { replay = r; printed = NoStatement ∷ []; doings = [] }

-- ## Clients

-- a session begins whose peer is a client
abbrev pub begun_with : Replay → ℕ → Claim → Happened → Came
begun_with r number claim h = record {
  replay = record { world = h.world; clients = with_client r.clients number (new_client claim (bytes_of h)) };
  printed = of_session h.session h.lines;
  doings = ToOpen number ∷ [];
}

abbrev pub begins : Replay → ℕ → Claim → Came
begins r number claim =
    if is_some (r.world.places number) then idles r number
    else begun_with r number claim (does r.world (ToOpen number))

-- the peer of a session sends bytes, where that is no client
abbrev pub sends : Replay → ℕ → List ℕ → Option Client → Came
sends r number bytes (Some client) = idles r number
sends r number bytes None = doing r (ToSend number bytes)

-- bytes of a client come to its session, and others are still under way
abbrev pub brings : Replay → ℕ → Client → (bytes rest : List ℕ) → Came
brings r number client bytes rest =
    doing (record r { clients = with_client r.clients number (record client { leaving = rest }) }) (ToSend number bytes)

abbrev pub ups : Replay → ℕ → (most : ℕ) → Option Client → Came
ups r number most None = idles r number
ups r number most (Some client) =
    if is_there_at (r.world.places number)
    then (if has_bytes client.leaving then brings r number client (take most client.leaving) (drop most client.leaving) else idles r number)
    else idles r number

-- the line of a result, where there is one
abbrev pub tells_if : ℕ → Option LoginEnd → List Printed
tells_if number None = []
tells_if number (Some how) = Tells number how ∷ []

abbrev pub gets : Replay → ℕ → Client → (bytes rest : List ℕ) → Came
gets r number client bytes rest =
    alters r number (client_after client.result client bytes rest) (tells_if number (result_by client.result client bytes))

-- the session has ended, and the client still waits for its result
abbrev pub is_cut_off : (over : Bool) → Option LoginEnd → Bool
is_cut_off true None = true
is_cut_off _ _ = false

abbrev pub cuts_off : Replay → ℕ → Client → Came
cuts_off r number client = alters r number (record client { result = Some end.PeerClosed }) (Tells number end.PeerClosed ∷ [])

abbrev pub downs : Replay → ℕ → (most : ℕ) → Option Client → Came
downs r number most None = idles r number
downs r number most (Some client) =
    if has_bytes client.coming then gets r number client (take most client.coming) (drop most client.coming)
    else (if is_cut_off (is_over_at (r.world.places number)) client.result then cuts_off r number client else idles r number)

-- a client that is in writes commands, each the first packet of an exchange
abbrev pub is_in : Option LoginEnd → Bool
is_in (Some end.Opened) = true
is_in _ = false

abbrev pub writes : Replay → ℕ → (payload : List ℕ) → Option Client → Came
writes r number payload None = idles r number
writes r number payload (Some client) =
    if is_there_at (r.world.places number)
    then (if is_in client.result then alters r number (record client { leaving = client.leaving ++ packet_text 0 payload }) [] else idles r number)
    else idles r number

-- ## Running

-- What a session and its client go on with: calls of the account store; else all bytes come to the client; else its
-- result is told, where none can come; else all its bytes come to the session.
abbrev pub task_with : Option Place → Option Client → Task
task_with place None = Rests
task_with place (Some client) =
    if has_bytes client.coming then GoesDown
    else (if is_cut_off (is_over_at place) client.result then CutsOff
    else (if is_there_at place then (if has_bytes client.leaving then GoesUp else Rests) else Rests))

abbrev pub task_of : Option Place → Option Client → Task
task_of place client = if waits_at place then Answers else task_with place client

abbrev pub task : Replay → ℕ → Task
task r number = task_of (r.world.places number) (r.clients number)

abbrev pub all_down : Replay → ℕ → Option Client → Came
all_down r number None = nothing r
all_down r number (Some client) = gets r number client client.coming []

abbrev pub all_up : Replay → ℕ → Option Client → Came
all_up r number None = nothing r
all_up r number (Some client) = brings r number client client.leaving []

abbrev pub cut_off : Replay → ℕ → Option Client → Came
cut_off r number None = nothing r
cut_off r number (Some client) = cuts_off r number client

abbrev pub turns : Replay → ℕ → Task → Came
turns r number Answers = doing r (ToCall number All)
turns r number GoesDown = all_down r number (r.clients number)
turns r number GoesUp = all_up r number (r.clients number)
turns r number CutsOff = cut_off r number (r.clients number)
turns r number Rests = nothing r

-- so many turns, each by what can be done then
unfoldable pub runs : (turns : ℕ) → Replay → ℕ → Came
runs zero r number = nothing r
runs (suc more) r number = followed_by (turns r number (task r number)) (runs more (turns r number (task r number)).replay number)

-- A client hears at most six payloads, and each is followed by at most one of its own. So it rests within these turns.
abbrev pub most_turns : ℕ
most_turns = 24

abbrev pub running : Replay → ℕ → Task → Came
running r number Rests = idles r number
running r number _ = runs most_turns r number

-- ## Events

abbrev pub happens : Replay → Event → Came
happens r (event.Clock reading) = doing r (ToSet reading)
happens r (event.Admin text) = administers r (statement_in text)
happens r (event.Open number) = doing r (ToOpen number)
happens r (event.Client number flags user secrets) = begins r number (claim_of flags user secrets)
happens r (event.FromPeer number bytes) = sends r number bytes (r.clients number)
happens r (event.Up number most) = ups r number most (r.clients number)
happens r (event.Down number most) = downs r number most (r.clients number)
happens r (event.Step number) = doing r (ToCall number One)
happens r (event.Run number) = running r number (task r number)
happens r (event.Say number text) = writes r number (0x03 ∷ text) (r.clients number)
happens r (event.Command number payload) = writes r number payload (r.clients number)
happens r (event.Close number) = doing r (ToLeave number peer.Closed)
happens r (event.Cut number) = doing r (ToLeave number peer.Failed)
happens r event.FailKeeper = doing r ToFail

-- all events, one after another
abbrev pub after_events : Replay → List Event → Replay
after_events r [] = r
after_events r (first ∷ events) = after_events (happens r first).replay events

abbrev pub text_of : Replay → List Event → List ℕ
text_of r [] = []
text_of r (first ∷ events) = printed_text (happens r first).printed ++ text_of (happens r first).replay events
