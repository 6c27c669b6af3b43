-- What events come to is what they do to the world of sessions.
use Rattle.std.proofs.Common.{◌≡◌, refl, ap, sym, ◌∙◌, subst, ℕ, zero, suc, ◌==◌, if◌then◌else◌, Bool, true, false, List, [], ◌∷◌, ◌++◌, append-nil, append_assoc, Option, Some, None, is_some, Result, Ok, Err}
use Rattle.login_client.specs.declared.claims.Claim.{Claim}
use Rattle.login_client.specs.declared.ends.LoginEnd.{LoginEnd}
use Rattle.login_client.specs.declared.ends.LoginEnd.TheVariants as end
use Rattle.script_text.specs.declared.event.Event.{Event}
use Rattle.script_text.specs.declared.event.Event.TheVariants as event
use Rattle.session_talk.specs.Statements.{statement_in}
use Rattle.stmt_rules.specs.declared.statement.Statement.{Statement}
use Rattle.session_world.specs.Events.{AreDone, EventsAreDone, HistoriesAreLegal, SessionsAreTranscripts, all_doings, all_printed, lines_among, lines_for}
use Rattle.session_world.specs.Replays.{Came, NoStatement, Of, Printed, Replay, Tells, administers, after_events, all_down, all_up, alters, begins, brings, cut_off, doing, downs, followed_by, happens, idles, is_cut_off, is_in, most_turns, new_replay, nothing, of_session, running, runs, sends, task, tells_if, turns, ups, writes}
use Rattle.client_wire.specs.UnderWay.{Client, claim_of, result_by, with_client}
use Rattle.packet_stream.specs.Queue.{has_bytes}
use Rattle.session_world.specs.Transcripts.{IsHistory, IsTranscript, all_lines, lines_in, lines_of, peer_at, session_bytes, session_lines}
use Rattle.session_world.specs.Worlds.{Doing, GoesOn, IsIdle, Move, Executes, Sets, ToExecute, ToIdle, ToOpen, ToSend, World, after_all, does, is_over_at, is_there_at, move, moved}
use Rattle.session_world.specs.declared.running.Task.{Task}
use Rattle.session_world.specs.declared.running.Task.TheVariants.{Answers, GoesDown, GoesUp, CutsOff, Rests}
use Rattle.world_table.specs.Printing.{Line}
use Rattle.session_world.proofs.Following.{sessions_are_transcripts}
use Rattle.session_world.proofs.Legally.{histories_are_legal}

-- what came of something in a world is what was done to it
pub record IsDone (w : World) (came : Came) : Type 0 where
  pub world_is : came.replay.world ≡ after_all w came.doings
  pub lines_are : lines_among came.printed ≡ all_lines w came.doings
  pub each_is : (number : ℕ) → lines_for number came.printed ≡ session_lines number w came.doings

-- ## Lines

among_append : (printed more : List Printed) → lines_among (printed ++ more) ≡ lines_among printed ++ lines_among more
among_append [] more = refl
among_append (Of session line ∷ printed) more = ap (λ (rest : List Line). line ∷ rest) (among_append printed more)
among_append (Tells session how ∷ printed) more = among_append printed more
among_append (NoStatement ∷ printed) more = among_append printed more

-- a line of one session or of another
line_if : (test : Bool) (line : Line) (rest first second : List Line) → rest ≡ first ++ second →
    (if test then line ∷ rest else rest) ≡ (if test then line ∷ first else first) ++ second
line_if true line rest first second e = ap (λ (lines : List Line). line ∷ lines) e
line_if false line rest first second e = e

for_append : (number : ℕ) (printed more : List Printed) → lines_for number (printed ++ more) ≡ lines_for number printed ++ lines_for number more
for_append number [] more = refl
for_append number (Of session line ∷ printed) more =
    line_if (number == session) line (lines_for number (printed ++ more)) (lines_for number printed) (lines_for number more) (for_append number printed more)
for_append number (Tells session how ∷ printed) more = for_append number printed more
for_append number (NoStatement ∷ printed) more = for_append number printed more

among_session : (session : ℕ) (lines : List Line) → lines_among (of_session session lines) ≡ lines
among_session session [] = refl
among_session session (line ∷ lines) = ap (λ (rest : List Line). line ∷ rest) (among_session session lines)

abbrev none : List Line
none = []

none_if : (test : Bool) → (if test then none else none) ≡ none
none_if true = refl
none_if false = refl

both_if : (test : Bool) (line : Line) (rest lines : List Line) → rest ≡ (if test then lines else []) →
    (if test then line ∷ rest else rest) ≡ (if test then line ∷ lines else [])
both_if true line rest lines e = ap (λ (all : List Line). line ∷ all) e
both_if false line rest lines e = e

for_session : (number session : ℕ) (lines : List Line) → lines_for number (of_session session lines) ≡ (if number == session then lines else [])
for_session number session [] = sym (none_if (number == session))
for_session number session (line ∷ lines) =
    both_if (number == session) line (lines_for number (of_session session lines)) lines (for_session number session lines)

-- the lines of a move are those of what it comes to
lines_moved : (w : World) (m : Move) → (moved w m).lines ≡ lines_in m
lines_moved w (Sets common) = refl
lines_moved w (Executes did) = refl
lines_moved w (GoesOn session peer bytes g) = refl
lines_moved w (IsIdle session) = refl

each_moved : (number : ℕ) (w : World) (m : Move) → (if number == (moved w m).session then (moved w m).lines else []) ≡ lines_of number m
each_moved number w (Sets common) = none_if (number == 0)
each_moved number w (Executes did) = refl
each_moved number w (GoesOn session peer bytes g) = refl
each_moved number w (IsIdle session) = refl

-- ## Doings, one after another

pub after_append : (w : World) (doings more : List Doing) → after_all w (doings ++ more) ≡ after_all (after_all w doings) more
after_append w [] more = refl
after_append w (first ∷ doings) more = after_append (does w first).world doings more

lines_append : (w : World) (doings more : List Doing) → all_lines w (doings ++ more) ≡ all_lines w doings ++ all_lines (after_all w doings) more
lines_append w [] more = refl
lines_append w (first ∷ doings) more =
    ap (λ (rest : List Line). lines_in (move w first) ++ rest) (lines_append (does w first).world doings more)
    ∙ sym (append_assoc (lines_in (move w first)) (all_lines (does w first).world doings) (all_lines (after_all w (first ∷ doings)) more))

pub each_append : (number : ℕ) (w : World) (doings more : List Doing) →
    session_lines number w (doings ++ more) ≡ session_lines number w doings ++ session_lines number (after_all w doings) more
each_append number w [] more = refl
each_append number w (first ∷ doings) more =
    ap (λ (rest : List Line). lines_of number (move w first) ++ rest) (each_append number (does w first).world doings more)
    ∙ sym (append_assoc (lines_of number (move w first)) (session_lines number (does w first).world doings)
    (session_lines number (after_all w (first ∷ doings)) more))

-- ## What comes of an event

-- one thing after another
joined : (w : World) (first second : Came) → IsDone w first → IsDone first.replay.world second → IsDone w (followed_by first second)
joined w first second x y = record {
  world_is = y.world_is ∙ (ap (λ (between : World). after_all between second.doings) x.world_is ∙ sym (after_append w first.doings second.doings));
  lines_are = among_append first.printed second.printed
      ∙ (ap (λ (lines : List Line). lines ++ lines_among second.printed) x.lines_are
      ∙ (ap (λ (lines : List Line). all_lines w first.doings ++ lines)
      (y.lines_are ∙ ap (λ (between : World). all_lines between second.doings) x.world_is)
      ∙ sym (lines_append w first.doings second.doings)));
  each_is = λ number. for_append number first.printed second.printed
      ∙ (ap (λ (lines : List Line). lines ++ lines_for number second.printed) (x.each_is number)
      ∙ (ap (λ (lines : List Line). session_lines number w first.doings ++ lines)
      (y.each_is number ∙ ap (λ (between : World). session_lines number between second.doings) x.world_is)
      ∙ sym (each_append number w first.doings second.doings)));
}

nothing_done : (r : Replay) → IsDone r.world (nothing r)
nothing_done r = record { world_is = refl; lines_are = refl; each_is = λ number. refl }

-- a move is what was done, whatever becomes of the clients
move_done : (w : World) (what : Doing) (clients : ℕ → Option Client) →
    IsDone w (record {
      replay = record { world = (does w what).world; clients = clients };
      printed = of_session (does w what).session (does w what).lines;
      doings = what ∷ [];
    })
move_done w what clients = record {
  world_is = refl;
  lines_are = among_session (does w what).session (does w what).lines
      ∙ (lines_moved w (move w what) ∙ sym (append-nil (lines_in (move w what))));
  each_is = λ number. for_session number (does w what).session (does w what).lines
      ∙ (each_moved number w (move w what) ∙ sym (append-nil (lines_of number (move w what))));
}

idles_done : (r : Replay) (number : ℕ) → IsDone r.world (idles r number)
idles_done r number = move_done r.world (ToIdle number) r.clients

doing_done : (r : Replay) (what : Doing) → IsDone r.world (doing r what)
doing_done r what = move_done r.world what _

-- a client changes, and at most its result is told
tells_done : (r : Replay) (number other : ℕ) (client : Client) (told : Option LoginEnd) → IsDone r.world (alters r number client (tells_if other told))
tells_done r number other client None = record { world_is = refl; lines_are = refl; each_is = λ n. refl }
tells_done r number other client (Some how) = record { world_is = refl; lines_are = refl; each_is = λ n. refl }

either_done : (w : World) (test : Bool) (first second : Came) → IsDone w first → IsDone w second → IsDone w (if test then first else second)
either_done w true first second x y = x
either_done w false first second x y = y

brings_done : (r : Replay) (number : ℕ) (client : Client) (bytes rest : List ℕ) → IsDone r.world (brings r number client bytes rest)
brings_done r number client bytes rest =
    doing_done (record r { clients = with_client r.clients number (record client { leaving = rest }) }) (ToSend number bytes)

turn_done : (r : Replay) (number : ℕ) (task : Task) → IsDone r.world (turns r number task)
turn_done r number Answers = doing_done r _
turn_done r number Rests = nothing_done r
turn_done r number GoesDown = found (r.clients number)
  where
    found : (client : Option Client) → IsDone r.world (all_down r number client)
    found None = nothing_done r
    found (Some client) = tells_done r number number _ (result_by client.result client client.coming)
turn_done r number GoesUp = found (r.clients number)
  where
    found : (client : Option Client) → IsDone r.world (all_up r number client)
    found None = nothing_done r
    found (Some client) = brings_done r number client client.leaving []
turn_done r number CutsOff = found (r.clients number)
  where
    found : (client : Option Client) → IsDone r.world (cut_off r number client)
    found None = nothing_done r
    found (Some client) = tells_done r number number _ (Some end.PeerClosed)

runs_done : (more : ℕ) (r : Replay) (number : ℕ) → IsDone r.world (runs more r number)
unfolding runs
runs_done zero r number = nothing_done r
runs_done (suc more) r number =
    joined r.world (turns r number (task r number)) (runs more (turns r number (task r number)).replay number)
    (turn_done r number (task r number)) (runs_done more (turns r number (task r number)).replay number)

running_done : (r : Replay) (number : ℕ) (task : Task) → IsDone r.world (running r number task)
running_done r number Rests = idles_done r number
running_done r number Answers = runs_done most_turns r number
running_done r number GoesDown = runs_done most_turns r number
running_done r number GoesUp = runs_done most_turns r number
running_done r number CutsOff = runs_done most_turns r number

administers_done : (r : Replay) (read : Result Statement ℕ) → IsDone r.world (administers r read)
administers_done r (Err place) = record { world_is = refl; lines_are = refl; each_is = λ n. refl }
administers_done r (Ok statement) = doing_done r (ToExecute statement)

begins_done : (r : Replay) (number : ℕ) (claim : Claim) → IsDone r.world (begins r number claim)
begins_done r number claim =
    either_done r.world (is_some (r.world.places number)) (idles r number) _ (idles_done r number) (move_done r.world (ToOpen number) _)

sends_done : (r : Replay) (number : ℕ) (bytes : List ℕ) (client : Option Client) → IsDone r.world (sends r number bytes client)
sends_done r number bytes (Some client) = idles_done r number
sends_done r number bytes None = doing_done r _

ups_done : (r : Replay) (number most : ℕ) (client : Option Client) → IsDone r.world (ups r number most client)
ups_done r number most None = idles_done r number
ups_done r number most (Some client) =
    either_done r.world (is_there_at (r.world.places number)) _ (idles r number)
    (either_done r.world (has_bytes client.leaving) _ (idles r number) (brings_done r number client _ _) (idles_done r number))
    (idles_done r number)

downs_done : (r : Replay) (number most : ℕ) (client : Option Client) → IsDone r.world (downs r number most client)
downs_done r number most None = idles_done r number
downs_done r number most (Some client) =
    either_done r.world (has_bytes client.coming) _ _ (tells_done r number number _ (result_by client.result client _))
    (either_done r.world (is_cut_off (is_over_at (r.world.places number)) client.result) _ (idles r number)
    (tells_done r number number _ (Some end.PeerClosed)) (idles_done r number))

writes_done : (r : Replay) (number : ℕ) (payload : List ℕ) (client : Option Client) → IsDone r.world (writes r number payload client)
writes_done r number payload None = idles_done r number
writes_done r number payload (Some client) =
    either_done r.world (is_there_at (r.world.places number)) _ (idles r number)
    (either_done r.world (is_in client.result) _ (idles r number) (tells_done r number number _ None) (idles_done r number))
    (idles_done r number)

event_done : (r : Replay) (event : Event) → IsDone r.world (happens r event)
event_done r (event.Clock reading) = doing_done r _
event_done r (event.Admin text) = administers_done r (statement_in text)
event_done r (event.Open number) = doing_done r _
event_done r (event.Client number flags user secrets) = begins_done r number (claim_of flags user secrets)
event_done r (event.FromPeer number bytes) = sends_done r number bytes (r.clients number)
event_done r (event.Up number most) = ups_done r number most (r.clients number)
event_done r (event.Down number most) = downs_done r number most (r.clients number)
event_done r (event.Step number) = doing_done r _
event_done r (event.Run number) = running_done r number (task r number)
event_done r (event.Say number text) = writes_done r number (0x03 ∷ text) (r.clients number)
event_done r (event.Command number payload) = writes_done r number payload (r.clients number)
event_done r (event.Close number) = doing_done r _
event_done r (event.Cut number) = doing_done r _
event_done r event.FailKeeper = doing_done r _

-- ## Over events

pub events_are_done : EventsAreDone
events_are_done r [] = record { world_is = refl; lines_are = refl; each_is = λ number. refl }
events_are_done r (first ∷ events) =
    let rest : AreDone (happens r first).replay events = events_are_done (happens r first).replay events in
    let all : IsDone r.world (followed_by (happens r first) (record {
      replay = after_events (happens r first).replay events;
      printed = all_printed (happens r first).replay events;
      doings = all_doings (happens r first).replay events;
    })) = joined r.world (happens r first) _ (event_done r first)
    (record { world_is = rest.world_is; lines_are = rest.lines_are; each_is = rest.each_is }) in
    record { world_is = all.world_is; lines_are = all.lines_are; each_is = all.each_is }

pub events_are_legal : HistoriesAreLegal
events_are_legal openings settings events =
    let r : Replay = new_replay openings settings in
    let done : AreDone r events = events_are_done r events in
    subst (λ (lines : List Line). IsHistory openings settings (after_events r events).world.common.log lines) (sym done.lines_are)
    (subst (λ (w : World). IsHistory openings settings w.common.log (all_lines r.world (all_doings r events))) (sym done.world_is)
    (histories_are_legal openings settings (all_doings r events)))

pub events_are_transcripts : SessionsAreTranscripts
events_are_transcripts openings settings events number is_session =
    let r : Replay = new_replay openings settings in
    let done : AreDone r events = events_are_done r events in
    let bytes : List ℕ = session_bytes number r.world (all_doings r events) in
    subst (λ (lines : List Line). IsTranscript number (peer_at ((after_events r events).world.places number)) bytes lines) (sym (done.each_is number))
    (subst (λ (w : World). IsTranscript number (peer_at (w.places number)) bytes (session_lines number r.world (all_doings r events))) (sym done.world_is)
    (sessions_are_transcripts openings settings (all_doings r events) number is_session))
