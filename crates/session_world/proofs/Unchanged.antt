-- An event that prints that it is idle changes nothing.
use Rattle.std.proofs.Common.{◌≡◌, refl, ap, ℕ, zero, suc, if◌then◌else◌, Bool, true, false, List, [], ◌∷◌, ◌++◌, append-nil, Option, Some, None, is_some, option_map, take, drop, arith, Result, Ok, Err}
use Rattle.account_history.specs.declared.entries.Entry.TheVariants.{Observed, Attempted, Executed}
use Rattle.login_client.specs.declared.claims.Claim.{Claim}
use Rattle.login_client.specs.declared.ends.LoginEnd.{LoginEnd}
use Rattle.login_client.specs.declared.ends.LoginEnd.TheVariants as end
use Rattle.script_text.specs.declared.event.Event.{Event}
use Rattle.script_text.specs.declared.event.Event.TheVariants as event
use Rattle.session_talk.specs.Statements.{statement_in}
use Rattle.stmt_rules.specs.declared.statement.Statement.{Statement}
use Rattle.session_world.specs.Events.{AreSame, IdleChangesNothing}
use Rattle.session_world.specs.Going.{Gone}
use Rattle.session_world.specs.Replays.{Came, NoStatement, Of, Printed, Replay, Tells, administers, all_down, all_up, alters, begins, begun_with, brings, came_of, cut_off, doing, downs, happens, idles, is_cut_off, is_in, most_turns, no_statement_line, of_session, printed_text, result_line, running, runs, sends, task, tells_if, turns, ups, writes}
use Rattle.client_wire.specs.UnderWay.{Client, claim_of, result_by, sent_to}
use Rattle.packet_stream.specs.Queue.{has_bytes}
use Rattle.session_world.specs.Worlds.{Doing, GoesOn, Happened, IsIdle, Move, Executes, Place, Sets, ToCall, ToExecute, ToFail, ToLeave, ToOpen, ToSend, ToSet, World, calling, is_over_at, is_there_at, move, moved, opening, sending, waits_at}
use Rattle.session_world.specs.declared.calls.Calls.TheVariants.{All, One}
use Rattle.session_world.specs.declared.calls.Peer.{Peer}
use Rattle.session_world.specs.declared.calls.Peer.TheVariants.{Closed, Failed}
use Rattle.session_world.specs.declared.running.Task.{Task}
use Rattle.session_world.specs.declared.running.Task.TheVariants.{Answers, GoesDown, GoesUp, CutsOff, Rests}
use Rattle.world_table.specs.Printing.{Adds, Ends, Idle, Line, Sends, Stale, attempt_line, line_text, look_line, statement_line}
use Rattle.session_world.proofs.Idling.{AreBusy, IsBusy, IsBusyMove, going_busy, move_busy}
use Rattle.session_world.proofs.Tasking.{of_task}

-- the first that is printed isn't that nothing was to be done
abbrev pub PrintsBusy : List Printed → Type 0
PrintsBusy [] = Unit {0}
PrintsBusy (Of session (Sends sent) ∷ more) = Unit {0}
PrintsBusy (Of session (Adds number entry) ∷ more) = Unit {0}
PrintsBusy (Of session Stale ∷ more) = Unit {0}
PrintsBusy (Of session (Ends how) ∷ more) = Unit {0}
PrintsBusy (Of session Idle ∷ more) = ⊥
PrintsBusy (Tells session how ∷ more) = Unit {0}
PrintsBusy (NoStatement ∷ more) = Unit {0}

-- no other line begins as an idle one, with the byte 105
abbrev first_byte : List ℕ → ℕ
first_byte [] = 0
first_byte (b ∷ bytes) = b

not_idle : (number : ℕ) (printed : List Printed) → PrintsBusy printed → printed_text printed ≡ printed_text (Of number Idle ∷ []) → ⊥
unfolding line_text look_line attempt_line statement_line result_line no_statement_line
not_idle number [] busy e = let same : 0 ≡ 105 = ap first_byte e in absurd (omega (arith, same))
not_idle number (Of session (Sends sent) ∷ more) busy e = let same : 115 ≡ 105 = ap first_byte e in absurd (omega (arith, same))
not_idle number (Of session (Adds k (Observed who look)) ∷ more) busy e = let same : 101 ≡ 105 = ap first_byte e in absurd (omega (arith, same))
not_idle number (Of session (Adds k (Executed execution)) ∷ more) busy e = let same : 101 ≡ 105 = ap first_byte e in absurd (omega (arith, same))
not_idle number (Of session (Adds k (Attempted attempt)) ∷ more) busy e = let same : 101 ≡ 105 = ap first_byte e in absurd (omega (arith, same))
not_idle number (Of session Stale ∷ more) busy e = let same : 115 ≡ 105 = ap first_byte e in absurd (omega (arith, same))
not_idle number (Of session (Ends how) ∷ more) busy e = let same : 101 ≡ 105 = ap first_byte e in absurd (omega (arith, same))
not_idle number (Of session Idle ∷ more) busy e = absurd busy
not_idle number (Tells session how ∷ more) busy e = let same : 108 ≡ 105 = ap first_byte e in absurd (omega (arith, same))
not_idle number (NoStatement ∷ more) busy e = let same : 97 ≡ 105 = ap first_byte e in absurd (omega (arith, same))

busy_append : (printed more : List Printed) → PrintsBusy printed → PrintsBusy more → PrintsBusy (printed ++ more)
busy_append [] more x y = y
busy_append (Of session (Sends sent) ∷ printed) more x y = tt
busy_append (Of session (Adds number entry) ∷ printed) more x y = tt
busy_append (Of session Stale ∷ printed) more x y = tt
busy_append (Of session (Ends how) ∷ printed) more x y = tt
busy_append (Of session Idle ∷ printed) more x y = absurd x
busy_append (Tells session how ∷ printed) more x y = tt
busy_append (NoStatement ∷ printed) more x y = tt

busy_session : (session : ℕ) (lines : List Line) → AreBusy lines → PrintsBusy (of_session session lines)
busy_session session [] busy = tt
busy_session session (Sends sent ∷ lines) busy = tt
busy_session session (Adds number entry ∷ lines) busy = tt
busy_session session (Stale ∷ lines) busy = tt
busy_session session (Ends how ∷ lines) busy = tt
busy_session session (Idle ∷ lines) busy = absurd busy

tells_busy : (number : ℕ) (told : Option LoginEnd) → PrintsBusy (tells_if number told)
tells_busy number None = tt
tells_busy number (Some how) = tt

-- ## Turns

abbrev printed_by : Happened → List Printed
printed_by h = of_session h.session h.lines

-- a session goes on, since it may
goes_busy : (w : World) (may : Bool) (session : ℕ) (peer : Peer) (bytes : List ℕ) (g : Gone) → IsBusy g → may ≡ true →
    PrintsBusy (printed_by (moved w (if may then GoesOn session peer bytes g else IsIdle session)))
goes_busy w true session peer bytes g busy e = busy_session session g.lines busy
goes_busy w false session peer bytes g busy e = absurd (cc)

call_busy : (w : World) (number : ℕ) (found : Option Place) → waits_at found ≡ true → PrintsBusy (printed_by (moved w (calling w number All found)))
call_busy w number None e = absurd (cc)
call_busy w number (Some place) e = goes_busy w _ number place.peer [] _ (going_busy _ _ _ _ _ _) e

send_busy : (w : World) (number : ℕ) (bytes : List ℕ) (found : Option Place) → is_there_at found ≡ true →
    PrintsBusy (printed_by (moved w (sending w number bytes found)))
send_busy w number bytes None e = absurd (cc)
send_busy w number bytes (Some place) e = goes_busy w _ number place.peer bytes _ (going_busy _ _ _ _ _ _) e

down_busy : (r : Replay) (number : ℕ) (found : Option Client) → PrintsBusy (all_down r number found).printed
down_busy r number None = tt
down_busy r number (Some client) = tells_busy number (result_by client.result client client.coming)

up_busy : (r : Replay) (number : ℕ) (found : Option Client) → is_there_at (r.world.places number) ≡ true → PrintsBusy (all_up r number found).printed
up_busy r number None e = tt
up_busy r number (Some client) e = send_busy r.world number client.leaving (r.world.places number) e

cut_busy : (r : Replay) (number : ℕ) (found : Option Client) → PrintsBusy (cut_off r number found).printed
cut_busy r number None = tt
cut_busy r number (Some client) = tt

turn_busy : (r : Replay) (number : ℕ) → PrintsBusy (turns r number (task r number)).printed
turn_busy r number = of_task (r.world.places number) (r.clients number) (λ (t : Task). PrintsBusy (turns r number t).printed) (record {
  answers = λ waits. call_busy r.world number (r.world.places number) waits;
  goes_down = λ idle client e coming. down_busy r number (r.clients number);
  cuts_off = λ idle client e none cut. cut_busy r number (r.clients number);
  goes_up = λ idle client e none uncut there leaving. up_busy r number (r.clients number) there;
  rests = tt;
})

runs_busy : (more : ℕ) (r : Replay) (number : ℕ) → PrintsBusy (runs more r number).printed
unfolding runs
runs_busy zero r number = tt
runs_busy (suc more) r number =
    busy_append (turns r number (task r number)).printed (runs more (turns r number (task r number)).replay number).printed
    (turn_busy r number) (runs_busy more (turns r number (task r number)).replay number)

-- ## What comes of an event

-- where it prints that it is idle, nothing is changed
abbrev Stays : (r : Replay) → Came → Type 0
Stays r came = (number : ℕ) → printed_text came.printed ≡ printed_text (Of number Idle ∷ []) → AreSame came.replay r

busy_stays : (r : Replay) (came : Came) → PrintsBusy came.printed → Stays r came
busy_stays r came busy number e = absurd (not_idle number came.printed busy e)

idles_stay : (r : Replay) (number : ℕ) → Stays r (idles r number)
idles_stay r number other e = record { world = refl; clients = λ n. refl }

either_stays : (r : Replay) (test : Bool) (first second : Came) → Stays r first → Stays r second → Stays r (if test then first else second)
either_stays r true first second x y = x
either_stays r false first second x y = y

-- a client to which nothing is sent
with_none : (test : Bool) (found : Option Client) → (if test then option_map (sent_to []) found else found) ≡ found
with_none true None = refl
with_none true (Some client) = ap (λ (coming : List ℕ). Some (record client { coming = coming })) (append-nil client.coming)
with_none false found = refl

move_stays : (r : Replay) (what : Doing) (m : Move) → IsBusyMove m → Stays r (came_of r what (moved r.world m))
move_stays r what (Sets common) busy = busy_stays r (came_of r what (moved r.world (Sets common))) tt
move_stays r what (Executes did) busy = busy_stays r (came_of r what (moved r.world (Executes did))) (busy_session 0 did.lines busy)
move_stays r what (GoesOn session peer bytes g) busy =
    busy_stays r (came_of r what (moved r.world (GoesOn session peer bytes g))) (busy_session session g.lines busy)
move_stays r what (IsIdle session) busy = λ number e. record { world = refl; clients = λ n. with_none _ (r.clients n) }

doing_stays : (r : Replay) (what : Doing) → Stays r (doing r what)
doing_stays r what = move_stays r what (move r.world what) (move_busy r.world what)

alters_stay : (r : Replay) (number : ℕ) (client : Client) (printed : List Printed) → PrintsBusy printed → Stays r (alters r number client printed)
alters_stay r number client printed busy = busy_stays r (alters r number client printed) busy

administers_stay : (r : Replay) (read : Result Statement ℕ) → Stays r (administers r read)
administers_stay r (Err place) = busy_stays r (administers r (Err place)) tt
administers_stay r (Ok statement) = doing_stays r (ToExecute statement)

begins_stay : (r : Replay) (number : ℕ) (claim : Claim) → Stays r (begins r number claim)
begins_stay r number claim = begun (r.world.places number)
  where
    begun : (found : Option Place) →
        Stays r (if is_some found then idles r number else begun_with r number claim (moved r.world (opening r.world number found)))
    begun None = busy_stays r (begun_with r number claim (moved r.world (opening r.world number None))) (busy_session number _ (going_busy _ _ _ _ _ _))
    begun (Some place) = idles_stay r number

sends_stay : (r : Replay) (number : ℕ) (bytes : List ℕ) (found : Option Client) → Stays r (sends r number bytes found)
sends_stay r number bytes (Some client) = idles_stay r number
sends_stay r number bytes None = doing_stays r (ToSend number bytes)

-- bytes are brought where the session's peer is there
ups_stay : (r : Replay) (number most : ℕ) (found : Option Client) → Stays r (ups r number most found)
ups_stay r number most None = idles_stay r number
ups_stay r number most (Some client) = there (is_there_at (r.world.places number)) refl
  where
    up : Came
    up = if has_bytes client.leaving then brings r number client (take most client.leaving) (drop most client.leaving) else idles r number

    there : (test : Bool) → is_there_at (r.world.places number) ≡ test → Stays r (if test then up else idles r number)
    there true e = either_stays r (has_bytes client.leaving) _ (idles r number)
        (busy_stays r (brings r number client (take most client.leaving) (drop most client.leaving))
        (send_busy r.world number (take most client.leaving) (r.world.places number) e)) (idles_stay r number)
    there false e = idles_stay r number

downs_stay : (r : Replay) (number most : ℕ) (found : Option Client) → Stays r (downs r number most found)
downs_stay r number most None = idles_stay r number
downs_stay r number most (Some client) =
    either_stays r (has_bytes client.coming) _ _
    (alters_stay r number _ (tells_if number (result_by client.result client (take most client.coming))) (tells_busy number _))
    (either_stays r (is_cut_off (is_over_at (r.world.places number)) client.result) _ (idles r number)
    (alters_stay r number _ (Tells number end.PeerClosed ∷ []) tt) (idles_stay r number))

writes_stay : (r : Replay) (number : ℕ) (payload : List ℕ) (found : Option Client) → Stays r (writes r number payload found)
writes_stay r number payload None = idles_stay r number
writes_stay r number payload (Some client) =
    either_stays r (is_there_at (r.world.places number)) _ (idles r number)
    (either_stays r (is_in client.result) _ (idles r number) (alters_stay r number _ [] tt) (idles_stay r number))
    (idles_stay r number)

running_stays : (r : Replay) (number : ℕ) (task : Task) → Stays r (running r number task)
running_stays r number Rests = idles_stay r number
running_stays r number Answers = busy_stays r (runs most_turns r number) (runs_busy most_turns r number)
running_stays r number GoesDown = busy_stays r (runs most_turns r number) (runs_busy most_turns r number)
running_stays r number GoesUp = busy_stays r (runs most_turns r number) (runs_busy most_turns r number)
running_stays r number CutsOff = busy_stays r (runs most_turns r number) (runs_busy most_turns r number)

event_stays : (r : Replay) (event : Event) → Stays r (happens r event)
event_stays r (event.Clock reading) = doing_stays r (ToSet reading)
event_stays r (event.Admin text) = administers_stay r (statement_in text)
event_stays r (event.Open number) = doing_stays r (ToOpen number)
event_stays r (event.Client number flags user secrets) = begins_stay r number (claim_of flags user secrets)
event_stays r (event.FromPeer number bytes) = sends_stay r number bytes (r.clients number)
event_stays r (event.Up number most) = ups_stay r number most (r.clients number)
event_stays r (event.Down number most) = downs_stay r number most (r.clients number)
event_stays r (event.Step number) = doing_stays r (ToCall number One)
event_stays r (event.Run number) = running_stays r number (task r number)
event_stays r (event.Say number text) = writes_stay r number (0x03 ∷ text) (r.clients number)
event_stays r (event.Command number payload) = writes_stay r number payload (r.clients number)
event_stays r (event.Close number) = doing_stays r (ToLeave number Closed)
event_stays r (event.Cut number) = doing_stays r (ToLeave number Failed)
event_stays r event.FailKeeper = doing_stays r ToFail

pub idle_events_change_nothing : IdleChangesNothing
idle_events_change_nothing r event number e = event_stays r event number e
