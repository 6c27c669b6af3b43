-- After any events a client hears at most six packets more, so that its runs come to rest.
use Rattle.std.proofs.Common.{◌≡◌, refl, subst, ℕ, zero, suc, ◌+◌, ◌≤◌, ◌==◌, inl, inr, Bool, true, false, if◌then◌else◌, List, [], ◌∷◌, Option, Some, None, is_some, option_map, arith, Result, Ok, Err}
use Rattle.login_client.proofs.Within.{login-within}
use Rattle.login_client.specs.declared.claims.Claim.{Claim}
use Rattle.login_client.specs.declared.ends.LoginEnd.{LoginEnd}
use Rattle.login_client.specs.declared.ends.LoginEnd.TheVariants as end
use Rattle.client_wire.specs.Getting.{Got}
use Rattle.script_text.specs.declared.event.Event.{Event}
use Rattle.script_text.specs.declared.event.Event.TheVariants as event
use Rattle.session_world.specs.Events.{RunsComeToRest}
use Rattle.session_talk.specs.Statements.{statement_in}
use Rattle.stmt_rules.specs.declared.statement.Statement.{Statement}
use Rattle.session_world.specs.Replays.{Came, Replay, administers, after_events, all_down, all_up, begins, brings, bytes_of, cut_off, doing, downs, gets, happens, idles, is_cut_off, is_in, most_turns, new_replay, running, runs, sends, session_of, task, turns, ups, with_sent, writes}
use Rattle.client_wire.specs.UnderWay.{Client, claim_of, client_after, getting_by, new_client, sent_to, with_client, with_got}
use Rattle.packet_stream.specs.Queue.{has_bytes}
use Rattle.session_world.specs.Worlds.{Doing, Place, ToCall, ToExecute, ToFail, ToLeave, ToOpen, ToSend, ToSet, does, is_over_at, is_there_at, waits_at}
use Rattle.session_world.specs.declared.calls.Calls.TheVariants.{All, One}
use Rattle.session_world.specs.declared.calls.Peer.TheVariants.{Closed, Failed}
use Rattle.session_world.specs.declared.running.Task.{Task}
use Rattle.session_world.specs.declared.running.Task.TheVariants.{Answers, GoesDown, GoesUp, CutsOff, Rests}
use Rattle.session_world.proofs.Nearing.{Heeds, heeds}
use Rattle.session_world.proofs.Resting.{AreLeft, HearsBy, calls_left, calls_most, hears_on, running_rests, untold_most, written_most}

-- a client hears at most six packets more
pub record HasFew (client : Client) : Type 0 where
  pub hears : ℕ
  pub few : hears ≤ 6
  pub hears_by : HearsBy hears client.result client.stands.at

abbrev pub IsFew : Option Client → Type 0
IsFew None = Unit {0}
IsFew (Some client) = HasFew client

abbrev pub AreFew : (ℕ → Option Client) → Type 0
AreFew clients = (number : ℕ) → IsFew (clients number)

few_left : (place : Option Place) (found : Option Client) → IsFew found → AreLeft most_turns place found
few_left place None few = let most : calls_left (waits_at place) false ≤ 2 = calls_most (waits_at place) false in omega (arith, most)
few_left place (Some client) few = record {
  hears = few.hears;
  hears_by = few.hears_by;
  within = count _ _ few.hears _ (calls_most (waits_at place) (has_bytes client.coming)) (written_most (has_bytes client.leaving)) few.few (untold_most client.result);
}
  where
    count : (calls written hears last : ℕ) → calls ≤ 2 → written ≤ 3 → hears ≤ 6 → last ≤ 1 → calls + (written + (hears + hears + hears + last)) ≤ 24
    count calls written hears last a b c d = omega (arith, a, b, c, d)

-- where each client was so before, each is so after
abbrev Keeps : (ℕ → Option Client) → Came → Type 0
Keeps clients came = AreFew clients → AreFew came.replay.clients

if_few : (test : Bool) (first second : Option Client) → IsFew first → IsFew second → IsFew (if test then first else second)
if_few true first second x y = x
if_few false first second x y = y

with_few : (clients : ℕ → Option Client) (number : ℕ) (client : Client) → AreFew clients → HasFew client → AreFew (with_client clients number client)
with_few clients number client all few other = if_few (other == number) (Some client) (clients other) few (all other)

sent_few : (bytes : List ℕ) (found : Option Client) → IsFew found → IsFew (option_map (sent_to bytes) found)
sent_few bytes None few = tt
sent_few bytes (Some client) few = record { hears = few.hears; few = few.few; hears_by = few.hears_by }

all_sent_few : (clients : ℕ → Option Client) (number : ℕ) (bytes : List ℕ) → AreFew clients → AreFew (with_sent clients number bytes)
all_sent_few clients number bytes all other =
    if_few (other == number) (option_map (sent_to bytes) (clients other)) (clients other) (sent_few bytes (clients other) (all other)) (all other)

doing_keeps : (r : Replay) (what : Doing) → Keeps r.clients (doing r what)
doing_keeps r what all = all_sent_few r.clients (session_of what) (bytes_of (does r.world what)) all

-- a client that has got bytes
heeds_few : (client : Client) (rest : List ℕ) (g : Got) (hears : ℕ) → hears ≤ 6 → Heeds hears g → HasFew (with_got client rest g)
heeds_few client rest g zero le heed = record { hears = zero; few = le; hears_by = hears_on zero g.at heed.1 }
heeds_few client rest g (suc hears) le (inl silent) = record { hears = suc hears; few = le; hears_by = hears_on (suc hears) g.at silent.1 }
heeds_few client rest g (suc hears) le (inr w) = record {
  hears = w.hears;
  few = (let fewer_still : w.hears ≤ hears = w.fewer in omega (arith, fewer_still, le));
  hears_by = hears_on w.hears g.at w.near;
}

after_few : (client : Client) (result : Option LoginEnd) (bytes rest : List ℕ) → client.result ≡ result → HasFew client → HasFew (client_after result client bytes rest)
after_few client None bytes rest e few =
    heeds_few client rest (getting_by client bytes) few.hears few.few
    (heeds few.hears _ _ _ (subst (λ (result : Option LoginEnd). HearsBy few.hears result client.stands.at) e few.hears_by))
after_few client (Some how) bytes rest e few = record { hears = few.hears; few = few.few; hears_by = few.hears_by }

module _ (r : Replay) (all : AreFew r.clients) (number : ℕ) where
  few_at : (client : Client) → r.clients number ≡ Some client → HasFew client
  few_at client e = subst IsFew e (all number)

  abbrev Kept : Came → Type 0
  Kept came = AreFew came.replay.clients

  either_keeps : (test : Bool) (first second : Came) → Kept first → Kept second → Kept (if test then first else second)
  either_keeps true first second x y = x
  either_keeps false first second x y = y

  brings_keeps : (client : Client) (bytes rest : List ℕ) → HasFew client → Kept (brings r number client bytes rest)
  brings_keeps client bytes rest few =
      let clients : ℕ → Option Client = with_client r.clients number (record client { leaving = rest }) in
      doing_keeps (record r { clients = clients }) (ToSend number bytes)
      (with_few r.clients number (record client { leaving = rest }) all (record { hears = few.hears; few = few.few; hears_by = few.hears_by }))

  gets_keeps : (client : Client) (bytes rest : List ℕ) → HasFew client → Kept (gets r number client bytes rest)
  gets_keeps client bytes rest few = with_few r.clients number _ all (after_few client client.result bytes rest refl few)

  cut_keeps : (client : Client) → HasFew client → Kept (cut_off r number (Some client))
  cut_keeps client few = with_few r.clients number (record client { result = Some end.PeerClosed }) all (record { hears = few.hears; few = few.few; hears_by = tt })

  begins_keeps : (claim : Claim) → Kept (begins r number claim)
  begins_keeps claim =
      either_keeps (is_some (r.world.places number)) (idles r number) _ all
      (with_few r.clients number (new_client claim (bytes_of (does r.world (ToOpen number)))) all
      (record { hears = 6; few = omega arith; hears_by = login-within claim }))

  sends_keeps : (bytes : List ℕ) (found : Option Client) → Kept (sends r number bytes found)
  sends_keeps bytes (Some client) = all
  sends_keeps bytes None = doing_keeps r (ToSend number bytes) all

  ups_keeps : (most : ℕ) (found : Option Client) → IsFew found → Kept (ups r number most found)
  ups_keeps most None few = all
  ups_keeps most (Some client) few =
      either_keeps (is_there_at (r.world.places number)) _ (idles r number)
      (either_keeps (has_bytes client.leaving) _ (idles r number) (brings_keeps client _ _ few) all) all

  downs_keeps : (most : ℕ) (found : Option Client) → IsFew found → Kept (downs r number most found)
  downs_keeps most None few = all
  downs_keeps most (Some client) few =
      either_keeps (has_bytes client.coming) _ _ (gets_keeps client _ _ few)
      (either_keeps (is_cut_off (is_over_at (r.world.places number)) client.result) _ (idles r number) (cut_keeps client few) all)

  writes_keeps : (payload : List ℕ) (found : Option Client) → IsFew found → Kept (writes r number payload found)
  writes_keeps payload None few = all
  writes_keeps payload (Some client) few =
      either_keeps (is_there_at (r.world.places number)) _ (idles r number)
      (either_keeps (is_in client.result) _ (idles r number)
      (with_few r.clients number _ all (record { hears = few.hears; few = few.few; hears_by = few.hears_by })) all) all

  down_keeps : (found : Option Client) → IsFew found → Kept (all_down r number found)
  down_keeps None few = all
  down_keeps (Some client) few = gets_keeps client client.coming [] few

  up_keeps : (found : Option Client) → IsFew found → Kept (all_up r number found)
  up_keeps None few = all
  up_keeps (Some client) few = brings_keeps client client.leaving [] few

  off_keeps : (found : Option Client) → IsFew found → Kept (cut_off r number found)
  off_keeps None few = all
  off_keeps (Some client) few = cut_keeps client few

  turn_keeps : (t : Task) → Kept (turns r number t)
  turn_keeps Answers = doing_keeps r (ToCall number All) all
  turn_keeps GoesDown = down_keeps (r.clients number) (all number)
  turn_keeps GoesUp = up_keeps (r.clients number) (all number)
  turn_keeps CutsOff = off_keeps (r.clients number) (all number)
  turn_keeps Rests = all

runs_keep : (more : ℕ) (r : Replay) (number : ℕ) → AreFew r.clients → AreFew (runs more r number).replay.clients
unfolding runs
runs_keep zero r number all = all
runs_keep (suc more) r number all = runs_keep more (turns r number (task r number)).replay number (turn_keeps r all number (task r number))

running_keeps : (r : Replay) (number : ℕ) (t : Task) → AreFew r.clients → AreFew (running r number t).replay.clients
running_keeps r number Rests all = all
running_keeps r number Answers all = runs_keep most_turns r number all
running_keeps r number GoesDown all = runs_keep most_turns r number all
running_keeps r number GoesUp all = runs_keep most_turns r number all
running_keeps r number CutsOff all = runs_keep most_turns r number all

administers_keeps : (r : Replay) (read : Result Statement ℕ) → AreFew r.clients → AreFew (administers r read).replay.clients
administers_keeps r (Err place) all = all
administers_keeps r (Ok statement) all = doing_keeps r (ToExecute statement) all

event_keeps : (r : Replay) (event : Event) → AreFew r.clients → AreFew (happens r event).replay.clients
event_keeps r (event.Clock reading) all = doing_keeps r (ToSet reading) all
event_keeps r (event.Admin text) all = administers_keeps r (statement_in text) all
event_keeps r (event.Open number) all = doing_keeps r (ToOpen number) all
event_keeps r (event.Client number flags user secrets) all = begins_keeps r all number (claim_of flags user secrets)
event_keeps r (event.FromPeer number bytes) all = sends_keeps r all number bytes (r.clients number)
event_keeps r (event.Up number most) all = ups_keeps r all number most (r.clients number) (all number)
event_keeps r (event.Down number most) all = downs_keeps r all number most (r.clients number) (all number)
event_keeps r (event.Step number) all = doing_keeps r (ToCall number One) all
event_keeps r (event.Run number) all = running_keeps r number (task r number) all
event_keeps r (event.Say number text) all = writes_keeps r all number (0x03 ∷ text) (r.clients number) (all number)
event_keeps r (event.Command number payload) all = writes_keeps r all number payload (r.clients number) (all number)
event_keeps r (event.Close number) all = doing_keeps r (ToLeave number Closed) all
event_keeps r (event.Cut number) all = doing_keeps r (ToLeave number Failed) all
event_keeps r event.FailKeeper all = doing_keeps r ToFail all

events_keep : (r : Replay) (events : List Event) → AreFew r.clients → AreFew (after_events r events).clients
events_keep r [] all = all
events_keep r (first ∷ events) all = events_keep (happens r first).replay events (event_keeps r first all)

pub runs_come_to_rest : RunsComeToRest
runs_come_to_rest openings settings events number =
    let r : Replay = after_events (new_replay openings settings) events in
    running_rests r number (task r number) refl
    (few_left (r.world.places number) (r.clients number) (events_keep (new_replay openings settings) events (λ n. tt) number))
