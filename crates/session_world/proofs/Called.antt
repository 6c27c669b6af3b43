-- A session that is answered all its calls of the account store waits for none.
use Rattle.std.proofs.Common.{◌≡◌, refl, ℕ, ◌+◌, ◌==◌, Bool, true, false, if◌then◌else◌, List, [], Option, Some, None, eq-eqb}
use Rattle.packet_frame.specs.Front.{Front, Whole, Part, Fault}
use Rattle.packet_frame.specs.Packets.{id_after}
use Rattle.packet_frame.specs.declared.packets.FrameFault.{FrameFault}
use Rattle.packet_frame.specs.declared.packets.FrameFault.TheVariants.{TooLarge, OutOfOrder, Memory as NoMemory}
use Rattle.account_history.specs.declared.entries.Entry.TheVariants.{Observed}
use Rattle.interaction.specs.Talk.{Reading, Got, Says, Hears, Asks, Over}
use Rattle.session_talk.specs.Talk.{Begins, Own, SessionTalk}
use Rattle.session_talk.specs.Logins.{faulted}
use Rattle.session_talk.specs.Turns.{wanted}
use Rattle.session_talk.specs.declared.actions.Ask.TheVariants as ask
use Rattle.session_talk.specs.declared.inputs.Input.TheVariants as input
use Rattle.packet_stream.specs.Sent.{id_behind}
use Rattle.packet_stream.specs.Streams.{Stream, behind_of, by_front, front_of}
use Rattle.session_world.specs.declared.calls.Calls.TheVariants.{All}
use Rattle.session_world.specs.declared.calls.Peer.{Peer}
use Rattle.session_world.specs.declared.calls.Peer.TheVariants.{Open, Closed, Failed}
use Rattle.session_world.specs.Going.{Gone, closing, going, unread_by}
use Rattle.session_world.specs.Worlds.{GoesOn, IsIdle, Place, World, calling, moved, waits, waits_at}
use Rattle.session_talk.specs.Statements.{no_salt}
use Rattle.world_table.specs.Drawing.{drawn_nonce}
use Rattle.world_table.specs.Statements.{executed, with_execution}
use Rattle.world_table.specs.Table.{Common, attempted, is_stale, replied, seen, with_draw, with_entry}
use Rattle.session_world.proofs.Idling.{if_is}

abbrev WaitsNot : Gone → Type 0
WaitsNot g = waits g.at ≡ false

closing_called : (c : Common) (next : ℕ) (fault : FrameFault) (stream : Stream) → WaitsNot (closing c next (faulted fault) stream)
unfolding closing
closing_called c next (TooLarge at) stream = refl
closing_called c next (OutOfOrder at want got) stream = refl
closing_called c next NoMemory stream = refl

unread_called : (peer : Peer) (c : Common) (next : ℕ) (anew : Bool) (k : Reading → SessionTalk) (stream : Stream) → WaitsNot (unread_by peer c next (Hears anew k) stream)
unread_called Open c next anew k stream = refl
unread_called Closed c next anew k stream = refl
unread_called Failed c next anew k stream = refl

going_called : (peer : Peer) (c : Common) (next : ℕ) (t : SessionTalk) (stream : Stream) → WaitsNot (going peer All c next t stream)
unfolding going
going_called peer c next (Says payload t) stream = going_called peer c (id_behind next payload) t stream
going_called peer c next (Hears anew k) stream =
    by_shown (λ last payload s. going_called peer c (id_after last) (k (Got payload)) s) (front_of (wanted anew next) stream)
  where
    by_shown : ((last : ℕ) (payload : List ℕ) (s : Stream) → WaitsNot (going peer All c (id_after last) (k (Got payload)) s)) → (f : Front) →
        WaitsNot (by_front (λ last payload behind. going peer All c (id_after last) (k (Got payload)) (behind_of stream behind))
        (unread_by peer c next (Hears anew k) stream) (λ fault. closing c (id_after (wanted anew next)) (faulted fault) stream) f)
    by_shown again (Whole first last payload behind) = again last payload (behind_of stream behind)
    by_shown again (Part missing) = unread_called peer c next anew k stream
    by_shown again (Fault fault) = closing_called c (id_after (wanted anew next)) fault stream
going_called peer c next (Asks Begins k) stream = going_called peer (with_draw c) next (k (input.Start (drawn_nonce (c.drawn + 1)))) stream
going_called peer c next (Asks (Own ask.Draw) k) stream = going_called peer (with_draw c) next (k (input.Drawn (drawn_nonce (c.drawn + 1)))) stream
going_called peer c next (Asks (Own (ask.Observe who)) k) stream =
    going_called peer (with_entry c (Observed who (seen c who))) next (k (input.Looked (seen c who))) stream
going_called peer c next (Asks (Own (ask.Renew who)) k) stream =
    going_called peer (with_entry c (Observed who (seen c who))) next (k (input.Looked (seen c who))) stream
going_called peer c next (Asks (Own (ask.Check look evidences)) k) stream =
    going_called peer c next (k (input.Checked (record { look = look; evidences = evidences }))) stream
going_called peer c next (Asks (Own (ask.Settle checked flags)) k) stream =
    if_is WaitsNot (is_stale c checked.look) _ _ (going_called peer c next (k (input.Stale checked.evidences)) stream)
    (going_called peer (with_entry c (attempted c checked.look.user checked.evidences flags)) next
    (k (input.Settled (replied c checked.look.user checked.evidences flags))) stream)
going_called peer c next (Asks (Own (ask.SettleLocked user evidences flags)) k) stream =
    going_called peer (with_entry c (attempted c user evidences flags)) next (k (input.Settled (replied c user evidences flags))) stream
going_called peer c next (Asks (Own (ask.Prepare look statement salt actor)) k) stream =
    going_called peer c next (k (input.Prepared (record { look = look; statement = statement; salt = salt; actor = actor }))) stream
going_called peer c next (Asks (Own (ask.Commit prepared actor)) k) stream =
    if_is WaitsNot (is_stale c prepared.look) _ _ (going_called peer c next (k (input.StaleStatement prepared.statement)) stream)
    (going_called peer (with_execution c (executed c prepared.statement prepared.salt actor)) next
    (k (input.Ran (executed c prepared.statement prepared.salt actor).reply)) stream)
going_called peer c next (Asks (Own (ask.CommitLocked statement salt actor)) k) stream =
    going_called peer (with_execution c (executed c statement salt actor)) next (k (input.Ran (executed c statement salt actor).reply)) stream
going_called peer c next (Asks (Own (ask.CommitPlain statement actor)) k) stream =
    going_called peer (with_execution c (executed c statement no_salt actor)) next (k (input.Ran (executed c statement no_salt actor).reply)) stream
going_called peer c next (Asks _ k) stream = refl
going_called peer c next (Over how) stream = refl

here : (test : Bool) (place : Place) (other : Option Place) → test ≡ true → waits place.at ≡ false → waits_at (if test then Some place else other) ≡ false
here true place other e idle = idle
here false place other e idle = absurd (cc)

goes_called : (w : World) (number : ℕ) (may : Bool) (peer : Peer) (g : Gone) → may ≡ true → WaitsNot g →
    waits_at ((moved w (if may then GoesOn number peer [] g else IsIdle number)).world.places number) ≡ false
goes_called w number true peer g e idle = here (number == number) _ (w.places number) (eq-eqb number number refl) idle
goes_called w number false peer g e idle = absurd (cc)

pub called : (w : World) (number : ℕ) (found : Option Place) → waits_at found ≡ true →
    waits_at ((moved w (calling w number All found)).world.places number) ≡ false
called w number None e = absurd (cc)
called w number (Some place) e =
    goes_called w number (waits place.at) place.peer _ e (going_called place.peer w.common place.next place.at place.unread)
