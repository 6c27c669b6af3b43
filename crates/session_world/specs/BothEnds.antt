-- What holds of both ends of a connection after any events: of a session, and of the login client that is its peer.
-- What the session prints is its transcript; what the client was given of it is what came down. Sessions have numbers from 1
-- on: under the number 0 stand the entries of the administrator.
use Rattle.std.specs.Prelude.{◌≡◌, ◌≢◌, IsTrue, ℕ, ◌<◌, ◌^◌, List, [], Contains, Option, Some}
use Rattle.lg_base.specs.declared.errors.Code.{Code}
use Rattle.lg_base.specs.Errors.{number_of}
use Rattle.account_history.specs.Failures.{opens}
use Rattle.account_history.specs.declared.entries.Opening.{Opening}
use Rattle.account_history.specs.declared.entries.Reply.{Reply}
use Rattle.account_history.specs.declared.entries.Reply.TheVariants.{Blocked}
use Rattle.account_rules.specs.declared.accounts.Settings.{Settings}
use Rattle.both_ends.specs.Meeting.{Opens, end_told, first_entered, payloads_of}
use Rattle.login_client.specs.declared.ends.LoginEnd.TheVariants as end
use Rattle.login_lock.specs.declared.LockTime.TheVariants.{Days}
use Rattle.script_text.specs.declared.event.Event.{Event}
use Rattle.session_talk.specs.Texts.{error_payload}
use Rattle.session_world.specs.Events.{all_printed, lines_for}
use Rattle.session_world.specs.Lines.{entries_in, sends_in}
use Rattle.session_world.specs.Replays.{after_events, new_replay}
use Rattle.client_wire.specs.UnderWay.{Client}
use Rattle.world_table.specs.Printing.{Line}

-- the lines that are printed of a session over all events
abbrev pub lines_over : List Opening → Settings → List Event → (number : ℕ) → List Line
lines_over openings settings events number = lines_for number (all_printed (new_replay openings settings) events)

-- the client that is a session's peer after all events, if there is one
abbrev pub client_over : List Opening → Settings → List Event → (number : ℕ) → Option Client
client_over openings settings events number = (after_events (new_replay openings settings) events).clients number

-- A client has opened only where the reply to its session's first attempt opens.
abbrev pub OpenedByItsReply : Type 0
OpenedByItsReply =
    (openings : List Opening) (settings : Settings) (events : List Event) (number : ℕ) (client : Client) → number ≢ 0 →
    client_over openings settings events number ≡ Some client → client.result ≡ Some end.Opened →
    Opens (first_entered (entries_in (lines_over openings settings events number)))

-- A client was refused with a number only where its session sent an error with that number.
abbrev pub RefusedByItsError : Type 0
RefusedByItsError =
    (openings : List Opening) (settings : Settings) (events : List Event) (number : ℕ) (client : Client) (refusal : ℕ) → number ≢ 0 →
    client_over openings settings events number ≡ Some client → client.result ≡ Some (end.Refused refusal) →
    (error : Code) × Contains (payloads_of (sends_in (lines_over openings settings events number))) (error_payload error) × (number_of error ≡ refusal)

-- the numbers in what a reply tells have at most 64 bits
abbrev pub HasWords : Reply → Type 0
HasWords (Blocked rule left) = ((days : ℕ) → rule.time ≡ Days days → days < 2 ^ 64) × (left < 2 ^ 64) × (rule.attempts < 2 ^ 64)
HasWords _ = Unit {0}

-- A client to which all has come down that its session sent has ended as the reply to the first attempt tells.
abbrev pub EndedOnceTold : Type 0
EndedOnceTold =
    (openings : List Opening) (settings : Settings) (events : List Event) (number : ℕ) (client : Client) (reply : Reply) → number ≢ 0 →
    number < 2 ^ 32 → client_over openings settings events number ≡ Some client →
    first_entered (entries_in (lines_over openings settings events number)) ≡ Some reply → HasWords reply → client.coming ≡ [] →
    client.result ≡ Some (end_told reply)

-- So it has opened, where that reply opens.
abbrev pub OpenedOnceTold : Type 0
OpenedOnceTold =
    (openings : List Opening) (settings : Settings) (events : List Event) (number : ℕ) (client : Client) (reply : Reply) → number ≢ 0 →
    number < 2 ^ 32 → client_over openings settings events number ≡ Some client →
    first_entered (entries_in (lines_over openings settings events number)) ≡ Some reply → IsTrue (opens reply) → client.coming ≡ [] →
    client.result ≡ Some end.Opened
