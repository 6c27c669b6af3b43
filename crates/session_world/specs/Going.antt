-- How a session goes on in a world: it reads what its peer has sent, is given draws and checks at once, and is
-- answered as many calls of the account store as an event allows.
use Rattle.std.specs.Prelude.{ℕ, ◌+◌, ◌==◌, not, if◌then◌else◌, List, [], ◌∷◌, length}
use Rattle.packet_frame.specs.Packets.{id_after}
use Rattle.account_history.specs.declared.entries.Entry.{Entry}
use Rattle.account_history.specs.declared.entries.Entry.TheVariants.{Executed, Observed}
use Rattle.account_history.specs.declared.entries.Execution.{Execution}
use Rattle.session_talk.specs.declared.ends.SessionEnd.{SessionEnd}
use Rattle.session_talk.specs.declared.ends.SessionEnd.TheVariants as end
use Rattle.interaction.specs.Talk.{Got, Says, Hears, Asks, Over}
use Rattle.session_talk.specs.declared.actions.Ask.TheVariants as ask
use Rattle.session_talk.specs.declared.inputs.Input.{Input}
use Rattle.session_talk.specs.declared.inputs.Input.TheVariants as input
use Rattle.session_talk.specs.Logins.{faulted}
use Rattle.session_talk.specs.Statements.{no_salt}
use Rattle.session_talk.specs.Talk.{Begins, Own, Question, SessionTalk}
use Rattle.session_talk.specs.Turns.{wanted}
use Rattle.packet_stream.specs.Sent.{id_behind}
use Rattle.packet_stream.specs.Streams.{Stream, behind_of, by_front, front_of}
use Rattle.world_table.specs.Drawing.{drawn_nonce}
use Rattle.world_table.specs.Statements.{executed, with_execution}
use Rattle.world_table.specs.Table.{Common, attempted, is_stale, next_number, replied, seen, with_draw, with_entry}
use Rattle.world_table.specs.Printing.{Adds, Ends, Line, Sends, Stale}
use Rattle.session_world.specs.declared.calls.Calls.{Calls}
use Rattle.session_world.specs.declared.calls.Calls.TheVariants.{Nothing, One, All}
use Rattle.session_world.specs.declared.calls.Peer.{Peer}
use Rattle.session_world.specs.declared.calls.Peer.TheVariants.{Open, Closed, Failed}

-- what came of going on: the lines, in order, what is common, the id of the next packet, where the talk stands, and the
-- bytes that weren't read
pub record Gone : Type 0 where
  pub lines : List Line
  pub common : Common
  pub next : ℕ
  pub at : SessionTalk
  pub unread : Stream

abbrev pub after_line : Line → Gone → Gone
after_line line g = record g { lines = line ∷ g.lines }

abbrev pub stops : Common → ℕ → SessionTalk → Stream → Gone
stops c next t stream = record { lines = []; common = c; next = next; at = t; unread = stream }

-- the session has ended
abbrev pub over : Common → ℕ → SessionEnd → Stream → Gone
over c next how stream = after_line (Ends how) (stops c next (Over how) stream)

-- a talk that only says and is over
unfoldable pub closing : Common → ℕ → SessionTalk → Stream → Gone
closing c next (Says payload t) stream =
    after_line (Sends (record { first = next; payload = payload })) (closing c (id_behind next payload) t stream)
closing c next (Over how) stream = over c next how stream
closing c next t stream = stops c next t stream

-- a packet is waited for, and there is none: the peer may have closed, or the link may have failed
abbrev pub unread_by : Peer → Common → ℕ → SessionTalk → Stream → Gone
unread_by Open c next t stream = stops c next t stream
unread_by Closed c next t stream = over c next (end.PeerClosed (not (length stream.bytes == 0))) stream
unread_by Failed c next t stream = over c next end.LinkFault stream

-- the calls that are left after one
abbrev pub spent : Calls → Calls
spent Nothing = Nothing
spent One = Nothing
spent All = All

abbrev pub if_allowed : Calls → Gone → Gone → Gone
if_allowed Nothing allowed otherwise = otherwise
if_allowed One allowed otherwise = allowed
if_allowed All allowed otherwise = allowed

-- an entry is added, and then the session goes on
abbrev pub adding : Common → Entry → (Common → Gone) → Gone
adding c entry goes_on = after_line (Adds (next_number c) entry) (goes_on (with_entry c entry))

-- a statement is executed, and then the session goes on
abbrev pub executing : Common → Execution → (Common → Gone) → Gone
executing c execution goes_on = after_line (Adds (next_number c) (Executed execution)) (goes_on (with_execution c execution))

-- How a question is answered, and how the session goes on with the answer, by the calls that are left and by what is
-- common from then on: a draw, a check and the preparing of a statement are answered at once, and a call of the account
-- store where it is allowed. Else the session waits.
abbrev pub by_question : Calls → Common → Question → (Calls → Common → Input → Gone) → (waits : Gone) → Gone
by_question calls c Begins goes_on waits = goes_on calls (with_draw c) (input.Start (drawn_nonce (c.drawn + 1)))
by_question calls c (Own ask.Draw) goes_on waits = goes_on calls (with_draw c) (input.Drawn (drawn_nonce (c.drawn + 1)))
by_question calls c (Own (ask.Observe who)) goes_on waits =
    if_allowed calls (adding c (Observed who (seen c who)) (λ d. goes_on (spent calls) d (input.Looked (seen c who)))) waits
by_question calls c (Own (ask.Renew who)) goes_on waits =
    if_allowed calls (adding c (Observed who (seen c who)) (λ d. goes_on (spent calls) d (input.Looked (seen c who)))) waits
by_question calls c (Own (ask.Check look evidences)) goes_on waits =
    goes_on calls c (input.Checked (record { look = look; evidences = evidences }))
by_question calls c (Own (ask.Settle checked flags)) goes_on waits =
    if_allowed calls
    (if is_stale c checked.look then after_line Stale (goes_on (spent calls) c (input.Stale checked.evidences))
    else adding c (attempted c checked.look.user checked.evidences flags)
    (λ d. goes_on (spent calls) d (input.Settled (replied c checked.look.user checked.evidences flags))))
    waits
by_question calls c (Own (ask.SettleLocked user evidences flags)) goes_on waits =
    if_allowed calls
    (adding c (attempted c user evidences flags) (λ d. goes_on (spent calls) d (input.Settled (replied c user evidences flags))))
    waits
by_question calls c (Own (ask.Prepare look statement salt actor)) goes_on waits =
    goes_on calls c (input.Prepared (record { look = look; statement = statement; salt = salt; actor = actor }))
by_question calls c (Own (ask.Commit prepared actor)) goes_on waits =
    if_allowed calls
    (if is_stale c prepared.look then after_line Stale (goes_on (spent calls) c (input.StaleStatement prepared.statement))
    else executing c (executed c prepared.statement prepared.salt actor)
    (λ d. goes_on (spent calls) d (input.Ran (executed c prepared.statement prepared.salt actor).reply)))
    waits
by_question calls c (Own (ask.CommitLocked statement salt actor)) goes_on waits =
    if_allowed calls
    (executing c (executed c statement salt actor) (λ d. goes_on (spent calls) d (input.Ran (executed c statement salt actor).reply)))
    waits
by_question calls c (Own (ask.CommitPlain statement actor)) goes_on waits =
    if_allowed calls
    (executing c (executed c statement no_salt actor) (λ d. goes_on (spent calls) d (input.Ran (executed c statement no_salt actor).reply)))
    waits
by_question calls c _ goes_on waits = waits

unfoldable pub going : Peer → Calls → Common → (next : ℕ) → SessionTalk → Stream → Gone
going peer calls c next (Says payload t) stream =
    after_line (Sends (record { first = next; payload = payload })) (going peer calls c (id_behind next payload) t stream)
going peer calls c next (Hears anew k) stream =
    by_front (λ last payload behind. going peer calls c (id_after last) (k (Got payload)) (behind_of stream behind))
    (unread_by peer c next (Hears anew k) stream)
    (λ fault. closing c (id_after (wanted anew next)) (faulted fault) stream)
    (front_of (wanted anew next) stream)
going peer calls c next (Asks q k) stream =
    by_question calls c q (λ more d given. going peer more d next (k given) stream) (stops c next (Asks q k) stream)
going peer calls c next (Over how) stream = over c next how stream
