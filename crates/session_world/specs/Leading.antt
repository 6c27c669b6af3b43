-- One turn of a session in a world, and what follows it.
use Rattle.std.specs.Prelude.{◌≡◌, ℕ, List, ◌++◌}
use Rattle.account_history.specs.declared.entries.Who.{Who}
use Rattle.session_talk.specs.declared.actions.Ask.{Ask}
use Rattle.session_talk.specs.declared.actions.Ask.TheVariants as ask
use Rattle.packet_stream.specs.Sent.{id_behind_all, sent_from}
use Rattle.session_talk.specs.Statements.{no_salt}
use Rattle.session_talk.specs.Talk.{SessionTalk}
use Rattle.stmt_rules.specs.declared.statement.Statement.{Statement}
use Rattle.session_talk.specs.Turns.{first_id, heard, rest, said}
use Rattle.session_talk.specs.declared.inputs.Input.{Input}
use Rattle.session_talk.specs.declared.inputs.Input.TheVariants as input
use Rattle.packet_stream.specs.Streams.{Stream}
use Rattle.session_world.specs.declared.calls.Calls.{Calls}
use Rattle.session_world.specs.declared.calls.Peer.{Peer}
use Rattle.session_world.specs.declared.output.Output.{Output}
use Rattle.session_world.specs.Lines.{sends_in}
use Rattle.packet_stream.specs.Packing.{packets_text}
use Rattle.session_world.specs.Going.{Gone, going, stops}
use Rattle.world_table.specs.Table.{Common}
use Rattle.world_table.specs.Printing.{Line}
use Rattle.world_table.specs.Printing.{lines_text, send_lines}

-- these lines, and then all that came of going on
abbrev pub after_lines : List Line → Gone → Gone
after_lines before g = record g { lines = before ++ g.lines }

-- what is sent because of an input
abbrev pub sent_because : (next : ℕ) → SessionTalk → Input → List Line
sent_because next t given = send_lines (sent_from (first_id next t given) (said (heard t given)))

-- with further lines of a session: their text is printed, and the packets of the payloads in them are sent
abbrev pub with_lines : (session : ℕ) → List Line → Output → Output
with_lines session more o = record {
  lines = o.lines ++ lines_text session more;
  sent = o.sent ++ packets_text (sends_in more);
}

-- what was put out so far and what is still to come of going on are, together, what was put out in another place and
-- what is to come there
pub record LeadsTo (session : ℕ) (here : Output) (coming : Gone) (there : Output) (all : Gone) : Type 0 where
  pub printed : with_lines session coming.lines here ≡ with_lines session all.lines there
  pub common : coming.common ≡ all.common
  pub next : coming.next ≡ all.next
  pub at : coming.at ≡ all.at
  pub unread : coming.unread ≡ all.unread

-- an input that gives back what was asked about
abbrev pub IsGivenBack : Input → Type 0
IsGivenBack (input.Checked checked) = Unit {0}
IsGivenBack (input.Stale evidences) = Unit {0}
IsGivenBack (input.Prepared prepared) = Unit {0}
IsGivenBack (input.StaleStatement statement) = Unit {0}
IsGivenBack _ = ⊥

-- the same, where a session goes on from one state to another
abbrev pub Leads : (session : ℕ) → Peer → (here : Output) → Calls → Common → (next : ℕ) → SessionTalk → Stream →
    (there : Output) → Calls → Common → (next_before : ℕ) → SessionTalk → Stream → Type 0
Leads session peer here calls c next t stream there calls_before d next_before u before =
    LeadsTo session here (going peer calls c next t stream) there (going peer calls_before d next_before u before)

-- a session waits, and nothing more comes
abbrev pub Rests : (session : ℕ) → Peer → (here : Output) → Common → (next : ℕ) → SessionTalk → Stream →
    (there : Output) → Calls → Common → (next_before : ℕ) → SessionTalk → Stream → Type 0
Rests session peer here c next t stream there calls d next_before u before =
    LeadsTo session here (stops c next t stream) there (going peer calls d next_before u before)

-- what was given to a session: what it printed, and where it then stands
pub record Acted (session : ℕ) (next : ℕ) (t : SessionTalk) (given : Input) (here now_here : Output) (next_after : ℕ) (after : SessionTalk) : Type 0 where
  pub printed : now_here ≡ with_lines session (sent_because next t given) here
  pub stands : after ≡ rest (heard t given)
  pub next_is : next_after ≡ id_behind_all (first_id next t given) (said (heard t given))

-- an account is asked for, for the first time or again
abbrev pub IsLookAsked : Ask → Who → Type 0
IsLookAsked (ask.Observe whose) who = whose ≡ who
IsLookAsked (ask.Renew whose) who = whose ≡ who
IsLookAsked _ who = ⊥

-- a statement is to be executed that isn't prepared
abbrev pub IsExecutionAsked : Ask → Statement → (salt : List ℕ) → (actor : ℕ) → Type 0
IsExecutionAsked (ask.CommitLocked what salted asking) statement salt actor = (what ≡ statement) × (salted ≡ salt) × (asking ≡ actor)
IsExecutionAsked (ask.CommitPlain what asking) statement salt actor = (what ≡ statement) × (no_salt ≡ salt) × (asking ≡ actor)
IsExecutionAsked _ statement salt actor = ⊥

-- a call of the account store is asked for
abbrev pub IsCall : Ask → Type 0
IsCall (ask.Observe who) = Unit {0}
IsCall (ask.Renew who) = Unit {0}
IsCall (ask.Settle checked flags) = Unit {0}
IsCall (ask.SettleLocked user evidences flags) = Unit {0}
IsCall (ask.Commit prepared actor) = Unit {0}
IsCall (ask.CommitLocked statement salt actor) = Unit {0}
IsCall (ask.CommitPlain statement actor) = Unit {0}
IsCall _ = ⊥
