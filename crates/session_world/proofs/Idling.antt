-- A doing that prints that it is idle changes nothing.
use Rattle.std.proofs.Common.{◌≡◌, refl, subst, ℕ, ◌+◌, Bool, true, false, if◌then◌else◌, List, [], ◌∷◌}
use Rattle.packet_frame.specs.Front.{Front, Whole, Part, Fault}
use Rattle.packet_frame.specs.Packets.{id_after}
use Rattle.packet_frame.specs.declared.packets.FrameFault.{FrameFault}
use Rattle.packet_frame.specs.declared.packets.FrameFault.TheVariants.{TooLarge, OutOfOrder, Memory as NoMemory}
use Rattle.interaction.specs.Talk.{Got, Says, Hears, Asks, Over}
use Rattle.session_talk.specs.Talk.{Begins, Own, SessionTalk}
use Rattle.session_talk.specs.Logins.{faulted}
use Rattle.session_talk.specs.Turns.{wanted}
use Rattle.session_talk.specs.declared.actions.Ask.TheVariants as ask
use Rattle.session_talk.specs.declared.inputs.Input.TheVariants as input
use Rattle.packet_stream.specs.Streams.{Stream, behind_of, by_front, front_of}
use Rattle.session_world.specs.declared.calls.Calls.{Calls}
use Rattle.session_world.specs.declared.calls.Calls.TheVariants.{Nothing, One, All}
use Rattle.session_world.specs.declared.calls.Peer.{Peer}
use Rattle.session_world.specs.declared.calls.Peer.TheVariants.{Open, Closed, Failed}
use Rattle.session_talk.specs.Statements.{no_salt}
use Rattle.stmt_rules.specs.declared.statement.Statement.{Statement}
use Rattle.account_history.specs.Preparing.{is_preparable, who_of}
use Rattle.world_table.specs.Statements.{administered, administrator, executes, executes_seen}
use Rattle.world_table.specs.Drawing.{drawn_nonce}
use Rattle.session_world.specs.Going.{Gone, closing, going, if_allowed, unread_by}
use Rattle.world_table.specs.Table.{Common, is_stale, with_draw}
use Rattle.world_table.specs.Printing.{Adds, Ends, Idle, Line, Sends, Stale}
use Rattle.session_world.specs.Transcripts.{IdleDoingsChangeNothing}
use Rattle.session_world.specs.Worlds.{Doing, GoesOn, IsIdle, Move, Executes, Sets, World, move, moved}
use Rattle.session_world.proofs.Moving.{of_doing}

-- the first line isn't that nothing was to be done
abbrev pub AreBusy : List Line → Type 0
AreBusy [] = Unit {0}
AreBusy (Sends sent ∷ lines) = Unit {0}
AreBusy (Adds number entry ∷ lines) = Unit {0}
AreBusy (Stale ∷ lines) = Unit {0}
AreBusy (Ends how ∷ lines) = Unit {0}
AreBusy (Idle ∷ lines) = ⊥

closing_busy : (c : Common) (next : ℕ) (fault : FrameFault) (stream : Stream) → AreBusy (closing c next (faulted fault) stream).lines
unfolding closing
closing_busy c next (TooLarge at) stream = tt
closing_busy c next (OutOfOrder at want got) stream = tt
closing_busy c next NoMemory stream = tt

unread_busy : (peer : Peer) (c : Common) (next : ℕ) (t : SessionTalk) (stream : Stream) → AreBusy (unread_by peer c next t stream).lines
unread_busy Open c next t stream = tt
unread_busy Closed c next t stream = tt
unread_busy Failed c next t stream = tt

-- what is allowed and what is done otherwise, and either of two
pub if_allowed_is : (P : Gone → Type 0) (calls : Calls) (done otherwise : Gone) → P done → P otherwise → P (if_allowed calls done otherwise)
if_allowed_is P Nothing done otherwise p q = q
if_allowed_is P One done otherwise p q = p
if_allowed_is P All done otherwise p q = p

pub if_is : (P : Gone → Type 0) (test : Bool) (done otherwise : Gone) → P done → P otherwise → P (if test then done else otherwise)
if_is P true done otherwise p q = p
if_is P false done otherwise p q = q

abbrev pub IsBusy : Gone → Type 0
IsBusy g = AreBusy g.lines

pub going_busy : (peer : Peer) (calls : Calls) (c : Common) (next : ℕ) (t : SessionTalk) (stream : Stream) → IsBusy (going peer calls c next t stream)
unfolding going
going_busy peer calls c next (Says payload t) stream = tt
going_busy peer calls c next (Hears anew k) stream =
    by_shown (λ last payload s. going_busy peer calls c (id_after last) (k (Got payload)) s) (front_of (wanted anew next) stream)
  where
    by_shown : ((last : ℕ) (payload : List ℕ) (s : Stream) → IsBusy (going peer calls c (id_after last) (k (Got payload)) s)) → (f : Front) →
        IsBusy (by_front (λ last payload behind. going peer calls c (id_after last) (k (Got payload)) (behind_of stream behind))
        (unread_by peer c next (Hears anew k) stream) (λ fault. closing c (id_after (wanted anew next)) (faulted fault) stream) f)
    by_shown again (Whole first last payload behind) = again last payload (behind_of stream behind)
    by_shown again (Part missing) = unread_busy peer c next (Hears anew k) stream
    by_shown again (Fault fault) = closing_busy c (id_after (wanted anew next)) fault stream
going_busy peer calls c next (Asks Begins k) stream = going_busy peer calls (with_draw c) next (k (input.Start (drawn_nonce (c.drawn + 1)))) stream
going_busy peer calls c next (Asks (Own ask.Draw) k) stream = going_busy peer calls (with_draw c) next (k (input.Drawn (drawn_nonce (c.drawn + 1)))) stream
going_busy peer calls c next (Asks (Own (ask.Observe who)) k) stream = if_allowed_is IsBusy calls _ _ tt tt
going_busy peer calls c next (Asks (Own (ask.Renew who)) k) stream = if_allowed_is IsBusy calls _ _ tt tt
going_busy peer calls c next (Asks (Own (ask.Check look evidences)) k) stream =
    going_busy peer calls c next (k (input.Checked (record { look = look; evidences = evidences }))) stream
going_busy peer calls c next (Asks (Own (ask.Settle checked flags)) k) stream =
    if_allowed_is IsBusy calls _ _ (if_is IsBusy (is_stale c checked.look) _ _ tt tt) tt
going_busy peer calls c next (Asks (Own (ask.SettleLocked user evidences flags)) k) stream = if_allowed_is IsBusy calls _ _ tt tt
going_busy peer calls c next (Asks (Own (ask.Prepare look statement salt actor)) k) stream =
    going_busy peer calls c next (k (input.Prepared (record { look = look; statement = statement; salt = salt; actor = actor }))) stream
going_busy peer calls c next (Asks (Own (ask.Commit prepared actor)) k) stream =
    if_allowed_is IsBusy calls _ _ (if_is IsBusy (is_stale c prepared.look) _ _ tt tt) tt
going_busy peer calls c next (Asks (Own (ask.CommitLocked statement salt actor)) k) stream = if_allowed_is IsBusy calls _ _ tt tt
going_busy peer calls c next (Asks (Own (ask.CommitPlain statement actor)) k) stream = if_allowed_is IsBusy calls _ _ tt tt
going_busy peer calls c next (Asks _ k) stream = tt
going_busy peer calls c next (Over how) stream = tt

abbrev pub IsBusyMove : Move → Type 0
IsBusyMove (Sets common) = Unit {0}
IsBusyMove (Executes did) = AreBusy did.lines
IsBusyMove (GoesOn number peer bytes g) = IsBusy g
IsBusyMove (IsIdle number) = Unit {0}

-- a statement adds an entry
administered_busy : (c : Common) (statement : Statement) → AreBusy (administered c statement).lines
administered_busy c statement = either (is_preparable statement)
  where
    either : (test : Bool) → AreBusy (if test then executes_seen c statement (who_of administrator statement) else executes c statement no_salt).lines
    either true = tt
    either false = tt

pub move_busy : (w : World) (doing : Doing) → IsBusyMove (move w doing)
move_busy w doing = of_doing w IsBusyMove (record {
  sets = λ common same. tt;
  executes = λ statement. administered_busy w.common statement;
  idles = λ number. tt;
  opens = λ number e. going_busy _ _ _ _ _ _;
  goes = λ number place peer calls bytes e ready. going_busy _ _ _ _ _ _;
}) doing

not_idle : (lines : List Line) → AreBusy lines → lines ≡ Idle ∷ [] → ⊥
not_idle lines busy e = subst AreBusy e busy

idle_move : (w : World) (m : Move) → IsBusyMove m → (moved w m).lines ≡ Idle ∷ [] → (moved w m).world ≡ w
idle_move w (Sets common) busy e = absurd (not_idle [] tt e)
idle_move w (Executes did) busy e = absurd (not_idle did.lines busy e)
idle_move w (GoesOn session peer bytes g) busy e = absurd (not_idle g.lines busy e)
idle_move w (IsIdle session) busy e = refl

pub idle_changes_nothing : IdleDoingsChangeNothing
idle_changes_nothing w doing e = idle_move w (move w doing) (move_busy w doing) e
