-- A session that goes on in a world sends, right behind each attempt and each statement, what the reply says.
use Rattle.std.proofs.Common.{◌≡◌, ◌≢◌, refl, ap, sym, subst, ℕ, ◌+◌, ◌==◌, Bool, true, false, if◌then◌else◌, List, [], ◌∷◌, ◌++◌, Option, Some, None, Result, Ok, Err, ne_eqb}
use Rattle.lg_base.specs.declared.errors.Code.{Code}
use Rattle.packet_frame.specs.Front.{Front, Whole, Part, Fault}
use Rattle.packet_frame.specs.Packets.{id_after}
use Rattle.packet_frame.specs.declared.packets.FrameFault.{FrameFault}
use Rattle.packet_frame.specs.declared.packets.FrameFault.TheVariants.{TooLarge, OutOfOrder, Memory as NoMemory}
use Rattle.packet_stream.specs.Sent.{id_behind}
use Rattle.packet_stream.specs.Streams.{Stream, behind_of, by_front, front_of, with_more}
use Rattle.account_history.specs.declared.entries.Entry.{Entry}
use Rattle.account_history.specs.declared.entries.Entry.TheVariants.{Observed, Attempted, Executed}
use Rattle.account_history.specs.declared.entries.Execution.{Execution}
use Rattle.account_history.specs.declared.entries.StmtReply.{StmtReply}
use Rattle.account_history.specs.declared.entries.Who.{Who}
use Rattle.account_history.specs.declared.entries.Who.TheVariants.{Login, Account, Own as OwnAccount}
use Rattle.interaction.specs.Talk.{Got, Says, Hears, Asks, Over}
use Rattle.session_talk.specs.Logins.{faulted, session}
use Rattle.session_talk.specs.Statements.{no_salt}
use Rattle.session_talk.specs.Talk.{Begins, Own, SessionTalk}
use Rattle.session_talk.specs.Texts.{error_payload, ok_payload}
use Rattle.session_talk.specs.Turns.{wanted}
use Rattle.session_talk.specs.declared.actions.Ask.TheVariants as ask
use Rattle.session_talk.specs.declared.inputs.Input.{Input}
use Rattle.session_talk.specs.declared.inputs.Input.TheVariants as input
use Rattle.session_talk.specs.declared.open_session.OpenSession.{OpenSession}
use Rattle.session_world.specs.declared.calls.Calls.{Calls}
use Rattle.session_world.specs.declared.calls.Calls.TheVariants.{Nothing}
use Rattle.session_world.specs.declared.calls.Peer.{Peer}
use Rattle.session_world.specs.declared.calls.Peer.TheVariants.{Open, Closed, Failed}
use Rattle.session_world.specs.Events.{all_doings, all_printed, lines_for}
use Rattle.session_world.specs.Going.{Gone, closing, going, spent, unread_by}
use Rattle.session_world.specs.Replays.{Replay, new_replay}
use Rattle.session_world.specs.Replies.{AreTold, IsStatementTold, IsTold, RepliesAreTold, reply_payload}
use Rattle.session_world.specs.Transcripts.{lines_of, session_lines}
use Rattle.session_world.specs.Worlds.{Doing, Executes, GoesOn, IsIdle, Move, Place, Sets, World, does, move, moved, new_world, no_bytes, with_place}
use Rattle.world_table.specs.Drawing.{drawn_nonce}
use Rattle.world_table.specs.Printing.{Line, Sends, Adds, Stale, Ends, Idle}
use Rattle.world_table.specs.Statements.{Administered, administered, executed, with_execution}
use Rattle.world_table.specs.Table.{Common, attempted, is_stale, next_number, replied, seen, with_draw, with_entry}
use Rattle.session_world.proofs.Doing.{events_are_done}
use Rattle.session_world.proofs.Idling.{if_allowed_is, if_is}
use Rattle.session_world.proofs.Moving.{of_doing}
use Rattle.session_world.proofs.Replying.{IsAbout, Tells, TellsAll, TellsStatement, session_tells}

-- ## Going on

-- what was printed tells each reply, and what is to come will
pub record HasTold (g : Gone) : Type 0 where
  pub told : AreTold g.lines
  pub will_tell : TellsAll g.at

-- the reply to an attempt is told first
reply_goes : (peer : Peer) (calls : Calls) (c : Common) (next : ℕ) (found : Result OpenSession Code) (t : SessionTalk) (stream : Stream) →
    Tells found t → IsTold found (going peer calls c next t stream).lines
unfolding going
reply_goes peer calls c next (Ok opened) t stream tells =
    subst (λ (u : SessionTalk). IsTold (Ok opened) (going peer calls c next u stream).lines) (sym tells.1)
    (next, (going peer calls c (id_behind next ok_payload) tells.0 stream).lines, refl)
reply_goes peer calls c next (Err error) t stream tells =
    subst (λ (u : SessionTalk). IsTold (Err error) (going peer calls c next u stream).lines) (sym tells) (next, [], refl)

statement_goes : (peer : Peer) (calls : Calls) (c : Common) (next : ℕ) (reply : StmtReply) (t : SessionTalk) (stream : Stream) →
    TellsStatement reply t → IsStatementTold reply (going peer calls c next t stream).lines
unfolding going
statement_goes peer calls c next reply t stream tells =
    subst (λ (u : SessionTalk). IsStatementTold reply (going peer calls c next u stream).lines) (sym tells.1)
    (next, (going peer calls c (id_behind next (reply_payload reply)) tells.0 stream).lines, refl)

-- what is seen of a user is of that user
observed_about : (c : Common) (who : Who) → IsAbout (Own (ask.Observe who)) (input.Looked (seen c who))
observed_about c (Login user) = refl
observed_about c (Account name) = tt
observed_about c (OwnAccount id) = tt

renewed_about : (c : Common) (who : Who) → IsAbout (Own (ask.Renew who)) (input.Looked (seen c who))
renewed_about c (Login user) = refl
renewed_about c (Account name) = tt
renewed_about c (OwnAccount id) = tt

unread_told : (peer : Peer) (c : Common) (next : ℕ) (t : SessionTalk) (stream : Stream) → TellsAll t → HasTold (unread_by peer c next t stream)
unread_told Open c next t stream tells = record { told = tt; will_tell = tells }
unread_told Closed c next t stream tells = record { told = tt; will_tell = tt }
unread_told Failed c next t stream tells = record { told = tt; will_tell = tt }

closing_told : (c : Common) (next : ℕ) (fault : FrameFault) (stream : Stream) → HasTold (closing c next (faulted fault) stream)
unfolding closing
closing_told c next (TooLarge at) stream = record { told = tt; will_tell = tt }
closing_told c next (OutOfOrder at want got) stream = record { told = tt; will_tell = tt }
closing_told c next NoMemory stream = record { told = tt; will_tell = tt }

going_told : (peer : Peer) (calls : Calls) (c : Common) (next : ℕ) (t : SessionTalk) (stream : Stream) → TellsAll t →
    HasTold (going peer calls c next t stream)
unfolding going
going_told peer calls c next (Says payload t) stream tells =
    let x = going_told peer calls c (id_behind next payload) t stream tells in record { told = x.told; will_tell = x.will_tell }
going_told peer calls c next (Hears anew k) stream tells =
    by_shown (λ last payload s. going_told peer calls c (id_after last) (k (Got payload)) s (tells payload)) (front_of (wanted anew next) stream)
  where
    by_shown : ((last : ℕ) (payload : List ℕ) (s : Stream) → HasTold (going peer calls c (id_after last) (k (Got payload)) s)) → (f : Front) →
        HasTold (by_front (λ last payload behind. going peer calls c (id_after last) (k (Got payload)) (behind_of stream behind))
        (unread_by peer c next (Hears anew k) stream) (λ fault. closing c (id_after (wanted anew next)) (faulted fault) stream) f)
    by_shown again (Whole first last payload behind) = again last payload (behind_of stream behind)
    by_shown again (Part missing) = unread_told peer c next (Hears anew k) stream tells
    by_shown again (Fault fault) = closing_told c (id_after (wanted anew next)) fault stream
going_told peer calls c next (Asks Begins k) stream tells =
    let given : Input = input.Start (drawn_nonce (c.drawn + 1)) in
    going_told peer calls (with_draw c) next (k given) stream (tells given tt).1
going_told peer calls c next (Asks (Own ask.Draw) k) stream tells =
    let given : Input = input.Drawn (drawn_nonce (c.drawn + 1)) in
    going_told peer calls (with_draw c) next (k given) stream (tells given tt).1
going_told peer calls c next (Asks (Own (ask.Observe who)) k) stream tells =
    let given : Input = input.Looked (seen c who) in
    let x = going_told peer (spent calls) (with_entry c (Observed who (seen c who))) next (k given) stream (tells given (observed_about c who)).1 in
    if_allowed_is HasTold calls _ _ (record { told = x.told; will_tell = x.will_tell }) (record { told = tt; will_tell = tells })
going_told peer calls c next (Asks (Own (ask.Renew who)) k) stream tells =
    let given : Input = input.Looked (seen c who) in
    let x = going_told peer (spent calls) (with_entry c (Observed who (seen c who))) next (k given) stream (tells given (renewed_about c who)).1 in
    if_allowed_is HasTold calls _ _ (record { told = x.told; will_tell = x.will_tell }) (record { told = tt; will_tell = tells })
going_told peer calls c next (Asks (Own (ask.Check look evidences)) k) stream tells =
    let given : Input = input.Checked (record { look = look; evidences = evidences }) in
    going_told peer calls c next (k given) stream (tells given tt).1
going_told peer calls c next (Asks (Own (ask.Settle checked flags)) k) stream tells =
    let late : Input = input.Stale checked.evidences in
    let given : Input = input.Settled (replied c checked.look.user checked.evidences flags) in
    let entry : Entry = attempted c checked.look.user checked.evidences flags in
    let x = going_told peer (spent calls) c next (k late) stream (tells late tt).1 in
    let y = going_told peer (spent calls) (with_entry c entry) next (k given) stream (tells given tt).1 in
    if_allowed_is HasTold calls _ _
    (if_is HasTold (is_stale c checked.look) _ _ (record { told = x.told; will_tell = x.will_tell })
    (record { told = (reply_goes peer (spent calls) (with_entry c entry) next _ (k given) stream (tells given tt).0, y.told); will_tell = y.will_tell }))
    (record { told = tt; will_tell = tells })
going_told peer calls c next (Asks (Own (ask.SettleLocked user evidences flags)) k) stream tells =
    let given : Input = input.Settled (replied c user evidences flags) in
    let entry : Entry = attempted c user evidences flags in
    let y = going_told peer (spent calls) (with_entry c entry) next (k given) stream (tells given tt).1 in
    if_allowed_is HasTold calls _ _
    (record { told = (reply_goes peer (spent calls) (with_entry c entry) next _ (k given) stream (tells given tt).0, y.told); will_tell = y.will_tell })
    (record { told = tt; will_tell = tells })
going_told peer calls c next (Asks (Own (ask.Prepare look statement salt actor)) k) stream tells =
    let given : Input = input.Prepared (record { look = look; statement = statement; salt = salt; actor = actor }) in
    going_told peer calls c next (k given) stream (tells given tt).1
going_told peer calls c next (Asks (Own (ask.Commit prepared actor)) k) stream tells =
    let late : Input = input.StaleStatement prepared.statement in
    let execution : Execution = executed c prepared.statement prepared.salt actor in
    let given : Input = input.Ran execution.reply in
    let x = going_told peer (spent calls) c next (k late) stream (tells late tt).1 in
    let y = going_told peer (spent calls) (with_execution c execution) next (k given) stream (tells given tt).1 in
    if_allowed_is HasTold calls _ _
    (if_is HasTold (is_stale c prepared.look) _ _ (record { told = x.told; will_tell = x.will_tell })
    (record { told = (statement_goes peer (spent calls) (with_execution c execution) next execution.reply (k given) stream (tells given tt).0, y.told); will_tell = y.will_tell }))
    (record { told = tt; will_tell = tells })
going_told peer calls c next (Asks (Own (ask.CommitLocked statement salt actor)) k) stream tells =
    let execution : Execution = executed c statement salt actor in
    let given : Input = input.Ran execution.reply in
    let y = going_told peer (spent calls) (with_execution c execution) next (k given) stream (tells given tt).1 in
    if_allowed_is HasTold calls _ _
    (record { told = (statement_goes peer (spent calls) (with_execution c execution) next execution.reply (k given) stream (tells given tt).0, y.told); will_tell = y.will_tell })
    (record { told = tt; will_tell = tells })
going_told peer calls c next (Asks (Own (ask.CommitPlain statement actor)) k) stream tells =
    let execution : Execution = executed c statement no_salt actor in
    let given : Input = input.Ran execution.reply in
    let y = going_told peer (spent calls) (with_execution c execution) next (k given) stream (tells given tt).1 in
    if_allowed_is HasTold calls _ _
    (record { told = (statement_goes peer (spent calls) (with_execution c execution) next execution.reply (k given) stream (tells given tt).0, y.told); will_tell = y.will_tell })
    (record { told = tt; will_tell = tells })
going_told peer calls c next (Asks _ k) stream tells = record { told = tt; will_tell = tells }
going_told peer calls c next (Over how) stream tells = record { told = tt; will_tell = tt }

-- ## Lines behind lines

told_more : (found : Result OpenSession Code) (lines more : List Line) → IsTold found lines → IsTold found (lines ++ more)
told_more (Ok opened) lines more is = (is.0, is.1 ++ more, ap (λ (ls : List Line). ls ++ more) is.2)
told_more (Err error) lines more is = (is.0, is.1 ++ more, ap (λ (ls : List Line). ls ++ more) is.2)

told_append : (lines more : List Line) → AreTold lines → AreTold more → AreTold (lines ++ more)
told_append [] more is later = later
told_append (Sends sent ∷ lines) more is later = told_append lines more is later
told_append (Adds number (Observed who look) ∷ lines) more is later = told_append lines more is later
told_append (Adds number (Attempted attempt) ∷ lines) more is later = (told_more _ lines more is.0, told_append lines more is.1 later)
told_append (Adds number (Executed execution) ∷ lines) more is later =
    ((is.0.0, is.0.1 ++ more, ap (λ (ls : List Line). ls ++ more) is.0.2), told_append lines more is.1 later)
told_append (Stale ∷ lines) more is later = told_append lines more is later
told_append (Ends how ∷ lines) more is later = told_append lines more is later
told_append (Idle ∷ lines) more is later = told_append lines more is later

-- ## Doings

abbrev WillTell : Option Place → Type 0
WillTell None = Unit {0}
WillTell (Some place) = TellsAll place.at

abbrev AllWillTell : World → Type 0
AllWillTell w = (number : ℕ) → WillTell (w.places number)

told_if : (test : Bool) (lines : List Line) → AreTold lines → AreTold (if test then lines else [])
told_if true lines is = is
told_if false lines is = tt

will_if : (test : Bool) (place : Place) (found : Option Place) → TellsAll place.at → WillTell found → WillTell (if test then Some place else found)
will_if true place found is other = is
will_if false place found is other = other

module _ (number : ℕ) (is_session : number ≢ 0) (w : World) (tells : AllWillTell w) where
  pub record AfterMove (m : Move) : Type 0 where
    pub told : AreTold (lines_of number m)
    pub will_tell : AllWillTell (moved w m).world

  went : (other : ℕ) (peer : Peer) (bytes : List ℕ) (g : Gone) → HasTold g → AfterMove (GoesOn other peer bytes g)
  went other peer bytes g has = record {
    told = told_if (number == other) g.lines has.told;
    will_tell = λ q. will_if (q == other) (record { next = g.next; at = g.at; unread = g.unread; peer = peer }) (w.places q) has.will_tell (tells q);
  }

  executed_apart : (did : Administered) → AfterMove (Executes did)
  executed_apart did = record {
    told = subst (λ (test : Bool). AreTold (if test then did.lines else [])) (sym (ne_eqb number 0 is_session)) tt;
    will_tell = tells;
  }

  pub after_doing : (doing : Doing) → AfterMove (move w doing)
  after_doing doing = of_doing w AfterMove (record {
    sets = λ common same. record { told = tt; will_tell = tells };
    executes = λ statement. executed_apart (administered w.common statement);
    idles = λ other. record { told = told_if (number == other) (Idle ∷ []) tt; will_tell = tells };
    opens = λ other e. went other Open [] (going Open Nothing w.common 0 (session other) no_bytes)
        (going_told Open Nothing w.common 0 (session other) no_bytes (session_tells other));
    goes = λ other place peer calls bytes e ready. went other peer bytes (going peer calls w.common place.next place.at (with_more place.unread bytes))
        (going_told peer calls w.common place.next place.at (with_more place.unread bytes) (subst (λ (found : Option Place). WillTell found) e (tells other)));
  }) doing

told_all : (number : ℕ) → number ≢ 0 → (w : World) (doings : List Doing) → AllWillTell w → AreTold (session_lines number w doings)
told_all number is_session w [] tells = tt
told_all number is_session w (first ∷ doings) tells =
    let x = after_doing number is_session w tells first in
    told_append (lines_of number (move w first)) (session_lines number (does w first).world doings) x.told
    (told_all number is_session (does w first).world doings x.will_tell)

pub replies_are_told : RepliesAreTold
replies_are_told openings settings events number is_session =
    let r : Replay = new_replay openings settings in
    subst (λ (lines : List Line). AreTold lines) (sym ((events_are_done r events).each_is number))
    (told_all number is_session r.world (all_doings r events) (λ other. tt))
