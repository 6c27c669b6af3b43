-- After any doings the history is legal, and its entries are those that are printed.
use Rattle.std.proofs.Common.{◌≡◌, refl, ap, sym, ◌∙◌, subst, ℕ, ◌+◌, List, [], ◌∷◌, ◌++◌, length, length-append, append-nil, append_assoc, arith}
use Rattle.packet_frame.specs.Front.{Front, Whole, Part, Fault}
use Rattle.packet_frame.specs.Packets.{id_after}
use Rattle.packet_frame.specs.declared.packets.FrameFault.{FrameFault}
use Rattle.packet_frame.specs.declared.packets.FrameFault.TheVariants.{TooLarge, OutOfOrder, Memory as NoMemory}
use Rattle.account_history.specs.Histories.{history, noted}
use Rattle.account_history.specs.Legal.{IsLegal}
use Rattle.account_history.specs.declared.entries.Entry.{Entry}
use Rattle.account_history.specs.declared.entries.Entry.TheVariants.{Executed, Observed}
use Rattle.account_history.specs.declared.entries.Log.{Log}
use Rattle.interaction.specs.Talk.{Got, Says, Hears, Asks, Over}
use Rattle.session_talk.specs.Talk.{Begins, Own, SessionTalk}
use Rattle.session_talk.specs.Logins.{faulted}
use Rattle.session_talk.specs.Turns.{wanted}
use Rattle.session_talk.specs.declared.actions.Ask.TheVariants as ask
use Rattle.session_talk.specs.declared.inputs.Input.TheVariants as input
use Rattle.packet_stream.specs.Sent.{id_behind}
use Rattle.packet_stream.specs.Streams.{Stream, behind_of, by_front, front_of}
use Rattle.session_world.specs.declared.calls.Calls.{Calls}
use Rattle.session_world.specs.declared.calls.Peer.{Peer}
use Rattle.session_world.specs.declared.calls.Peer.TheVariants.{Open, Closed, Failed}
use Rattle.session_talk.specs.Statements.{no_salt}
use Rattle.stmt_rules.specs.declared.statement.Statement.{Statement}
use Rattle.world_table.specs.Drawing.{drawn_nonce}
use Rattle.world_table.specs.Statements.{executed, with_execution}
use Rattle.session_world.specs.Going.{Gone, closing, going, spent, unread_by}
use Rattle.world_table.specs.Table.{Common, attempted, is_stale, next_number, replied, seen, with_draw, with_entry}
use Rattle.world_table.specs.Printing.{Adds, Ends, Idle, Line, Sends, Stale}
use Rattle.session_world.specs.Lines.{Numbered, entries_in, numbered_in}
use Rattle.session_world.specs.Transcripts.{DoingsAreLegal, all_lines, lines_in, numbered}
use Rattle.session_world.specs.Worlds.{Doing, Move, World, after_all, does, move, moved, new_world}
use Rattle.session_world.proofs.Administering.{administered_writes, is_answered}
use Rattle.session_world.proofs.Extending.{Extends, one, unchanged, with_same}
use Rattle.session_world.proofs.Idling.{if_allowed_is, if_is}
use Rattle.session_world.proofs.Moving.{of_doing}

abbrev Writes : Common → Gone → Type 0
Writes c g = Extends c.log g.lines g.common.log

closing_writes : (c : Common) (next : ℕ) (fault : FrameFault) (stream : Stream) → Writes c (closing c next (faulted fault) stream)
unfolding closing
closing_writes c next (TooLarge at) stream = unchanged c.log _ refl refl
closing_writes c next (OutOfOrder at want got) stream = unchanged c.log _ refl refl
closing_writes c next NoMemory stream = unchanged c.log _ refl refl

unread_writes : (peer : Peer) (c : Common) (next : ℕ) (t : SessionTalk) (stream : Stream) → Writes c (unread_by peer c next t stream)
unread_writes Open c next t stream = unchanged c.log [] refl refl
unread_writes Closed c next t stream = unchanged c.log _ refl refl
unread_writes Failed c next t stream = unchanged c.log _ refl refl

-- a statement is executed first
executing_writes : (c : Common) (statement : Statement) (salt : List ℕ) (actor : ℕ) (lines : List Line) (after : Log) →
    Extends (noted c.log (Executed (executed c statement salt actor))) lines after →
    Extends c.log (Adds (next_number c) (Executed (executed c statement salt actor)) ∷ lines) after
executing_writes c statement salt actor lines after x =
    one c.log (Executed (executed c statement salt actor)) lines after (is_answered c statement salt actor) x

going_writes : (peer : Peer) (calls : Calls) (c : Common) (next : ℕ) (t : SessionTalk) (stream : Stream) → Writes c (going peer calls c next t stream)
unfolding going
going_writes peer calls c next (Says payload t) stream = with_same c.log _ _ _ refl refl (going_writes peer calls c (id_behind next payload) t stream)
going_writes peer calls c next (Hears anew k) stream =
    by_shown (λ last payload s. going_writes peer calls c (id_after last) (k (Got payload)) s) (front_of (wanted anew next) stream)
  where
    by_shown : ((last : ℕ) (payload : List ℕ) (s : Stream) → Writes c (going peer calls c (id_after last) (k (Got payload)) s)) → (f : Front) →
        Writes c (by_front (λ last payload behind. going peer calls c (id_after last) (k (Got payload)) (behind_of stream behind))
        (unread_by peer c next (Hears anew k) stream) (λ fault. closing c (id_after (wanted anew next)) (faulted fault) stream) f)
    by_shown again (Whole first last payload behind) = again last payload (behind_of stream behind)
    by_shown again (Part missing) = unread_writes peer c next (Hears anew k) stream
    by_shown again (Fault fault) = closing_writes c (id_after (wanted anew next)) fault stream
going_writes peer calls c next (Asks Begins k) stream = going_writes peer calls (with_draw c) next (k (input.Start (drawn_nonce (c.drawn + 1)))) stream
going_writes peer calls c next (Asks (Own ask.Draw) k) stream = going_writes peer calls (with_draw c) next (k (input.Drawn (drawn_nonce (c.drawn + 1)))) stream
going_writes peer calls c next (Asks (Own (ask.Observe who)) k) stream =
    if_allowed_is (Writes c) calls _ _
    (one c.log (Observed who (seen c who)) _ _ refl (going_writes peer (spent calls) (with_entry c (Observed who (seen c who))) next (k (input.Looked (seen c who))) stream))
    (unchanged c.log [] refl refl)
going_writes peer calls c next (Asks (Own (ask.Renew who)) k) stream =
    if_allowed_is (Writes c) calls _ _
    (one c.log (Observed who (seen c who)) _ _ refl (going_writes peer (spent calls) (with_entry c (Observed who (seen c who))) next (k (input.Looked (seen c who))) stream))
    (unchanged c.log [] refl refl)
going_writes peer calls c next (Asks (Own (ask.Check look evidences)) k) stream =
    going_writes peer calls c next (k (input.Checked (record { look = look; evidences = evidences }))) stream
going_writes peer calls c next (Asks (Own (ask.Settle checked flags)) k) stream =
    if_allowed_is (Writes c) calls _ _
    (if_is (Writes c) (is_stale c checked.look) _ _
    (with_same c.log _ _ _ refl refl (going_writes peer (spent calls) c next (k (input.Stale checked.evidences)) stream))
    (one c.log (attempted c checked.look.user checked.evidences flags) _ _ refl
    (going_writes peer (spent calls) (with_entry c (attempted c checked.look.user checked.evidences flags)) next
    (k (input.Settled (replied c checked.look.user checked.evidences flags))) stream)))
    (unchanged c.log [] refl refl)
going_writes peer calls c next (Asks (Own (ask.SettleLocked user evidences flags)) k) stream =
    if_allowed_is (Writes c) calls _ _
    (one c.log (attempted c user evidences flags) _ _ refl
    (going_writes peer (spent calls) (with_entry c (attempted c user evidences flags)) next (k (input.Settled (replied c user evidences flags))) stream))
    (unchanged c.log [] refl refl)
going_writes peer calls c next (Asks (Own (ask.Prepare look statement salt actor)) k) stream =
    going_writes peer calls c next (k (input.Prepared (record { look = look; statement = statement; salt = salt; actor = actor }))) stream
going_writes peer calls c next (Asks (Own (ask.Commit prepared actor)) k) stream =
    if_allowed_is (Writes c) calls _ _
    (if_is (Writes c) (is_stale c prepared.look) _ _
    (with_same c.log _ _ _ refl refl (going_writes peer (spent calls) c next (k (input.StaleStatement prepared.statement)) stream))
    (executing_writes c prepared.statement prepared.salt actor _ _
    (going_writes peer (spent calls) (with_execution c (executed c prepared.statement prepared.salt actor)) next
    (k (input.Ran (executed c prepared.statement prepared.salt actor).reply)) stream)))
    (unchanged c.log [] refl refl)
going_writes peer calls c next (Asks (Own (ask.CommitLocked statement salt actor)) k) stream =
    if_allowed_is (Writes c) calls _ _
    (executing_writes c statement salt actor _ _
    (going_writes peer (spent calls) (with_execution c (executed c statement salt actor)) next (k (input.Ran (executed c statement salt actor).reply)) stream))
    (unchanged c.log [] refl refl)
going_writes peer calls c next (Asks (Own (ask.CommitPlain statement actor)) k) stream =
    if_allowed_is (Writes c) calls _ _
    (executing_writes c statement no_salt actor _ _
    (going_writes peer (spent calls) (with_execution c (executed c statement no_salt actor)) next
    (k (input.Ran (executed c statement no_salt actor).reply)) stream))
    (unchanged c.log [] refl refl)
going_writes peer calls c next (Asks _ k) stream = unchanged c.log [] refl refl
going_writes peer calls c next (Over how) stream = unchanged c.log _ refl refl

-- ## Over doings

pub entries_append : (lines more : List Line) → entries_in (lines ++ more) ≡ entries_in lines ++ entries_in more
entries_append [] more = refl
entries_append (Sends sent ∷ lines) more = entries_append lines more
entries_append (Adds number entry ∷ lines) more = ap (λ (rest : List Entry). entry ∷ rest) (entries_append lines more)
entries_append (Stale ∷ lines) more = entries_append lines more
entries_append (Ends how ∷ lines) more = entries_append lines more
entries_append (Idle ∷ lines) more = entries_append lines more

numbered_in_append : (lines more : List Line) → numbered_in (lines ++ more) ≡ numbered_in lines ++ numbered_in more
numbered_in_append [] more = refl
numbered_in_append (Sends sent ∷ lines) more = numbered_in_append lines more
numbered_in_append (Adds number entry ∷ lines) more =
    ap (λ (rest : List Numbered). record { number = number; entry = entry } ∷ rest) (numbered_in_append lines more)
numbered_in_append (Stale ∷ lines) more = numbered_in_append lines more
numbered_in_append (Ends how ∷ lines) more = numbered_in_append lines more
numbered_in_append (Idle ∷ lines) more = numbered_in_append lines more

numbered_append : (first : ℕ) (entries more : List Entry) → numbered first (entries ++ more) ≡ numbered first entries ++ numbered (first + length entries) more
numbered_append first [] more = ap (λ (n : ℕ). numbered n more) (let same : first ≡ first + 0 = omega arith in same)
numbered_append first (entry ∷ entries) more =
    ap (λ (rest : List Numbered). record { number = first; entry = entry } ∷ rest)
    (numbered_append (first + 1) entries more
    ∙ ap (λ (n : ℕ). numbered (first + 1) entries ++ numbered n more) (moved_on first entries))
  where
    moved_on : (n : ℕ) (es : List Entry) → n + 1 + length es ≡ n + length (entry ∷ es)
    moved_on n es = omega arith

both : (before : Log) (lines : List Line) (between : Log) (more : List Line) (after : Log) →
    Extends before lines between → Extends between more after → Extends before (lines ++ more) after
both before lines between more after x y = record {
  starts = y.starts ∙ x.starts;
  entries = y.entries
      ∙ ap (λ (es : List Entry). es ++ entries_in more) x.entries
      ∙ append_assoc before.entries (entries_in lines) (entries_in more)
      ∙ ap (λ (es : List Entry). before.entries ++ es) (sym (entries_append lines more));
  numbers = numbered_in_append lines more
      ∙ ap (λ (ns : List Numbered). ns ++ numbered_in more) x.numbers
      ∙ ap (λ (ns : List Numbered). numbered (length before.entries + 1) (entries_in lines) ++ ns) (y.numbers ∙ ap (λ (n : ℕ). numbered n (entries_in more)) count)
      ∙ sym (numbered_append (length before.entries + 1) (entries_in lines) (entries_in more))
      ∙ ap (λ (es : List Entry). numbered (length before.entries + 1) es) (sym (entries_append lines more));
  legal = λ l. y.legal (x.legal l);
}
  where
    counted : (es fs : List Entry) → between.entries ≡ es ++ fs → length between.entries + 1 ≡ length es + 1 + length fs
    counted es fs e = let long : length between.entries ≡ length (es ++ fs) = ap (λ (gs : List Entry). length gs) e in
        let whole : length (es ++ fs) ≡ length es + length fs = length-append es fs in omega (arith, long, whole)

    count : length between.entries + 1 ≡ length before.entries + 1 + length (entries_in lines)
    count = counted before.entries (entries_in lines) x.entries

abbrev MoveWrites : World → Move → Type 0
MoveWrites w m = Extends w.common.log (lines_in m) (moved w m).world.common.log

doing_writes : (w : World) (doing : Doing) → Extends w.common.log (lines_in (move w doing)) (does w doing).world.common.log
doing_writes w doing =
    of_doing w (MoveWrites w) (record {
      sets = λ common same. subst (λ (log : Log). Extends w.common.log [] log) (sym same) (unchanged w.common.log [] refl refl);
      executes = λ statement. administered_writes w.common statement;
      idles = λ number. unchanged w.common.log (Idle ∷ []) refl refl;
      opens = λ number e. going_writes _ _ w.common _ _ _;
      goes = λ number place peer calls bytes e ready. going_writes peer calls w.common place.next place.at _;
    }) doing

doings_write : (w : World) (doings : List Doing) → Extends w.common.log (all_lines w doings) (after_all w doings).common.log
doings_write w [] = unchanged w.common.log [] refl refl
doings_write w (first ∷ doings) =
    both w.common.log (lines_in (move w first)) (does w first).world.common.log (all_lines (does w first).world doings) _
    (doing_writes w first) (doings_write (does w first).world doings)

pub histories_are_legal : DoingsAreLegal
histories_are_legal openings settings doings =
    let w : World = new_world openings settings in
    let x : Extends w.common.log (all_lines w doings) (after_all w doings).common.log = doings_write w doings in
    record {
      starts = x.starts;
      printed = x.numbers ∙ ap (λ (es : List Entry). numbered 1 es) (sym x.entries);
      legal = x.legal tt;
    }
