-- A session that goes on sends and enters what is owed over its bytes and what its own side is answered.
use Rattle.std.proofs.Common.{◌≡◌, refl, ap, sym, ◌∙◌, subst, IsTrue, ℕ, ◌+◌, ◌⊎◌, inl, inr, Bool, if◌then◌else◌, List, [], ◌∷◌, ◌++◌, length, Option, Some, None, option_to_list}
use Rattle.packet_frame.specs.Front.{Front, Whole, Part, Fault}
use Rattle.packet_frame.specs.Packets.{id_after}
use Rattle.packet_frame.specs.declared.packets.FrameFault.{FrameFault}
use Rattle.packet_frame.specs.declared.packets.FrameFault.TheVariants.{TooLarge, OutOfOrder, Memory as NoMemory}
use Rattle.packet_frame.specs.declared.packets.Packet.{Packet}
use Rattle.account_history.specs.declared.entries.Entry.{Entry}
use Rattle.account_history.specs.declared.entries.Execution.{Execution}
use Rattle.account_history.specs.declared.entries.Entry.TheVariants.{Executed, Observed}
use Rattle.session_talk.specs.declared.ends.SessionEnd.{SessionEnd}
use Rattle.session_talk.specs.declared.actions.Ask.TheVariants as ask
use Rattle.session_talk.specs.declared.inputs.Input.{Input}
use Rattle.session_talk.specs.declared.inputs.Input.TheVariants as input
use Rattle.packet_stream.specs.Sent.{Sent, id_behind}
use Rattle.interaction.specs.Talk as talk
use Rattle.interaction.specs.Talk.{Got, Says, Hears, Asks, Over}
use Rattle.session_talk.specs.Talk.{Begins, Own, Question, SessionTalk}
use Rattle.session_talk.specs.Transcript.{Enters, Reading, after_packet, by_packet, ended, read_of}
use Rattle.session_talk.specs.Logins.{faulted}
use Rattle.session_talk.specs.Turns.{Adds, IsFitting, takes, wanted}
use Rattle.session_talk.specs.Wired as wiring
use Rattle.session_talk.specs.Wired.{Wired, after_sent, said_from, wired}
use Rattle.packet_stream.specs.Streams.{Stream, behind_of, by_front, front_of}
use Rattle.both_ends.specs.Meeting.{AreNonces, HasWholeNonce}
use Rattle.session_world.specs.declared.calls.Calls.{Calls}
use Rattle.session_world.specs.declared.calls.Peer.{Peer}
use Rattle.session_world.specs.declared.calls.Peer.TheVariants.{Open, Closed, Failed}
use Rattle.session_talk.specs.Statements.{no_salt}
use Rattle.world_table.specs.Drawing.{drawn_nonce}
use Rattle.world_table.specs.Statements.{executed, with_execution}
use Rattle.session_world.specs.Going.{Gone, closing, going, spent, stops, unread_by}
use Rattle.world_table.specs.Printing as line
use Rattle.world_table.specs.Printing.{Line}
use Rattle.world_table.specs.Table.{Common, attempted, is_stale, next_number, replied, seen, with_draw, with_entry}
use Rattle.session_world.specs.Lines.{ends_in, entries_in, sends_in}
use Rattle.session_world.specs.Transcripts.{as_told}
use Rattle.session_world.proofs.Idling.{if_allowed_is, if_is}
use Rattle.session_world.proofs.Moving.{asks_wait}

-- a session stands where what is owed leaves it, and nothing is unused
pub record IsLive (w : Wired) (next : ℕ) (at : SessionTalk) (unread : Stream) : Type 0 where
  pub next_is : w.next ≡ next
  pub at_is : w.at ≡ at
  pub unread_is : w.unread ≡ unread
  pub unused_is : w.unused ≡ []

abbrev pub IsOver : SessionTalk → Type 0
IsOver (Over how) = Unit {0}
IsOver t = ⊥

-- by the packets that are read and what is owed, for all that its own side may be answered
pub record Goes (peer : Peer) (t : SessionTalk) (read : List Input → List Packet) (owed : List Input → Wired) (g : Gone) : Type 0 where
  pub owns : List Input
  pub nonces : AreNonces owns
  pub entered : Enters t (read owns) owns (entries_in g.lines)
  pub sends : sends_in g.lines ≡ (owed owns).sent
  pub ends : ends_in g.lines ≡ option_to_list (ended (as_told peer) (owed owns).at (owed owns).unread)
  pub stands : IsLive (owed owns) g.next g.at g.unread ⊎ IsOver g.at

-- a nonce that is drawn has 20 bytes
nonce_long : (number : ℕ) → length (drawn_nonce number) ≡ 20
unfolding drawn_nonce
nonce_long number = refl

-- what came of going on is owed
abbrev pub GoesAsOwed : Peer → (next : ℕ) → SessionTalk → Stream → Gone → Type 0
GoesAsOwed peer next t stream g = Goes peer t (λ owns. (read_of next t stream owns).packets) (λ owns. wired next t stream owns) g

-- a session waits
waiting : (peer : Peer) (c : Common) (next : ℕ) (t : SessionTalk) (stream : Stream) →
    wired next t stream [] ≡ wiring.stops next t stream [] → Enters t (read_of next t stream []).packets [] [] →
    ended (as_told peer) t stream ≡ None → GoesAsOwed peer next t stream (stops c next t stream)
waiting peer c next t stream e entered waits = record {
  owns = [];
  nonces = tt;
  entered = entered;
  sends = ap (λ (w : Wired). w.sent) (sym e);
  ends = ap (λ (how : Option SessionEnd). option_to_list how) (sym waits)
      ∙ ap (λ (w : Wired). option_to_list (ended (as_told peer) w.at w.unread)) (sym e);
  stands = inl (record {
    next_is = ap (λ (w : Wired). w.next) e;
    at_is = ap (λ (w : Wired). w.at) e;
    unread_is = ap (λ (w : Wired). w.unread) e;
    unused_is = ap (λ (w : Wired). w.unused) e;
  });
}

over_ended : (peer : Peer) (how : SessionEnd) (stream : Stream) → ended (as_told peer) (Over how) stream ≡ Some how
over_ended Open how stream = refl
over_ended Closed how stream = refl
over_ended Failed how stream = refl

ends_over : (peer : Peer) (how : SessionEnd) (stream : Stream) → how ∷ [] ≡ option_to_list (ended (as_told peer) (Over how) stream)
ends_over peer how stream = ap (λ (e : Option SessionEnd). option_to_list e) (sym (over_ended peer how stream))

-- a payload is sent first
live_sent : (first : Sent) (w : Wired) (next : ℕ) (at : SessionTalk) (unread : Stream) → IsLive w next at unread → IsLive (after_sent first w) next at unread
live_sent first w next at unread l = record { next_is = l.next_is; at_is = l.at_is; unread_is = l.unread_is; unused_is = l.unused_is }

stands_sent : (first : Sent) (w : Wired) (g : Gone) → IsLive w g.next g.at g.unread ⊎ IsOver g.at → IsLive (after_sent first w) g.next g.at g.unread ⊎ IsOver g.at
stands_sent first w g (inl l) = inl (live_sent first w g.next g.at g.unread l)
stands_sent first w g (inr o) = inr o

module _ (peer : Peer) (calls : Calls) (c : Common) (next : ℕ) (anew : Bool) (k : talk.Reading → SessionTalk) (stream : Stream) where
  abbrev read_at : List Input → Front → Reading
  read_at owns f = by_packet (λ packet behind. after_packet packet (read_of (id_after packet.last) (k (Got packet.payload)) behind owns)) stream f

  abbrev wired_at : List Input → Front → Wired
  wired_at owns f = by_front (λ last payload behind. wired (id_after last) (k (Got payload)) (behind_of stream behind) owns)
      (wiring.stops next (Hears anew k) stream owns) (λ fault. said_from (id_after (wanted anew next)) (faulted fault) stream owns) f

  abbrev gone_at : Front → Gone
  gone_at f = by_front (λ last payload behind. going peer calls c (id_after last) (k (Got payload)) (behind_of stream behind))
      (unread_by peer c next (Hears anew k) stream) (λ fault. closing c (id_after (wanted anew next)) (faulted fault) stream) f

  abbrev GoesAt : Front → Gone → Type 0
  GoesAt f g = Goes peer (Hears anew k) (λ owns. (read_at owns f).packets) (λ owns. wired_at owns f) g

  unread_goes : (how : Peer) (missing : ℕ) →
      Goes how (Hears anew k) (λ owns. (read_at owns (Part missing)).packets) (λ owns. wired_at owns (Part missing)) (unread_by how c next (Hears anew k) stream)
  unfolding Enters
  unread_goes Open missing = record {
    owns = [];
    nonces = tt;
    entered = (refl, refl);
    sends = refl;
    ends = refl;
    stands = inl (record { next_is = refl; at_is = refl; unread_is = refl; unused_is = refl });
  }
  unread_goes Closed missing = record { owns = []; nonces = tt; entered = (refl, refl); sends = refl; ends = refl; stands = inr tt }
  unread_goes Failed missing = record { owns = []; nonces = tt; entered = (refl, refl); sends = refl; ends = refl; stands = inr tt }

  fault_goes : (fault : FrameFault) → GoesAt (Fault fault) (closing c (id_after (wanted anew next)) (faulted fault) stream)
  unfolding closing said_from Enters
  fault_goes (TooLarge at) = record { owns = []; nonces = tt; entered = (refl, refl); sends = refl; ends = ends_over peer _ stream; stands = inr tt }
  fault_goes (OutOfOrder at want got) = record { owns = []; nonces = tt; entered = (refl, refl); sends = refl; ends = ends_over peer _ stream; stands = inr tt }
  fault_goes NoMemory = record { owns = []; nonces = tt; entered = (refl, refl); sends = refl; ends = ends_over peer _ stream; stands = inr tt }

  by_shown : ((last : ℕ) (payload : List ℕ) (s : Stream) → GoesAsOwed peer (id_after last) (k (Got payload)) s (going peer calls c (id_after last) (k (Got payload)) s)) →
      (f : Front) → GoesAt f (gone_at f)
  unfolding Enters
  by_shown again (Whole first last payload behind) =
      let x : GoesAsOwed peer (id_after last) (k (Got payload)) (behind_of stream behind) (going peer calls c (id_after last) (k (Got payload)) (behind_of stream behind)) =
      again last payload (behind_of stream behind) in
      record { owns = x.owns; nonces = x.nonces; entered = x.entered; sends = x.sends; ends = x.ends; stands = x.stands }
  by_shown again (Part missing) = unread_goes peer missing
  by_shown again (Fault fault) = fault_goes fault

-- an answer that a question takes: what it adds is entered, and nothing is sent
module _ (peer : Peer) (next : ℕ) (q : Question) (k : Input → SessionTalk) (stream : Stream) (given : Input) (is : IsTrue (takes q given)) where
  taken_read : (owns : List Input) → read_of next (Asks q k) stream (given ∷ owns) ≡ read_of next (k given) stream owns
  unfolding read_of
  taken_read owns = ap (λ (b : Bool). if b then read_of next (k given) stream owns else record { packets = []; left = stream }) is

  taken_wired : (owns : List Input) → wired next (Asks q k) stream (given ∷ owns) ≡ wired next (k given) stream owns
  unfolding wired
  taken_wired owns = ap (λ (b : Bool). if b then wired next (k given) stream owns else wiring.stops next (Asks q k) stream (given ∷ owns)) is

  answer_goes : (added : List Entry) (lines : List Line) (g : Gone) → HasWholeNonce given →
      IsFitting q given → Adds q given added → entries_in lines ≡ added ++ entries_in g.lines → sends_in lines ≡ sends_in g.lines → ends_in lines ≡ ends_in g.lines →
      GoesAsOwed peer next (k given) stream g → GoesAsOwed peer next (Asks q k) stream (record g { lines = lines })
  unfolding Enters
  answer_goes added lines g whole fits adds joined sends ends x = record {
    owns = given ∷ x.owns;
    nonces = (whole, x.nonces);
    entered = (
      added,
      entries_in g.lines,
      is,
      fits,
      adds,
      joined,
      subst (λ (r : Reading). Enters (k given) r.packets x.owns (entries_in g.lines)) (sym (taken_read x.owns)) x.entered,
    );
    sends = sends ∙ (x.sends ∙ ap (λ (w : Wired). w.sent) (sym (taken_wired x.owns)));
    ends = ends ∙ (x.ends ∙ ap (λ (w : Wired). option_to_list (ended (as_told peer) w.at w.unread)) (sym (taken_wired x.owns)));
    stands = subst (λ (w : Wired). IsLive w g.next g.at g.unread ⊎ IsOver g.at) (sym (taken_wired x.owns)) x.stands;
  }

-- a question that isn't answered yet
question_waits : (peer : Peer) (c : Common) (next : ℕ) (q : Question) (k : Input → SessionTalk) (stream : Stream) →
    GoesAsOwed peer next (Asks q k) stream (stops c next (Asks q k) stream)
unfolding wired read_of Enters
question_waits peer c next q k stream = waiting peer c next (Asks q k) stream refl (refl, refl) (asks_wait peer q k stream)

pub goes_as_owed : (peer : Peer) (calls : Calls) (c : Common) (next : ℕ) (t : SessionTalk) (stream : Stream) →
    GoesAsOwed peer next t stream (going peer calls c next t stream)
unfolding going wired read_of Enters
goes_as_owed peer calls c next (Says payload t) stream =
    let x : GoesAsOwed peer (id_behind next payload) t stream (going peer calls c (id_behind next payload) t stream) =
    goes_as_owed peer calls c (id_behind next payload) t stream in
    record {
      owns = x.owns;
      nonces = x.nonces;
      entered = x.entered;
      sends = ap (λ (rest : List Sent). record { first = next; payload = payload } ∷ rest) x.sends;
      ends = x.ends;
      stands = stands_sent (record { first = next; payload = payload }) (wired (id_behind next payload) t stream x.owns)
          (going peer calls c (id_behind next payload) t stream) x.stands;
    }
goes_as_owed peer calls c next (Hears anew k) stream =
    by_shown peer calls c next anew k stream (λ last payload s. goes_as_owed peer calls c (id_after last) (k (Got payload)) s) (front_of (wanted anew next) stream)
goes_as_owed peer calls c next (Asks Begins k) stream =
    let given : Input = input.Start (drawn_nonce (c.drawn + 1)) in
    let g : Gone = going peer calls (with_draw c) next (k given) stream in
    answer_goes peer next Begins k stream given refl [] g.lines g (nonce_long (c.drawn + 1)) tt refl refl refl refl
    (goes_as_owed peer calls (with_draw c) next (k given) stream)
goes_as_owed peer calls c next (Asks (Own ask.Draw) k) stream =
    let given : Input = input.Drawn (drawn_nonce (c.drawn + 1)) in
    let g : Gone = going peer calls (with_draw c) next (k given) stream in
    answer_goes peer next (Own ask.Draw) k stream given refl [] g.lines g (nonce_long (c.drawn + 1)) tt refl refl refl refl
    (goes_as_owed peer calls (with_draw c) next (k given) stream)
goes_as_owed peer calls c next (Asks (Own (ask.Observe who)) k) stream =
    let given : Input = input.Looked (seen c who) in
    let entry : Entry = Observed who (seen c who) in
    let g : Gone = going peer (spent calls) (with_entry c entry) next (k given) stream in
    if_allowed_is (GoesAsOwed peer next (Asks (Own (ask.Observe who)) k) stream) calls _ _
    (answer_goes peer next (Own (ask.Observe who)) k stream given refl (entry ∷ []) (line.Adds (next_number c) entry ∷ g.lines) g tt tt refl refl refl refl
    (goes_as_owed peer (spent calls) (with_entry c entry) next (k given) stream))
    (question_waits peer c next (Own (ask.Observe who)) k stream)
goes_as_owed peer calls c next (Asks (Own (ask.Renew who)) k) stream =
    let given : Input = input.Looked (seen c who) in
    let entry : Entry = Observed who (seen c who) in
    let g : Gone = going peer (spent calls) (with_entry c entry) next (k given) stream in
    if_allowed_is (GoesAsOwed peer next (Asks (Own (ask.Renew who)) k) stream) calls _ _
    (answer_goes peer next (Own (ask.Renew who)) k stream given refl (entry ∷ []) (line.Adds (next_number c) entry ∷ g.lines) g tt tt refl refl refl refl
    (goes_as_owed peer (spent calls) (with_entry c entry) next (k given) stream))
    (question_waits peer c next (Own (ask.Renew who)) k stream)
goes_as_owed peer calls c next (Asks (Own (ask.Check look evidences)) k) stream =
    let given : Input = input.Checked (record { look = look; evidences = evidences }) in
    let g : Gone = going peer calls c next (k given) stream in
    answer_goes peer next (Own (ask.Check look evidences)) k stream given refl [] g.lines g tt refl refl refl refl refl
    (goes_as_owed peer calls c next (k given) stream)
goes_as_owed peer calls c next (Asks (Own (ask.Settle checked flags)) k) stream =
    let late : Input = input.Stale checked.evidences in
    let g : Gone = going peer (spent calls) c next (k late) stream in
    let given : Input = input.Settled (replied c checked.look.user checked.evidences flags) in
    let entry : Entry = attempted c checked.look.user checked.evidences flags in
    let h : Gone = going peer (spent calls) (with_entry c entry) next (k given) stream in
    if_allowed_is (GoesAsOwed peer next (Asks (Own (ask.Settle checked flags)) k) stream) calls _ _
    (if_is (GoesAsOwed peer next (Asks (Own (ask.Settle checked flags)) k) stream) (is_stale c checked.look) _ _
    (answer_goes peer next (Own (ask.Settle checked flags)) k stream late refl [] (line.Stale ∷ g.lines) g tt refl refl refl refl refl
    (goes_as_owed peer (spent calls) c next (k late) stream))
    (answer_goes peer next (Own (ask.Settle checked flags)) k stream given refl (entry ∷ []) (line.Adds (next_number c) entry ∷ h.lines) h tt
    tt (c.clock, refl) refl refl refl (goes_as_owed peer (spent calls) (with_entry c entry) next (k given) stream)))
    (question_waits peer c next (Own (ask.Settle checked flags)) k stream)
goes_as_owed peer calls c next (Asks (Own (ask.SettleLocked user evidences flags)) k) stream =
    let given : Input = input.Settled (replied c user evidences flags) in
    let entry : Entry = attempted c user evidences flags in
    let g : Gone = going peer (spent calls) (with_entry c entry) next (k given) stream in
    if_allowed_is (GoesAsOwed peer next (Asks (Own (ask.SettleLocked user evidences flags)) k) stream) calls _ _
    (answer_goes peer next (Own (ask.SettleLocked user evidences flags)) k stream given refl (entry ∷ []) (line.Adds (next_number c) entry ∷ g.lines) g
    tt tt (c.clock, refl) refl refl refl (goes_as_owed peer (spent calls) (with_entry c entry) next (k given) stream))
    (question_waits peer c next (Own (ask.SettleLocked user evidences flags)) k stream)
goes_as_owed peer calls c next (Asks (Own (ask.Prepare look statement salt actor)) k) stream =
    let given : Input = input.Prepared (record { look = look; statement = statement; salt = salt; actor = actor }) in
    let g : Gone = going peer calls c next (k given) stream in
    answer_goes peer next (Own (ask.Prepare look statement salt actor)) k stream given refl [] g.lines g tt refl refl refl refl refl
    (goes_as_owed peer calls c next (k given) stream)
goes_as_owed peer calls c next (Asks (Own (ask.Commit prepared actor)) k) stream =
    let late : Input = input.StaleStatement prepared.statement in
    let g : Gone = going peer (spent calls) c next (k late) stream in
    let execution : Execution = executed c prepared.statement prepared.salt actor in
    let given : Input = input.Ran execution.reply in
    let h : Gone = going peer (spent calls) (with_execution c execution) next (k given) stream in
    if_allowed_is (GoesAsOwed peer next (Asks (Own (ask.Commit prepared actor)) k) stream) calls _ _
    (if_is (GoesAsOwed peer next (Asks (Own (ask.Commit prepared actor)) k) stream) (is_stale c prepared.look) _ _
    (answer_goes peer next (Own (ask.Commit prepared actor)) k stream late refl [] (line.Stale ∷ g.lines) g tt refl refl refl refl refl
    (goes_as_owed peer (spent calls) c next (k late) stream))
    (answer_goes peer next (Own (ask.Commit prepared actor)) k stream given refl (Executed execution ∷ [])
    (line.Adds (next_number c) (Executed execution) ∷ h.lines) h tt
    tt (execution.reading, execution.count, execution.called, execution.failed, refl) refl refl refl
    (goes_as_owed peer (spent calls) (with_execution c execution) next (k given) stream)))
    (question_waits peer c next (Own (ask.Commit prepared actor)) k stream)
goes_as_owed peer calls c next (Asks (Own (ask.CommitLocked statement salt actor)) k) stream =
    let execution : Execution = executed c statement salt actor in
    let given : Input = input.Ran execution.reply in
    let g : Gone = going peer (spent calls) (with_execution c execution) next (k given) stream in
    if_allowed_is (GoesAsOwed peer next (Asks (Own (ask.CommitLocked statement salt actor)) k) stream) calls _ _
    (answer_goes peer next (Own (ask.CommitLocked statement salt actor)) k stream given refl (Executed execution ∷ [])
    (line.Adds (next_number c) (Executed execution) ∷ g.lines) g
    tt tt (execution.reading, execution.count, execution.called, execution.failed, refl) refl refl refl
    (goes_as_owed peer (spent calls) (with_execution c execution) next (k given) stream))
    (question_waits peer c next (Own (ask.CommitLocked statement salt actor)) k stream)
goes_as_owed peer calls c next (Asks (Own (ask.CommitPlain statement actor)) k) stream =
    let execution : Execution = executed c statement no_salt actor in
    let given : Input = input.Ran execution.reply in
    let g : Gone = going peer (spent calls) (with_execution c execution) next (k given) stream in
    if_allowed_is (GoesAsOwed peer next (Asks (Own (ask.CommitPlain statement actor)) k) stream) calls _ _
    (answer_goes peer next (Own (ask.CommitPlain statement actor)) k stream given refl (Executed execution ∷ [])
    (line.Adds (next_number c) (Executed execution) ∷ g.lines) g
    tt tt (execution.reading, execution.count, execution.called, execution.failed, refl) refl refl refl
    (goes_as_owed peer (spent calls) (with_execution c execution) next (k given) stream))
    (question_waits peer c next (Own (ask.CommitPlain statement actor)) k stream)
goes_as_owed peer calls c next (Asks q k) stream = question_waits peer c next q k stream
goes_as_owed peer calls c next (Over how) stream =
    record { owns = []; nonces = tt; entered = (refl, refl); sends = refl; ends = ends_over peer how stream; stands = inr tt }
