-- The same of a session over bytes: it sends what is owed for the packets among them, and the error of a fault of framing.
use Rattle.std.proofs.Common.{◌≡◌, refl, sym, ap, ◌∙◌, subst, IsTrue, ℕ, List, [], ◌∷◌, ◌++◌, Option, Some, None}
use Rattle.std.proofs.lemmas.List.{map-append}
use Rattle.lg_base.specs.declared.errors.Code.{Code}
use Rattle.lg_base.specs.declared.errors.Code.TheVariants as code
use Rattle.packet_frame.specs.declared.packets.FrameFault.{FrameFault}
use Rattle.packet_frame.specs.declared.packets.FrameFault.TheVariants.{TooLarge, OutOfOrder, Memory as NoMemory}
use Rattle.packet_frame.specs.declared.packets.Packet.{Packet}
use Rattle.account_history.specs.declared.entries.Entry.{Entry}
use Rattle.packet_stream.specs.Sent.{Sent, id_behind}
use Rattle.interaction.specs.Talk.{Got, Says, Hears, Asks}
use Rattle.session_talk.specs.Logins.{faulted, session}
use Rattle.session_talk.specs.Owed.{Owed, owed}
use Rattle.session_talk.specs.Talk.{Begins, Own, Question, SessionTalk}
use Rattle.session_talk.specs.Texts.{error_payload}
use Rattle.session_talk.specs.Transcript.{Enters, Peer, Transcript, fault_at, read_of, told_fault, wanted_at}
use Rattle.session_talk.specs.Turns.{Adds, takes}
use Rattle.packet_frame.specs.Packets.{id_after}
use Rattle.session_talk.specs.Wired.{said_from}
use Rattle.packet_stream.specs.Streams.{Stream}
use Rattle.session_talk.specs.declared.ends.SessionEnd.{SessionEnd}
use Rattle.session_talk.specs.declared.actions.Ask.TheVariants as ask
use Rattle.session_talk.specs.declared.inputs.Input.{Input}
use Rattle.session_talk.specs.declared.inputs.Input.TheVariants as input
use Rattle.session_talk.proofs.Asking.{untrue}
use Rattle.session_talk.proofs.Taking.{taken_owed}
use Rattle.session_talk.proofs.Tying.{wired_is_owed}
use Rattle.both_ends.specs.Meeting.{first_entered, first_reply, payloads_of, sent_by}
use Rattle.both_ends.proofs.Saying.{Each, each-append}

-- ## What is sent of a fault

-- nothing, or one error
abbrev pub told_of : Option FrameFault → List (List ℕ)
told_of (Some (TooLarge at)) = error_payload code.TooLarge ∷ []
told_of (Some (OutOfOrder at want got)) = error_payload code.OutOfOrder ∷ []
told_of _ = []

fault-told : (next : ℕ) (fault : FrameFault) (stream : Stream) (owns : List Input) → payloads_of (said_from next (faulted fault) stream owns).sent ≡ told_of (Some fault)
unfolding said_from
fault-told next (TooLarge at) stream owns = refl
fault-told next (OutOfOrder at want got) stream owns = refl
fault-told next NoMemory stream owns = refl

told-sent : (fault : Option FrameFault) (o : Owed) (stream : Stream) → payloads_of (told_fault fault o stream).sent ≡ payloads_of o.sent ++ told_of fault
told-sent None o stream = map-append (λ (s : Sent). s.payload) o.sent []
told-sent (Some fault) o stream =
    map-append (λ (s : Sent). s.payload) o.sent (said_from (id_after (wanted_at o.next o.at)) (faulted fault) stream o.unused).sent
    ∙ ap (λ (l : List (List ℕ)). payloads_of o.sent ++ l) (fault-told (id_after (wanted_at o.next o.at)) fault stream o.unused)

-- ## A transcript

abbrev pub stream_of : List ℕ → Stream
stream_of bytes = record { place = 0; bytes = bytes }

-- the packets that a session reads of bytes
abbrev pub packets_of : (id : ℕ) → List ℕ → List Input → List Packet
packets_of id bytes owns = (read_of 0 (session id) (stream_of bytes) owns).packets

abbrev pub fault_of : (id : ℕ) → List ℕ → List Input → Option FrameFault
fault_of id bytes owns =
    let o = owed 0 (session id) (packets_of id bytes owns) owns in
    fault_at o.next o.at (read_of 0 (session id) (stream_of bytes) owns).left

pub transcript-sent : (id : ℕ) (peer : Peer) (bytes : List ℕ) (entries : List Entry) (sent : List Sent) (how : Option SessionEnd) (t : Transcript id peer bytes entries sent how) →
    payloads_of sent ≡ sent_by id (packets_of id bytes t.owns) t.owns ++ told_of (fault_of id bytes t.owns)
transcript-sent id peer bytes entries sent how t =
    ap payloads_of t.sends
    ∙ ap (λ w. payloads_of w.sent) (wired_is_owed 0 (session id) (stream_of bytes) t.owns)
    ∙ told-sent (fault_of id bytes t.owns) (owed 0 (session id) (packets_of id bytes t.owns) t.owns) (read_of 0 (session id) (stream_of bytes) t.owns).left

-- what holds of the payloads owed and of errors holds of all that is sent
pub transcript-each : (P : List ℕ → Type 0) (id : ℕ) (peer : Peer) (bytes : List ℕ) (entries : List Entry) (sent : List Sent) (how : Option SessionEnd) (t : Transcript id peer bytes entries sent how) →
    ((error : Code) → P (error_payload error)) → Each P (sent_by id (packets_of id bytes t.owns) t.owns) → Each P (payloads_of sent)
transcript-each P id peer bytes entries sent how t of_error each =
    subst (λ (l : List (List ℕ)). Each P l) (sym (transcript-sent id peer bytes entries sent how t))
    (each-append P (sent_by id (packets_of id bytes t.owns) t.owns) (told_of (fault_of id bytes t.owns)) each (of_told (fault_of id bytes t.owns))) where
      of_told : (fault : Option FrameFault) → Each P (told_of fault)
      of_told (Some (TooLarge at)) = (of_error code.TooLarge, tt)
      of_told (Some (OutOfOrder at want got)) = (of_error code.OutOfOrder, tt)
      of_told (Some NoMemory) = tt
      of_told None = tt

-- ## Entries

none-reply : (owns : List Input) (entries : List Entry) → owns ≡ [] → entries ≡ [] → first_entered entries ≡ first_reply owns
none-reply owns entries none none' = ap first_entered none' ∙ sym (ap first_reply none)

abbrev pub AreEntered : Owed → List Input → List Entry → Type 0
AreEntered o owns entries = (first_entered entries ≡ first_reply owns) × (o.unused ≡ [])

-- the entries of an answer, and those after it
adds-reply : (q : Question) (given : Input) (added more : List Entry) (owns : List Input) → IsTrue (takes q given) → Adds q given added →
    first_entered more ≡ first_reply owns → first_entered (added ++ more) ≡ first_reply (given ∷ owns)
adds-reply Begins (input.Start nonce) added more owns is adds e = ap (λ (es : List Entry). first_entered (es ++ more)) adds ∙ e
adds-reply (Own ask.Draw) (input.Drawn nonce) added more owns is adds e = ap (λ (es : List Entry). first_entered (es ++ more)) adds ∙ e
adds-reply (Own (ask.Observe who)) (input.Looked look) added more owns is adds e = ap (λ (es : List Entry). first_entered (es ++ more)) adds ∙ e
adds-reply (Own (ask.Renew who)) (input.Looked look) added more owns is adds e = ap (λ (es : List Entry). first_entered (es ++ more)) adds ∙ e
adds-reply (Own (ask.Check look evidences)) (input.Checked checked) added more owns is adds e = ap (λ (es : List Entry). first_entered (es ++ more)) adds ∙ e
adds-reply (Own (ask.Settle checked flags)) (input.Stale evidences) added more owns is adds e = ap (λ (es : List Entry). first_entered (es ++ more)) adds ∙ e
adds-reply (Own (ask.Settle checked flags)) (input.Settled reply) added more owns is adds e = ap (λ (es : List Entry). first_entered (es ++ more)) adds.1
adds-reply (Own (ask.SettleLocked user evidences flags)) (input.Settled reply) added more owns is adds e = ap (λ (es : List Entry). first_entered (es ++ more)) adds.1
adds-reply (Own (ask.Prepare look statement salt actor)) (input.Prepared prepared) added more owns is adds e = ap (λ (es : List Entry). first_entered (es ++ more)) adds ∙ e
adds-reply (Own (ask.Commit prepared actor)) (input.StaleStatement statement) added more owns is adds e = ap (λ (es : List Entry). first_entered (es ++ more)) adds ∙ e
adds-reply (Own (ask.Commit prepared actor)) (input.Ran reply) added more owns is adds e = ap (λ (es : List Entry). first_entered (es ++ more)) adds.4 ∙ e
adds-reply (Own (ask.CommitLocked statement salt actor)) (input.Ran reply) added more owns is adds e = ap (λ (es : List Entry). first_entered (es ++ more)) adds.4 ∙ e
adds-reply (Own (ask.CommitPlain statement actor)) (input.Ran reply) added more owns is adds e = ap (λ (es : List Entry). first_entered (es ++ more)) adds.4 ∙ e
adds-reply _ _ added more owns is adds e = absurd (untrue is)

-- the first attempt that is entered has the first reply, and all answers are come to
pub entered : (t : SessionTalk) (next : ℕ) (packets : List Packet) (owns : List Input) (entries : List Entry) → Enters t packets owns entries → AreEntered (owed next t packets owns) owns entries
unfolding owed Enters
entered (Says payload t) next packets owns entries enters = entered t (id_behind next payload) packets owns entries enters
entered (Hears anew k) next (packet ∷ packets) owns entries enters = entered (k (Got packet.payload)) (id_after packet.last) packets owns entries enters
entered (Asks q k) next packets (given ∷ owns) entries (added, more, is, fits, adds, split, enters) =
    let later = entered (k given) next packets owns more enters in (
      ap first_entered split ∙ adds-reply q given added more owns is adds later.0,
      ap (λ (o : Owed). o.unused) (taken_owed next q k given packets owns is) ∙ later.1,
    )
entered _ next _ owns entries enters = (none-reply owns entries enters.0 enters.1, enters.0)
