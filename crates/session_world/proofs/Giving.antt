-- What a session is given is what it asked about, and what a turn leads to.
use Rattle.std.proofs.Common.{◌≡◌, refl, ap, sym, ◌∙◌, subst, ℕ, List, [], ◌∷◌, ◌++◌, Option, Some, IfSome, Result, Ok, Err, OnOk, append_assoc, append-nil}
use Rattle.factor_chain.specs.CheckedOf.{CheckedOf}
use Rattle.factor_chain.specs.declared.credentials.Look.{Look}
use Rattle.factor_chain.specs.declared.evidence_list.Evidence.{Evidence}
use Rattle.account_history.specs.Preparing.{PreparedOf}
use Rattle.stmt_rules.specs.declared.statement.Statement.{Statement}
use Rattle.session_talk.proofs.Asking.{what_fits_is_asked}
use Rattle.session_talk.specs.Talk.{Own, Question, SessionTalk}
use Rattle.session_talk.specs.Turns.{IsAsked, IsFitting, asked, first_id, heard, rest, said}
use Rattle.packet_stream.specs.Sent.{Sent, id_behind_all}
use Rattle.packet_stream.specs.Streams.{Stream}
use Rattle.session_talk.specs.declared.actions.Ask.{Ask}
use Rattle.session_talk.specs.declared.actions.Ask.TheVariants as ask
use Rattle.session_talk.specs.declared.inputs.Input.{Input}
use Rattle.session_talk.specs.declared.inputs.Input.TheVariants as input
use Rattle.session_world.specs.declared.calls.Calls.{Calls}
use Rattle.session_world.specs.declared.calls.Peer.{Peer}
use Rattle.session_world.specs.Going.{Gone, going}
use Rattle.world_table.specs.Table.{Common}
use Rattle.world_table.specs.Printing.{Line, Sends, Adds, Stale, Ends, Idle}
use Rattle.session_world.specs.Leading.{IsGivenBack, LeadsTo, after_lines, sent_because, with_lines}
use Rattle.session_world.specs.Lines.{sends_in}
use Rattle.session_world.specs.declared.output.Output.{Output}
use Rattle.packet_stream.specs.Packing.{packet_text, packets_text}
use Rattle.world_table.specs.Printing.{line_text, lines_text, send_lines}
use Rattle.session_world.proofs.Turning.{going_said}

fitting : (q : Question) (given : Input) → ¬ IsGivenBack given → IsFitting q given
fitting (Own (ask.Check look evidences)) (input.Checked checked) free = absurd (free tt)
fitting (Own (ask.Settle checked flags)) (input.Stale evidences) free = absurd (free tt)
fitting (Own (ask.Prepare look statement salt actor)) (input.Prepared prepared) free = absurd (free tt)
fitting (Own (ask.Commit prepared actor)) (input.StaleStatement statement) free = absurd (free tt)
fitting _ _ free = tt

-- an input that gives nothing back
pub free_asked : (t : SessionTalk) (given : Input) → ¬ IsGivenBack given → IsAsked t given
free_asked t given free = what_fits_is_asked 0 t given (fitting (Own (asked 0 t)) given free)

pub check_asked : (next : ℕ) (t : SessionTalk) (look : Look) (evidences : List Evidence) (checked : CheckedOf) → asked next t ≡ ask.Check look evidences →
    checked ≡ record { look = look; evidences = evidences } → IsAsked t (input.Checked checked)
check_asked next t look evidences checked asks is =
    what_fits_is_asked next t (input.Checked checked) (subst (λ (a : Ask). IsFitting (Own a) (input.Checked checked)) (sym asks) is)

pub stale_asked : (next : ℕ) (t : SessionTalk) (checked : CheckedOf) (flags : ℕ) (evidences : List Evidence) → asked next t ≡ ask.Settle checked flags →
    evidences ≡ checked.evidences → IsAsked t (input.Stale evidences)
stale_asked next t checked flags evidences asks is =
    what_fits_is_asked next t (input.Stale evidences) (subst (λ (a : Ask). IsFitting (Own a) (input.Stale evidences)) (sym asks) is)

pub prepared_asked : (next : ℕ) (t : SessionTalk) (look : Look) (statement : Statement) (salt : List ℕ) (actor : ℕ) (prepared : PreparedOf) →
    asked next t ≡ ask.Prepare look statement salt actor → prepared ≡ record { look = look; statement = statement; salt = salt; actor = actor } →
    IsAsked t (input.Prepared prepared)
prepared_asked next t look statement salt actor prepared asks is =
    what_fits_is_asked next t (input.Prepared prepared) (subst (λ (a : Ask). IsFitting (Own a) (input.Prepared prepared)) (sym asks) is)

pub stale_statement_asked : (next : ℕ) (t : SessionTalk) (prepared : PreparedOf) (actor : ℕ) (statement : Statement) → asked next t ≡ ask.Commit prepared actor →
    statement ≡ prepared.statement → IsAsked t (input.StaleStatement statement)
stale_statement_asked next t prepared actor statement asks is =
    what_fits_is_asked next t (input.StaleStatement statement) (subst (λ (a : Ask). IsFitting (Own a) (input.StaleStatement statement)) (sym asks) is)

-- ## What a turn leads to

lines_joined : (session : ℕ) (before after : List Line) → lines_text session (before ++ after) ≡ lines_text session before ++ lines_text session after
lines_joined session [] after = refl
lines_joined session (line ∷ before) after =
    ap (λ (text : List ℕ). line_text session line ++ text) (lines_joined session before after)
    ∙ sym (append_assoc (line_text session line) (lines_text session before) (lines_text session after))

pub sends_joined : (before after : List Line) → sends_in (before ++ after) ≡ sends_in before ++ sends_in after
sends_joined [] after = refl
sends_joined (Sends sent ∷ before) after = ap (λ (more : List Sent). sent ∷ more) (sends_joined before after)
sends_joined (Adds number entry ∷ before) after = sends_joined before after
sends_joined (Stale ∷ before) after = sends_joined before after
sends_joined (Ends how ∷ before) after = sends_joined before after
sends_joined (Idle ∷ before) after = sends_joined before after

packets_joined : (before after : List Sent) → packets_text (before ++ after) ≡ packets_text before ++ packets_text after
packets_joined [] after = refl
packets_joined (sent ∷ before) after =
    ap (λ (text : List ℕ). packet_text sent.first sent.payload ++ text) (packets_joined before after)
    ∙ sym (append_assoc (packet_text sent.first sent.payload) (packets_text before) (packets_text after))

-- lines one after another
pub with_both : (session : ℕ) (before after : List Line) (o : Output) → with_lines session after (with_lines session before o) ≡ with_lines session (before ++ after) o
with_both session before after o = ap (λ (text : List ℕ). record { lines = text; sent = (o.sent ++ packets_text (sends_in before)) ++ packets_text (sends_in after) })
    (append_assoc o.lines (lines_text session before) (lines_text session after)
    ∙ ap (λ (text : List ℕ). o.lines ++ text) (sym (lines_joined session before after)))
    ∙ ap (λ (bytes : List ℕ). record { lines = o.lines ++ lines_text session (before ++ after); sent = bytes })
    (append_assoc o.sent (packets_text (sends_in before)) (packets_text (sends_in after))
    ∙ ap (λ (bytes : List ℕ). o.sent ++ bytes) (sym (packets_joined (sends_in before) (sends_in after)) ∙ ap packets_text (sym (sends_joined before after))))

pub with_none : (session : ℕ) (o : Output) → with_lines session [] o ≡ o
with_none session o = ap (λ (text : List ℕ). record { lines = text; sent = o.sent ++ [] }) (append-nil o.lines)
    ∙ ap (λ (bytes : List ℕ). record { lines = o.lines; sent = bytes }) (append-nil o.sent)

-- a line by which nothing is sent
pub one_line : (session : ℕ) (line : Line) (o : Output) → sends_in (line ∷ []) ≡ [] → record o { lines = o.lines ++ line_text session line } ≡ with_lines session (line ∷ []) o
one_line session line o quiet =
    ap (λ (text : List ℕ). record { lines = o.lines ++ text; sent = o.sent }) (sym (append-nil (line_text session line)))
    ∙ ap (λ (bytes : List ℕ). record { lines = o.lines ++ lines_text session (line ∷ []); sent = bytes })
    (sym (append-nil o.sent) ∙ ap (λ (sent : List Sent). o.sent ++ packets_text sent) (sym quiet))

-- a text was printed
pub printed_so : (o : Output) (lines text : List ℕ) → lines ≡ o.lines ++ text → record o { lines = lines } ≡ record o { lines = o.lines ++ text }
printed_so o lines text is = ap (λ (t : List ℕ). record o { lines = t }) is

-- the payloads in the lines of payloads
pub sent_in : (sent : List Sent) → sends_in (send_lines sent) ≡ sent
sent_in [] = refl
sent_in (first ∷ sent) = ap (λ (more : List Sent). first ∷ more) (sent_in sent)

pub all_sent : (session : ℕ) (sent : List Sent) (o : Output) →
    record { lines = o.lines ++ lines_text session (send_lines sent); sent = o.sent ++ packets_text sent } ≡ with_lines session (send_lines sent) o
all_sent session sent o = ap (λ (more : List Sent). record { lines = o.lines ++ lines_text session (send_lines sent); sent = o.sent ++ packets_text more }) (sym (sent_in sent))

-- lines that were put out no longer come
pub printed_first : (session : ℕ) (here now_here : Output) (before : List Line) (coming : Gone) → now_here ≡ with_lines session before here →
    LeadsTo session now_here coming here (after_lines before coming)
printed_first session here now_here before coming printed = record {
  printed = ap (with_lines session coming.lines) printed ∙ with_both session before coming.lines here;
  common = refl;
  next = refl;
  at = refl;
  unread = refl;
}

pub leads_on : (session : ℕ) (a b c : Output) (x y z : Gone) → LeadsTo session a x b y → LeadsTo session b y c z → LeadsTo session a x c z
leads_on session a b c x y z first then_ = record {
  printed = first.printed ∙ then_.printed;
  common = first.common ∙ then_.common;
  next = first.next ∙ then_.next;
  at = first.at ∙ then_.at;
  unread = first.unread ∙ then_.unread;
}

-- an input was given, and what is sent because of it was printed
pub acted : (session : ℕ) (peer : Peer) (calls : Calls) (c : Common) (next : ℕ) (t : SessionTalk) (given : Input) (stream : Stream)
    (here now_here : Output) (next_after : ℕ) (after : SessionTalk) →
    now_here ≡ with_lines session (sent_because next t given) here →
    after ≡ rest (heard t given) → next_after ≡ id_behind_all (first_id next t given) (said (heard t given)) →
    LeadsTo session now_here (going peer calls c next_after after stream) here (going peer calls c (first_id next t given) (heard t given) stream)
acted session peer calls c next t given stream here now_here next_after after printed after_is next_is =
    subst (λ (n : ℕ). LeadsTo session now_here (going peer calls c n after stream) here (going peer calls c (first_id next t given) (heard t given) stream)) (sym next_is)
    (subst (λ (u : SessionTalk). LeadsTo session now_here (going peer calls c (id_behind_all (first_id next t given) (said (heard t given))) u stream) here
    (going peer calls c (first_id next t given) (heard t given) stream)) (sym after_is)
    (subst (λ (g : Gone). LeadsTo session now_here (going peer calls c (id_behind_all (first_id next t given) (said (heard t given))) (rest (heard t given)) stream) here g)
    (sym (going_said peer calls c (first_id next t given) (heard t given) stream))
    (printed_first session here now_here (sent_because next t given) _ printed)))

-- what follows from what holds of a call that succeeded
pub on_ok : {X E : Type 0} {A B : Type 0} (r : Result X E) → OnOk r A → (A → B) → OnOk r B
on_ok (Ok x) a f = f a
on_ok (Err e) a f = tt

-- what holds of a value that is there
pub of_some : {X : Type 0} (P : X → Type 0) (o : Option X) (x : X) → IfSome o P → o ≡ Some x → P x
of_some {X = X} P o x holds is = subst (λ (p : Option X). IfSome p P) is holds
