-- One turn of a session: what is said before the next question, the question, and what an answer leads to.
use Rattle.std.specs.Prelude.{◌≡◌, IsTrue, ℕ, nat_le, Bool, true, false, if◌then◌else◌, List, [], ◌∷◌, length, Option, Some, None}
use Rattle.std.specs.List.{list_all}
use Rattle.packet_frame.specs.Packets.{id_after}
use Rattle.packet_stream.specs.Sent.{id_behind_all}
use Rattle.factor_chain.specs.declared.credentials.InForce.{InForce}
use Rattle.account_history.specs.declared.entries.Entry.{Entry}
use Rattle.account_history.specs.declared.entries.Entry.TheVariants.{Observed, Attempted, Executed}
use Rattle.account_history.specs.declared.entries.StmtReply.{StmtReply}
use Rattle.interaction.specs.Talk.{Got, Says, Hears, Asks, Over}
use Rattle.session_talk.specs.declared.actions.Action.{Action}
use Rattle.session_talk.specs.declared.actions.Ask.{Ask}
use Rattle.session_talk.specs.declared.actions.Ask.TheVariants as ask
use Rattle.session_talk.specs.declared.ends.SessionEnd.{SessionEnd}
use Rattle.session_talk.specs.declared.ends.SessionEnd.TheVariants as end
use Rattle.session_talk.specs.declared.inputs.Input.{Input}
use Rattle.session_talk.specs.declared.inputs.Input.TheVariants as input
use Rattle.session_talk.specs.Logins.{faulted}
use Rattle.session_talk.specs.Statements.{no_salt}
use Rattle.session_talk.specs.Talk.{Begins, Own, Question, SessionTalk}
use Rattle.stmt_rules.specs.declared.statement.Statement.{Statement}

-- ## Sequence ids

-- the id that is wanted of a packet that is waited for
abbrev pub wanted : (anew : Bool) → (next : ℕ) → ℕ
wanted true next = 0
wanted false next = next

-- ## Saying

-- the payloads that are sent before the next question
unfoldable pub said : SessionTalk → List (List ℕ)
said (Says payload t) = payload ∷ said t
said _ = []

-- the talk at its next question
unfoldable pub rest : SessionTalk → SessionTalk
rest (Says payload t) = rest t
rest t = t

-- ## Asking

-- the ask by which a question is put. A nonce is drawn for a new session.
abbrev pub ask_of : Question → Ask
ask_of Begins = ask.Draw
ask_of (Own asked_for) = asked_for

-- what is asked for, where it isn't a packet
unfoldable pub question : SessionTalk → Option Ask
question (Says payload t) = question t
question (Hears anew k) = None
question (Asks q k) = Some (ask_of q)
question (Over how) = Some (ask.Ended how)

-- the id that a talk wants of the packet that it waits for
unfoldable pub wanted_by : (next : ℕ) → SessionTalk → ℕ
wanted_by next (Hears anew k) = wanted anew next
wanted_by next t = next

abbrev pub or_read : (want : ℕ) → Option Ask → Ask
or_read want None = ask.Read want
or_read want (Some asked_for) = asked_for

-- what a talk at its question asks for
abbrev pub asked : (next : ℕ) → SessionTalk → Ask
asked next t = or_read (wanted_by next t) (question t)

-- ## Hearing

-- how a talk goes on with an answer
unfoldable pub heard : SessionTalk → Input → SessionTalk
heard (Hears anew k) (input.Packet packet) = k (Got packet.payload)
heard (Hears anew k) (input.Frame fault) = faulted fault
heard (Hears anew k) (input.End cut) = Over (end.PeerClosed cut)
heard (Hears anew k) input.LinkFailed = Over end.LinkFault
heard (Asks q k) given = k given
heard t _ = t

-- the id of the first packet that is sent after an answer
abbrev pub first_id : (next : ℕ) → SessionTalk → Input → ℕ
first_id next t (input.Packet packet) = id_after packet.last
first_id next t (input.Frame fault) = id_after (wanted_by next t)
first_id next t _ = next

-- ## Tests of what is given

-- 20 bytes of the alphabet of salts, `./0-9A-Za-z`
abbrev pub is_salt_byte : ℕ → Bool
is_salt_byte b =
    if nat_le 46 b then (if nat_le b 57 then true else (if nat_le 65 b then (if nat_le b 90 then true else (if nat_le 97 b then nat_le b 122 else false)) else false))
    else false

abbrev pub is_nonce : List ℕ → Bool
is_nonce nonce = list_all is_salt_byte nonce

-- an account that is shown has at most two further factors
abbrev pub has_few_labels : Option InForce → Bool
has_few_labels None = true
has_few_labels (Some account) = nat_le (length account.labels) 2

-- an input that comes of reading
abbrev pub is_read : Input → Bool
is_read (input.Packet packet) = true
is_read (input.Frame fault) = true
is_read (input.End cut) = true
is_read input.LinkFailed = true
is_read _ = false

abbrev pub is_start : Input → Bool
is_start (input.Start nonce) = true
is_start _ = false

abbrev pub is_draw : Input → Bool
is_draw (input.Drawn nonce) = is_nonce nonce
is_draw _ = false

abbrev pub is_look : Input → Bool
is_look (input.Looked look) = has_few_labels look.in_force
is_look _ = false

abbrev pub is_checked : Input → Bool
is_checked (input.Checked checked) = true
is_checked _ = false

abbrev pub is_settled : Input → Bool
is_settled (input.Settled reply) = true
is_settled _ = false

abbrev pub is_settled_or_stale : Input → Bool
is_settled_or_stale (input.Stale evidences) = true
is_settled_or_stale (input.Settled reply) = true
is_settled_or_stale _ = false

abbrev pub is_prepared : Input → Bool
is_prepared (input.Prepared prepared) = true
is_prepared _ = false

abbrev pub is_ran : Input → Bool
is_ran (input.Ran reply) = true
is_ran _ = false

abbrev pub is_ran_or_stale : Input → Bool
is_ran_or_stale (input.StaleStatement statement) = true
is_ran_or_stale (input.Ran reply) = true
is_ran_or_stale _ = false

-- a session that has ended isn't answered; one that has failed takes anything, and fails again
abbrev pub is_failure : SessionEnd → Bool
is_failure end.Memory = true
is_failure _ = false

-- ## What each question is
--
-- A packet and the end of a session are asks that a session never puts as a question.

-- an input is of a kind that a question is answered by
abbrev pub takes : Question → Input → Bool
takes Begins (input.Start nonce) = true
takes (Own ask.Draw) (input.Drawn nonce) = true
takes (Own (ask.Observe who)) (input.Looked look) = true
takes (Own (ask.Renew who)) (input.Looked look) = true
takes (Own (ask.Check look evidences)) (input.Checked checked) = true
takes (Own (ask.Settle checked flags)) (input.Stale evidences) = true
takes (Own (ask.Settle checked flags)) (input.Settled reply) = true
takes (Own (ask.SettleLocked user evidences flags)) (input.Settled reply) = true
takes (Own (ask.Prepare look statement salt actor)) (input.Prepared prepared) = true
takes (Own (ask.Commit prepared actor)) (input.StaleStatement statement) = true
takes (Own (ask.Commit prepared actor)) (input.Ran reply) = true
takes (Own (ask.CommitLocked statement salt actor)) (input.Ran reply) = true
takes (Own (ask.CommitPlain statement actor)) (input.Ran reply) = true
takes _ _ = false

-- an input answers a question, as far as it can be tested
abbrev pub answers : Question → Input → Bool
answers Begins given = is_start given
answers (Own ask.Draw) given = is_draw given
answers (Own (ask.Observe who)) given = is_look given
answers (Own (ask.Renew who)) given = is_look given
answers (Own (ask.Check look evidences)) given = is_checked given
answers (Own (ask.Settle checked flags)) given = is_settled_or_stale given
answers (Own (ask.SettleLocked user evidences flags)) given = is_settled given
answers (Own (ask.Prepare look statement salt actor)) given = is_prepared given
answers (Own (ask.Commit prepared actor)) given = is_ran_or_stale given
answers (Own (ask.CommitLocked statement salt actor)) given = is_ran given
answers (Own (ask.CommitPlain statement actor)) given = is_ran given
answers _ given = false

-- what is given back is what was asked about
abbrev pub IsFitting : Question → Input → Type 0
IsFitting (Own (ask.Check look evidences)) (input.Checked checked) = checked ≡ record { look = look; evidences = evidences }
IsFitting (Own (ask.Settle checked flags)) (input.Stale evidences) = evidences ≡ checked.evidences
IsFitting (Own (ask.Prepare look statement salt actor)) (input.Prepared prepared) =
    prepared ≡ record { look = look; statement = statement; salt = salt; actor = actor }
IsFitting (Own (ask.Commit prepared actor)) (input.StaleStatement statement) = statement ≡ prepared.statement
IsFitting _ _ = Unit {0}

-- a statement was executed with this salt for this account, at some reading of the clock and some count of faults of the
-- keeper of the accounts
abbrev pub Executes : Statement → (salt : List ℕ) → (actor : ℕ) → StmtReply → List Entry → Type 0
Executes statement salt actor reply added =
    (reading : ℕ) × (count : ℕ) × (called : Bool) × (failed : Bool)
    × (added ≡ Executed (record {
      statement = statement;
      salt = salt;
      actor = actor;
      reading = reading;
      count = count;
      called = called;
      failed = failed;
      reply = reply;
    }) ∷ [])

-- The entries of an answer: a look has one and a reply has one, by some reading of the clock. A nonce, the outcome of a
-- check, a statement that is prepared and a stale answer have none.
abbrev pub Adds : Question → Input → List Entry → Type 0
Adds (Own (ask.Observe who)) (input.Looked look) added = added ≡ Observed who look ∷ []
Adds (Own (ask.Renew who)) (input.Looked look) added = added ≡ Observed who look ∷ []
Adds (Own (ask.Settle checked flags)) (input.Settled reply) added =
    (reading : ℕ) × (added ≡ Attempted (record { user = checked.look.user; evidences = checked.evidences; flags = flags; reading = reading; reply = reply }) ∷ [])
Adds (Own (ask.SettleLocked user evidences flags)) (input.Settled reply) added =
    (reading : ℕ) × (added ≡ Attempted (record { user = user; evidences = evidences; flags = flags; reading = reading; reply = reply }) ∷ [])
Adds (Own (ask.Commit prepared actor)) (input.Ran reply) added = Executes prepared.statement prepared.salt actor reply added
Adds (Own (ask.CommitLocked statement salt actor)) (input.Ran reply) added = Executes statement salt actor reply added
Adds (Own (ask.CommitPlain statement actor)) (input.Ran reply) added = Executes statement no_salt actor reply added
Adds _ _ added = added ≡ []

-- a session that has begun puts the question
abbrev pub IsPut : Question → Type 0
IsPut Begins = ⊥
IsPut (Own (ask.Read want)) = ⊥
IsPut (Own (ask.Ended how)) = ⊥
IsPut _ = Unit {0}

-- ## What answers a session

-- the input is of the kind that the talk waits for, as far as it can be tested
unfoldable pub is_answer : SessionTalk → Input → Bool
is_answer (Says payload t) given = false
is_answer (Hears anew k) given = is_read given
is_answer (Asks q k) given = answers q given
is_answer (Over how) given = is_failure how

unfoldable pub IsAsked : SessionTalk → Input → Type 0
IsAsked (Asks q k) given = IsFitting q given
IsAsked t _ = Unit {0}

-- an input answers what was asked for
abbrev pub Answers : Ask → Input → Type 0
Answers (ask.Read want) given = IsTrue (is_read given)
Answers asked_for given = IsTrue (answers (Own asked_for) given) × IsFitting (Own asked_for) given

-- a session that has begun has drawn its first nonce
abbrev pub IsBegun : SessionTalk → Type 0
IsBegun (Says payload t) = ⊥
IsBegun (Asks q k) = IsPut q
IsBegun t = Unit {0}

-- What a session does on an answer, where `next` is the sequence id of the next packet: it sends what the talk says,
-- and then asks what the talk asks.
pub record Acts (next : ℕ) (t : SessionTalk) (given : Input) (action : Action) (next_after : ℕ) (after : SessionTalk) : Type 0 where
  pub first : action.first ≡ first_id next t given
  pub sends : action.send ≡ said (heard t given)
  pub next_is : next_after ≡ id_behind_all action.first action.send
  pub goes_on : after ≡ rest (heard t given)
  pub asks : action.ask ≡ asked next_after after
  pub begun : IsBegun after
