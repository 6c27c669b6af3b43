-- A session asks for what can be done, whatever it is given.
use Rattle.std.proofs.Common.{◌≡◌, refl, subst, IsTrue, ℕ, zero, suc, Bool, true, false, List, [], ◌∷◌, length, Option, Some, None, Result, Ok, Err}
use Rattle.lg_base.specs.declared.errors.Code.{Code}
use Rattle.factor_chain.specs.Checking.{known_fits_of}
use Rattle.factor_chain.specs.declared.credentials.Look.{Look}
use Rattle.factor_chain.specs.declared.credentials.Method.{Method}
use Rattle.factor_chain.specs.declared.credentials.Method.TheVariants.{Native, CachingSha2}
use Rattle.factor_chain.specs.declared.evidence_list.Evidence.{Evidence}
use Rattle.factor_chain.specs.declared.evidence_list.Evidence.TheVariants as evidence
use Rattle.account_history.specs.Preparing.{PreparedOf, is_preparable}
use Rattle.account_history.specs.Refusals.{auth_of}
use Rattle.account_history.specs.declared.entries.Reply.{Reply}
use Rattle.account_history.specs.declared.entries.StmtReply.{StmtReply}
use Rattle.account_history.specs.declared.entries.StmtReply.TheVariants.{Done, Refused}
use Rattle.wire_form.specs.Payloads.{start}
use Rattle.auth_packets.specs.Commands.{command}
use Rattle.auth_packets.specs.Handshake.{response}
use Rattle.auth_packets.specs.declared.commands.Command.{Command}
use Rattle.auth_packets.specs.declared.commands.Command.TheVariants.{Quit, Query, Ping, Reset, ChangeUser as Change, Other, Nothing}
use Rattle.auth_packets.specs.declared.handshake.Response.{Response}
use Rattle.interaction.specs.Talk.{Says, Hears, Asks, Over}
use Rattle.session_talk.specs.Doable.{AsksCanBeDone, AsksWell, CanBeDone, IsQuestion}
use Rattle.session_talk.specs.Given.{end_in}
use Rattle.session_talk.specs.Logins.{answered, answering, attempt_of, caching, checking_or, claim_of, claimed, clear_evidence, commanded, commands_left, decided, faulted, greeting, heard_by, is_blank, is_named, locking, method_of, next_command, outcome, proved, proving, renewing, responded, session, settling_or, with_left, without_zero}
use Rattle.session_talk.specs.Statements.{committing_locked, committing_or, committing_plain, executing, has_password, is_let_through, looking_again, no_salt, out_of_sandbox, preparing, preparing_or, queried_for, ran, read_to, salted, stated, statement_in}
use Rattle.session_talk.specs.Talk.{Begins, Own, Question, SessionTalk, on_drawn}
use Rattle.session_talk.specs.Turns.{IsBegun, answers, ask_of, asked, heard, is_answer, is_nonce, question, rest}
use Rattle.session_talk.specs.declared.actions.Ask.TheVariants as ask
use Rattle.session_talk.specs.declared.attempts.Attempting.{Attempting}
use Rattle.session_talk.specs.declared.attempts.Claim.{Claim}
use Rattle.session_talk.specs.declared.inputs.Input.{Input}
use Rattle.session_talk.specs.declared.inputs.Input.TheVariants as input
use Rattle.session_talk.specs.declared.open_session.OpenSession.{OpenSession}
use Rattle.stmt_rules.specs.Forms.{Read}
use Rattle.stmt_rules.specs.Grammar.{statement as statement_form}
use Rattle.stmt_rules.specs.declared.statement.Statement.{Statement}
use Rattle.stmt_syntax.specs.Reading.{IsReadable, IsText, reading}
use Rattle.stmt_tokens.specs.Tokens.{tokens}
use Rattle.session_talk.proofs.Asking.{untrue}
use Rattle.packet_frame.specs.declared.packets.FrameFault.{FrameFault}
use Rattle.packet_frame.specs.declared.packets.FrameFault.TheVariants.{TooLarge, OutOfOrder, Memory as NoMemory}
use Rattle.session_talk.proofs.Words.{checked_all, drawn_all, locked_all, look_all, prepared_all, ran_all, ran_locked_all, settled_all, start_all, switched_to}

-- a question isn't the ask that tells an end
pub no_end : (q : Question) → IsQuestion q → end_in (ask_of q) ≡ None
no_end Begins is = refl
no_end (Own (ask.Read want)) is = absurd is
no_end (Own (ask.Ended how)) is = absurd is
no_end (Own _) is = refl

pub rest_well : (t : SessionTalk) → AsksWell t → AsksWell (rest t)
unfolding rest
rest_well (Says payload t) well = rest_well t well
rest_well _ well = well

pub faulted_well : (fault : FrameFault) → AsksWell (faulted fault)
faulted_well (TooLarge place) = tt
faulted_well (OutOfOrder place want got) = tt
faulted_well NoMemory = tt

-- a salt that answers is of the alphabet
drawn_well : (k : List ℕ → SessionTalk) → ((nonce : List ℕ) → IsTrue (is_nonce nonce) → AsksWell (k nonce)) →
    (given : Input) → IsTrue (answers (Own ask.Draw) given) → AsksWell (on_drawn k given)
unfolding on_drawn
drawn_well k all (input.Drawn nonce) is = all nonce is
drawn_well k all _ is = absurd (untrue is)

-- ## Statements

-- what a text is read to is the statement that it is
is_readable : (text : List ℕ) (statement : Statement) (found : Read Statement) → reading text ≡ found → read_to (length text) found ≡ Ok statement → IsReadable statement
is_readable text statement (Ok (v, [])) is e = (text, subst (λ (w : Statement). IsText w text) (found_is e) (statement_form.sound v (tokens text) [] is)) where
  found_is : read_to (length text) (Ok (v, [])) ≡ Ok statement → v ≡ statement
  found_is same = cc
is_readable text statement (Ok (v, token ∷ rest)) is e = absurd (cc)
is_readable text statement (Err rest) is e = absurd (cc)

module _ (goes_on : OpenSession → SessionTalk) (all : (later : OpenSession) → AsksWell (goes_on later)) (statement : Statement) (readable : IsReadable statement) where
  ran_well : (opened : OpenSession) (reply : StmtReply) → AsksWell (ran goes_on opened reply)
  ran_well opened Done = all (out_of_sandbox opened)
  ran_well opened (Refused error) = all opened

  plain_well : (opened : OpenSession) → AsksWell (committing_plain goes_on opened statement)
  plain_well opened = (tt, readable, λ given is. ran_locked_all AsksWell tt (ran goes_on opened) (ran_well opened) given)

  module _ (preparable : IsTrue (is_preparable statement)) (salt : List ℕ) (is_salt : IsTrue (is_nonce salt)) where
    locked_well : (opened : OpenSession) → AsksWell (committing_locked goes_on opened statement salt)
    locked_well opened =
        (tt, (readable, preparable, is_salt), λ given is. ran_locked_all AsksWell tt (ran goes_on opened) (ran_well opened) given)

    preparing_well : (stale : SessionTalk) → AsksWell stale → (opened : OpenSession) (look : Look) →
        AsksWell (preparing_or goes_on stale opened look statement salt)
    preparing_well stale well opened look =
        let prepared : PreparedOf = record { look = look; statement = statement; salt = salt; actor = opened.account } in
        let committing : AsksWell (committing_or goes_on stale opened prepared) =
        (tt, (readable, is_salt, refl), λ given is. ran_all AsksWell tt stale (ran goes_on opened) well (ran_well opened) given) in
        (tt, (readable, preparable, is_salt), λ given is. prepared_all AsksWell tt (committing_or goes_on stale opened prepared) committing given)

    again_well : (opened : OpenSession) → AsksWell (looking_again goes_on opened statement salt)
    again_well opened =
        let locked : SessionTalk = committing_locked goes_on opened statement salt in (
          tt,
          tt,
          λ given is. look_all AsksWell tt (λ look. preparing_or goes_on locked opened look statement salt)
              (λ look. preparing_well locked (locked_well opened) opened look) given,
        )

    first_well : (opened : OpenSession) (look : Look) → AsksWell (preparing goes_on false opened look statement salt)
    first_well opened look = preparing_well (looking_again goes_on opened statement salt) (again_well opened) opened look

  salted_well : IsTrue (is_preparable statement) → (by : Bool) (opened : OpenSession) (look : Look) → AsksWell (salted goes_on by opened look statement)
  salted_well preparable true opened look = (
    tt,
    tt,
    drawn_well (λ salt. preparing goes_on false opened look statement salt) (λ salt is_salt. first_well preparable salt is_salt opened look),
  )
  salted_well preparable false opened look = first_well preparable no_salt refl opened look

  executing_well : (preparable : Bool) → is_preparable statement ≡ preparable → (opened : OpenSession) → AsksWell (executing goes_on preparable opened statement)
  executing_well true is opened = (
    tt,
    tt,
    λ given _. look_all AsksWell tt (λ look. salted goes_on (has_password (auth_of statement)) opened look statement)
        (λ look. salted_well is (has_password (auth_of statement)) opened look) given,
  )
  executing_well false is opened = plain_well opened

  stated_well : (through : Bool) (opened : OpenSession) → AsksWell (stated goes_on through opened statement)
  stated_well true opened = executing_well (is_preparable statement) refl opened
  stated_well false opened = all opened

module _ (goes_on : OpenSession → SessionTalk) (all : (later : OpenSession) → AsksWell (goes_on later)) where
  queried_well : (text : List ℕ) (opened : OpenSession) (found : Result Statement ℕ) → statement_in text ≡ found → AsksWell (queried_for goes_on opened found)
  queried_well text opened (Ok statement) is =
      stated_well goes_on all statement (is_readable text statement (reading text) refl is) (is_let_through opened statement) opened
  queried_well text opened (Err place) is = all opened

  commanded_well : (found : Result Command ℕ) (opened : OpenSession) → AsksWell (commanded found goes_on opened)
  commanded_well (Ok Quit) opened = tt
  commanded_well (Ok Ping) opened = all opened
  commanded_well (Ok Reset) opened = all opened
  commanded_well (Ok (Query text)) opened = queried_well text opened (statement_in text) refl
  commanded_well (Ok (Change v)) opened = all opened
  commanded_well (Ok (Other first)) opened = all opened
  commanded_well (Ok Nothing) opened = all opened
  commanded_well (Err at) opened = all opened

-- ## Commands

command_well : (left : ℕ) (opened : OpenSession) (payload : List ℕ) → AsksWell (next_command left opened payload)
unfolding next_command heard_by
command_well zero opened payload = tt
command_well (suc left) opened payload =
    commanded_well (commands_left left) (λ later. command_well left later) (command.read (start payload)) (with_left left opened)

answered_well : (found : Result OpenSession Code) → AsksWell (answered found)
unfolding heard_by
answered_well (Ok opened) = command_well opened.left opened
answered_well (Err error) = tt

outcome_well : (a : Attempting) (reply : Reply) → AsksWell (outcome a reply)
outcome_well a reply = answered_well (decided a reply)

-- ## Logins

locking_well : (a : Attempting) (evidences : List Evidence) → AsksWell (locking a evidences)
locking_well a evidences = (tt, tt, λ given is. locked_all AsksWell tt (outcome a) (outcome_well a) given)

checking_well : (stale : SessionTalk) → AsksWell stale → (a : Attempting) (look : Look) (evidences : List Evidence) → AsksWell (checking_or stale a look evidences)
checking_well stale well a look evidences =
    let settling : AsksWell (settling_or stale a (record { look = look; evidences = evidences })) =
    (tt, tt, λ given is. settled_all AsksWell tt stale (outcome a) well (outcome_well a) given) in
    (tt, tt, λ given is. checked_all AsksWell tt (settling_or stale a (record { look = look; evidences = evidences })) settling given)

renewing_well : (a : Attempting) (evidences : List Evidence) → AsksWell (renewing a evidences)
renewing_well a evidences = (
  tt,
  tt,
  λ given is. look_all AsksWell tt (λ look. checking_or (locking a evidences) a look evidences)
      (λ look. checking_well (locking a evidences) (locking_well a evidences) a look evidences) given,
)

proved_well : (a : Attempting) (look : Look) (given : Evidence) → AsksWell (proved a look given)
proved_well a look given = checking_well (renewing a (given ∷ [])) (renewing_well a (given ∷ [])) a look (given ∷ [])

caching_well : (a : Attempting) (look : Look) (nonce bytes : List ℕ) (known : Bool) → AsksWell (caching a look nonce bytes known)
unfolding heard_by
caching_well a look nonce bytes true = proved_well a look (evidence.Fast nonce bytes)
caching_well a look nonce bytes false = λ text. proved_well a look (clear_evidence (without_zero text))

proving_well : (a : Attempting) (look : Look) (nonce bytes : List ℕ) (method : Method) → AsksWell (proving a look nonce bytes method)
proving_well a look nonce bytes Native = proved_well a look (evidence.Native nonce bytes)
proving_well a look nonce bytes CachingSha2 = caching_well a look nonce bytes (known_fits_of look.in_force nonce bytes)

answering_well : (a : Attempting) (look : Look) (nonce bytes : List ℕ) (blank : Bool) → AsksWell (answering a look nonce bytes blank)
answering_well a look nonce bytes true = proved_well a look evidence.Empty
answering_well a look nonce bytes false = proving_well a look nonce bytes (method_of look)

switched_well : (a : Attempting) (look : Look) (nonce : List ℕ) → AsksWell (switched_to a look nonce)
unfolding heard_by
switched_well a look nonce = λ bytes. answering_well a look nonce bytes (is_blank bytes)

claimed_well : (a : Attempting) (claim : Claim) (look : Look) (named : Bool) → AsksWell (claimed a claim look named)
claimed_well a claim look true = answering_well a look claim.nonce claim.auth (is_blank claim.auth)
claimed_well a claim look false = (tt, tt, λ given is. drawn_all AsksWell tt (switched_to a look) (switched_well a look) given)

responded_well : (nonce : List ℕ) (found : Result Response ℕ) → AsksWell (responded nonce found)
responded_well nonce (Ok said) =
    let a = attempt_of said in
    let claim = claim_of nonce said in (
      tt,
      tt,
      λ given is. look_all AsksWell tt (λ look. claimed a claim look (is_named claim look)) (λ look. claimed_well a claim look (is_named claim look)) given,
    )
responded_well nonce (Err at) = tt

greeting_well : (id : ℕ) (nonce : List ℕ) → AsksWell (greeting id nonce)
unfolding heard_by
greeting_well id nonce = λ payload. responded_well nonce (response.read (start payload))

pub session_well : (id : ℕ) → AsksWell (session id)
session_well id = (tt, tt, λ given is. start_all AsksWell tt (greeting id) (greeting_well id) given)

-- ## The law

heard_well : (t : SessionTalk) (given : Input) → AsksWell t → IsTrue (is_answer t given) → AsksWell (heard t given)
unfolding heard is_answer
heard_well (Says payload t) given well is = absurd (untrue is)
heard_well (Hears anew k) (input.Packet packet) well is = well packet.payload
heard_well (Hears anew k) (input.Frame fault) well is = faulted_well fault
heard_well (Hears anew k) (input.End cut) well is = tt
heard_well (Hears anew k) input.LinkFailed well is = tt
heard_well (Hears anew k) _ well is = absurd (untrue is)
heard_well (Asks q k) given well is = well.2 given is
heard_well (Over how) given well is = tt

asks_well : (next : ℕ) (t : SessionTalk) → IsBegun t → AsksWell t → CanBeDone (asked next t)
unfolding question
asks_well next (Says payload t) begun well = absurd begun
asks_well next (Hears anew k) begun well = tt
asks_well next (Asks Begins k) begun well = absurd begun
asks_well next (Asks (Own asked) k) begun well = well.1
asks_well next (Over how) begun well = tt

pub asks_can_be_done : AsksCanBeDone
asks_can_be_done = record {
  begins = session_well;
  goes_on = λ t given well is. rest_well (heard t given) (heard_well t given well is);
  asks = asks_well;
}
