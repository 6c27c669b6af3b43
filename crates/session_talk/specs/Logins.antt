-- A session, part by part: MySQL client/server protocol, "Connection Phase" with its plugins
-- mysql_native_password and caching_sha2_password, and "Command Phase".
use Rattle.std.specs.Prelude.{ℕ, zero, suc, Bool, true, false, List, [], ◌∷◌, Option, Some, None, Result, Ok, Err}
use Rattle.std.specs.Str.{bytes_eq}
use Rattle.lg_base.specs.declared.errors.Code.{Code}
use Rattle.lg_base.specs.declared.errors.Code.TheVariants as code
use Rattle.lg_base.specs.declared.names.Host.{Host}
use Rattle.lg_base.specs.Errors.{number_of}
use Rattle.packet_frame.specs.declared.packets.FrameFault.{FrameFault}
use Rattle.packet_frame.specs.declared.packets.FrameFault.TheVariants.{TooLarge, OutOfOrder, Memory as NoMemory}
use Rattle.factor_chain.specs.CheckedOf.{CheckedOf}
use Rattle.factor_chain.specs.Checking.{known_fits_of}
use Rattle.factor_chain.specs.declared.credentials.InForce.{InForce}
use Rattle.factor_chain.specs.declared.credentials.Look.{Look}
use Rattle.factor_chain.specs.declared.credentials.Method.{Method}
use Rattle.factor_chain.specs.declared.credentials.Method.TheVariants.{Native, CachingSha2}
use Rattle.factor_chain.specs.declared.evidence_list.Evidence.{Evidence}
use Rattle.factor_chain.specs.declared.evidence_list.Evidence.TheVariants as evidence
use Rattle.account_history.specs.declared.entries.Reply.{Reply}
use Rattle.account_history.specs.declared.entries.Reply.TheVariants.{Opened, Sandbox, Blocked, Denied, Locked, MustChange}
use Rattle.account_history.specs.declared.entries.Who.TheVariants.{Login}
use Rattle.wire_form.specs.Payloads.{start}
use Rattle.auth_packets.specs.Commands.{command}
use Rattle.auth_packets.specs.Handshake.{response}
use Rattle.auth_packets.specs.declared.commands.Command.{Command}
use Rattle.auth_packets.specs.declared.commands.Command.TheVariants.{Quit, Query, Ping, Reset, ChangeUser as Change, Other, Nothing}
use Rattle.auth_packets.specs.declared.handshake.Response.{Response}
use Rattle.interaction.specs.Talk.{Reading, Got, Faulty, PeerClosed, LinkFailed, Says, Hears, Over}
use Rattle.session_talk.specs.declared.attempts.Attempting.{Attempting}
use Rattle.session_talk.specs.declared.attempts.Claim.{Claim}
use Rattle.session_talk.specs.declared.ends.SessionEnd.{SessionEnd}
use Rattle.session_talk.specs.declared.ends.SessionEnd.TheVariants as end
use Rattle.session_talk.specs.declared.open_session.OpenSession.{OpenSession}
use Rattle.session_talk.specs.Statements.{queried}
use Rattle.session_talk.specs.Talk.{SessionTalk, checks, draws, looks, renews, settles, settles_locked, starts}
use Rattle.session_talk.specs.Texts.{days_of, error_payload, fast_payload, full_payload, greeting_payload, method_name, ok_payload, switch_payload}

-- ## Ends

-- an error is sent, and the session ends
abbrev pub closing : Code → SessionEnd → SessionTalk
closing error how = Says (error_payload error) (Over how)

-- the peer broke the protocol at a place
abbrev pub broken : Code → ℕ → SessionTalk
broken error at = closing error (end.Bad (number_of error) at)

-- a fault of framing is told, and ends the session
abbrev pub faulted : FrameFault → SessionTalk
faulted (TooLarge at) = broken code.TooLarge at
faulted (OutOfOrder at want got) = broken code.OutOfOrder at
faulted NoMemory = Over end.Memory

-- ## Reading

-- how a session that waits for a payload goes on with what is read
unfoldable pub heard_by : ((payload : List ℕ) → SessionTalk) → Reading → SessionTalk
heard_by k (Got payload) = k payload
heard_by k (Faulty fault) = faulted fault
heard_by k (PeerClosed cut) = Over (end.PeerClosed cut)
heard_by k LinkFailed = Over end.LinkFault

abbrev pub hears : (anew : Bool) → ((payload : List ℕ) → SessionTalk) → SessionTalk
hears anew k = Hears anew (heard_by k)

-- ## Commands

-- a session that says that all went well, or an error, and goes on
abbrev pub done : SessionTalk → SessionTalk
done next = Says ok_payload next

-- a command, and how the session goes on with what it then knows of itself: COM_QUIT ends the session, COM_PING and
-- COM_RESET_CONNECTION change nothing, COM_QUERY brings a statement, and no other command is known
abbrev pub commanded : Result Command ℕ → (OpenSession → SessionTalk) → OpenSession → SessionTalk
commanded (Ok Quit) goes_on opened = Over end.Quit
commanded (Ok Ping) goes_on opened = done (goes_on opened)
commanded (Ok Reset) goes_on opened = done (goes_on opened)
commanded (Ok (Query text)) goes_on opened = queried goes_on opened text
commanded (Ok (Change v)) goes_on opened = Says (error_payload code.UnknownCommand) (goes_on opened)
commanded (Ok (Other first)) goes_on opened = Says (error_payload code.UnknownCommand) (goes_on opened)
commanded (Ok Nothing) goes_on opened = Says (error_payload code.UnknownCommand) (goes_on opened)
commanded (Err at) goes_on opened = Says (error_payload code.UnknownCommand) (goes_on opened)

abbrev pub with_left : (left : ℕ) → OpenSession → OpenSession
with_left left opened = record opened { left = left }

-- a payload that is read as a command: so many are still done, and at the one after them the session ends
unfoldable pub next_command : (left : ℕ) → OpenSession → List ℕ → SessionTalk
next_command zero opened payload = Over end.SessionLong
next_command (suc left) opened payload =
    commanded (command.read (start payload)) (λ later. hears true (next_command left later)) (with_left left opened)

abbrev pub commands_left : (left : ℕ) → OpenSession → SessionTalk
commands_left left opened = hears true (next_command left opened)

abbrev pub commands : OpenSession → SessionTalk
commands opened = commands_left opened.left opened

-- of a session's commands the 1,048,576th isn't done
abbrev pub all_commands : ℕ
all_commands = 1048575

-- ## The reply to an attempt

-- what a session knows of itself that an attempt opens on an account
abbrev pub opened_on : Attempting → (account : ℕ) → Host → (sandbox : Bool) → OpenSession
opened_on a account host sandbox = record {
  account = account;
  name = record { user = a.user; host = host };
  sandbox = sandbox;
  flags = a.flags;
  left = all_commands;
}

-- the session that a reply opens, or the error that names the rule by which the attempt is refused
abbrev pub decided : Attempting → Reply → Result OpenSession Code
decided a (Opened account host) = Ok (opened_on a account host false)
decided a (Sandbox account host) = Ok (opened_on a account host true)
decided a (Blocked rule left) = Err (code.Blocked a.user (days_of rule.time) left rule.attempts)
decided a (Denied using_password) = Err (code.Denied a.user using_password)
decided a Locked = Err (code.Locked a.user)
decided a MustChange = Err code.MustChange

abbrev pub answered : Result OpenSession Code → SessionTalk
answered (Ok opened) = done (commands opened)
answered (Err error) = closing error (end.Refused (number_of error))

-- a session opens, or the refusal is told and it ends
abbrev pub outcome : Attempting → Reply → SessionTalk
outcome a reply = answered (decided a reply)

-- ## Settling

-- after a second stale answer the evidence is checked in the same step
abbrev pub locking : Attempting → List Evidence → SessionTalk
locking a evidences = settles_locked a.user evidences a.flags (outcome a)

-- evidence that was checked is settled; a stale answer goes on otherwise
abbrev pub settling_or : SessionTalk → Attempting → CheckedOf → SessionTalk
settling_or stale a checked = settles checked a.flags stale (outcome a)

abbrev pub checking_or : SessionTalk → Attempting → Look → List Evidence → SessionTalk
checking_or stale a look evidences =
    checks look evidences (settling_or stale a (record { look = look; evidences = evidences }))

-- after a first stale answer the account is looked at again, and nothing is asked of the client
abbrev pub renewing : Attempting → List Evidence → SessionTalk
renewing a evidences = renews (Login a.user) (λ look. checking_or (locking a evidences) a look evidences)

-- what follows a stale answer, the first one or the second
abbrev pub after_stale : (again : Bool) → Attempting → List Evidence → SessionTalk
after_stale false a evidences = renewing a evidences
after_stale true a evidences = locking a evidences

-- evidence on a look is checked, and then settled
abbrev pub checking : (again : Bool) → Attempting → Look → List Evidence → SessionTalk
checking again a look evidences = checking_or (after_stale again a evidences) a look evidences

abbrev pub settling : (again : Bool) → Attempting → CheckedOf → SessionTalk
settling again a checked = settling_or (after_stale again a checked.evidences) a checked

-- ## The first factor

-- the method of the account that the look shows, or caching_sha2_password where there is none
abbrev pub method_in : Option InForce → Method
method_in None = CachingSha2
method_in (Some account) = account.method

abbrev pub method_of : Look → Method
method_of look = method_in look.in_force

-- no password was used: the answer is empty or one byte 00
abbrev pub is_blank : List ℕ → Bool
is_blank [] = true
is_blank (zero ∷ []) = true
is_blank (suc _ ∷ []) = false
is_blank (_ ∷ _ ∷ _) = false

-- a text without one last 00
abbrev pub without_zero : List ℕ → List ℕ
without_zero [] = []
without_zero (zero ∷ []) = []
without_zero (suc b ∷ []) = suc b ∷ []
without_zero (b ∷ c ∷ bytes) = b ∷ without_zero (c ∷ bytes)

-- a password in the clear
abbrev pub clear_evidence : List ℕ → Evidence
clear_evidence [] = evidence.Empty
clear_evidence (b ∷ bytes) = evidence.Full (b ∷ bytes)

-- one piece of evidence on the first look
abbrev pub proved : Attempting → Look → Evidence → SessionTalk
proved a look given = checking false a look (given ∷ [])

-- the password in the clear
abbrev pub clearing : Attempting → Look → SessionTalk
clearing a look = hears false (λ text. proved a look (clear_evidence (without_zero text)))

-- an answer of caching_sha2_password: it fits a digest that the look shows, or the password is asked for
abbrev pub caching : Attempting → Look → (nonce answer : List ℕ) → (known : Bool) → SessionTalk
caching a look nonce answer true = Says fast_payload (proved a look (evidence.Fast nonce answer))
caching a look nonce answer false = Says full_payload (clearing a look)

abbrev pub proving : Attempting → Look → (nonce answer : List ℕ) → Method → SessionTalk
proving a look nonce answer Native = proved a look (evidence.Native nonce answer)
proving a look nonce answer CachingSha2 = caching a look nonce answer (known_fits_of look.in_force nonce answer)

-- the answer to a nonce
abbrev pub answering : Attempting → Look → (nonce answer : List ℕ) → (blank : Bool) → SessionTalk
answering a look nonce answer true = proved a look evidence.Empty
answering a look nonce answer false = proving a look nonce answer (method_of look)

abbrev pub answer : Attempting → Look → (nonce answer : List ℕ) → SessionTalk
answer a look nonce bytes = answering a look nonce bytes (is_blank bytes)

-- a client that named another method is told to switch, and answers to a fresh nonce
abbrev pub switched : Attempting → Look → (nonce : List ℕ) → SessionTalk
switched a look nonce = hears false (λ bytes. answer a look nonce bytes)

abbrev pub switching : Attempting → Look → SessionTalk
switching a look = draws (λ nonce. Says (switch_payload (method_of look) nonce) (switched a look nonce))

-- the client named the method of the account that the look shows, or another
abbrev pub is_named : Claim → Look → Bool
is_named claim look = bytes_eq claim.plugin (method_name (method_of look))

abbrev pub claimed : Attempting → Claim → Look → (named : Bool) → SessionTalk
claimed a claim look true = answer a look claim.nonce claim.auth
claimed a claim look false = switching a look

-- ## The session

abbrev pub looking : Attempting → Claim → SessionTalk
looking a claim = looks (Login a.user) (λ look. claimed a claim look (is_named claim look))

abbrev pub attempt_of : Response → Attempting
attempt_of r = record { user = r.user; flags = r.flags }

abbrev pub claim_of : (nonce : List ℕ) → Response → Claim
claim_of nonce r = record { nonce = nonce; plugin = r.plugin; auth = r.auth }

-- the client's response to the greeting
abbrev pub responded : (nonce : List ℕ) → Result Response ℕ → SessionTalk
responded nonce (Ok r) = looking (attempt_of r) (claim_of nonce r)
responded nonce (Err at) = broken code.BadHandshake at

abbrev pub greeted : (nonce : List ℕ) → SessionTalk
greeted nonce = hears false (λ payload. responded nonce (response.read (start payload)))

abbrev pub greeting : (id : ℕ) → (nonce : List ℕ) → SessionTalk
greeting id nonce = Says (greeting_payload id nonce) (greeted nonce)

-- a whole session
abbrev pub session : (id : ℕ) → SessionTalk
session id = starts (greeting id)
