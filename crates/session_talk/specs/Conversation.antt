-- One attempt to log in, whole: a relation between the session's number, the moves that were made, in order, and the
-- reply. The moves are laid end to end, part by part.
--
-- MySQL client/server protocol, "Connection Phase", "Protocol::AuthSwitchRequest" and "Caching SHA-2 Pluggable
-- Authentication".
use Rattle.std.specs.Prelude.{◌≡◌, ◌≢◌, ◌⊎◌, ℕ, true, false, List, [], ◌∷◌, ◌++◌, Result, Ok, Err}
use Rattle.lg_base.specs.declared.errors.Code.{Code}
use Rattle.factor_chain.specs.Checking.{known_fits_of}
use Rattle.factor_chain.specs.declared.credentials.Look.{Look}
use Rattle.factor_chain.specs.declared.credentials.Method.TheVariants.{Native, CachingSha2}
use Rattle.factor_chain.specs.declared.evidence_list.Evidence.{Evidence}
use Rattle.factor_chain.specs.declared.evidence_list.Evidence.TheVariants as evidence
use Rattle.account_history.specs.declared.entries.Reply.{Reply}
use Rattle.account_history.specs.declared.entries.Who.{Who}
use Rattle.account_history.specs.declared.entries.Who.TheVariants.{Login}
use Rattle.auth_packets.specs.Handshake.{response}
use Rattle.auth_packets.specs.declared.handshake.Response.{Response}
use Rattle.interaction.specs.Talk as reading
use Rattle.interaction.specs.Talk.{Says, Hears, Asks}
use Rattle.session_talk.specs.declared.actions.Ask.TheVariants as ask
use Rattle.session_talk.specs.declared.inputs.Input.TheVariants as input
use Rattle.session_talk.specs.declared.open_session.OpenSession.{OpenSession}
use Rattle.session_talk.specs.Logins.{attempt_of, clear_evidence, decided, method_of, without_zero}
use Rattle.session_talk.specs.Talk.{Begins, Own, SessionTalk}
use Rattle.session_talk.specs.Texts.{error_payload, fast_payload, full_payload, greeting_payload, method_name, ok_payload, switch_payload}

-- what happens in a session, in order
pub data Move : Type 0 where
  -- a nonce was drawn
  Drew : List ℕ → Move
  -- a payload was sent
  Sent : List ℕ → Move
  -- a payload was got
  Got : List ℕ → Move
  -- an account was looked at
  Looked : Who → Look → Move
  -- the attempt wasn't settled: the look may be out of date
  Stale : Move
  -- the attempt of a user was settled
  Settled : (user : List ℕ) → List Evidence → (flags : ℕ) → Reply → Move

-- ## How the answer to a nonce was got

pub data Exchange : Type 0 where
  -- the client named the account's method, and its response has the answer to the greeting's nonce
  Named : Exchange
  -- the client was told to switch, and answered to a fresh nonce
  Switched : (fresh answer : List ℕ) → Exchange

abbrev pub IsExchange : Response → Look → Exchange → Type 0
IsExchange r look Named = r.plugin ≡ method_name (method_of look)
IsExchange r look (Switched fresh answer) = r.plugin ≢ method_name (method_of look)

abbrev pub exchange_moves : Look → Exchange → List Move
exchange_moves look Named = []
exchange_moves look (Switched fresh answer) = Drew fresh ∷ Sent (switch_payload (method_of look) fresh) ∷ Got answer ∷ []

abbrev pub nonce_in : List ℕ → Exchange → List ℕ
nonce_in nonce Named = nonce
nonce_in nonce (Switched fresh answer) = fresh

abbrev pub answer_in : Response → Exchange → List ℕ
answer_in r Named = r.auth
answer_in r (Switched fresh answer) = answer

-- ## What the answer proves

pub data Proof : Type 0 where
  -- no password was used
  Blank : Proof
  -- an answer of mysql_native_password
  Answered : Proof
  -- an answer of caching_sha2_password that fits a digest in the look
  Known : Proof
  -- one that fits none, and the password in the clear
  Clear : (text : List ℕ) → Proof

-- the answer is empty, or one byte 00
abbrev pub IsBlank : List ℕ → Type 0
IsBlank answer = (answer ≡ []) ⊎ (answer ≡ 0 ∷ [])

abbrev pub IsProof : Look → (nonce answer : List ℕ) → Proof → Type 0
IsProof look nonce answer Blank = IsBlank answer
IsProof look nonce answer Answered = (¬ IsBlank answer) × (method_of look ≡ Native)
IsProof look nonce answer Known =
    (¬ IsBlank answer) × (method_of look ≡ CachingSha2) × (known_fits_of look.in_force nonce answer ≡ true)
IsProof look nonce answer (Clear text) =
    (¬ IsBlank answer) × (method_of look ≡ CachingSha2) × (known_fits_of look.in_force nonce answer ≡ false)

abbrev pub proof_moves : Proof → List Move
proof_moves Blank = []
proof_moves Answered = []
proof_moves Known = Sent fast_payload ∷ []
proof_moves (Clear text) = Sent full_payload ∷ Got text ∷ []

abbrev pub evidence_in : (nonce answer : List ℕ) → Proof → Evidence
evidence_in nonce answer Blank = evidence.Empty
evidence_in nonce answer Answered = evidence.Native nonce answer
evidence_in nonce answer Known = evidence.Fast nonce answer
evidence_in nonce answer (Clear text) = clear_evidence (without_zero text)

-- ## Settling

pub data Settling : Type 0 where
  AtOnce : Settling
  -- after one stale answer, and after two, the account is looked at again
  Once : (again : Look) → Settling
  Twice : (again : Look) → Settling

abbrev pub settling_moves : (user : List ℕ) → Look → List Evidence → (flags : ℕ) → Settling → Reply → List Move
settling_moves user look evidences flags AtOnce reply = Settled look.user evidences flags reply ∷ []
settling_moves user look evidences flags (Once again) reply =
    Stale ∷ Looked (Login user) again ∷ Settled again.user evidences flags reply ∷ []
settling_moves user look evidences flags (Twice again) reply =
    Stale ∷ Looked (Login user) again ∷ Stale ∷ Settled user evidences flags reply ∷ []

-- OK, or the error that names the rule
abbrev pub last_payload : Result OpenSession Code → List ℕ
last_payload (Ok opened) = ok_payload
last_payload (Err error) = error_payload error

-- ## The whole

abbrev pub greeting_moves : (id : ℕ) → (nonce payload : List ℕ) → List Move
greeting_moves id nonce payload = Drew nonce ∷ Sent (greeting_payload id nonce) ∷ Got payload ∷ []

pub record Conversation (id : ℕ) (moves : List Move) (reply : Reply) : Type 0 where
  pub nonce : List ℕ
  pub payload : List ℕ
  pub said : Response
  pub look : Look
  pub exchange : Exchange
  pub proof : Proof
  pub settling : Settling
  -- the client's response is spelled by the payload
  pub spelled : response.Spells said payload
  pub exchanged : IsExchange said look exchange
  pub proved : IsProof look (nonce_in nonce exchange) (answer_in said exchange) proof
  pub laid_out : moves ≡
      greeting_moves id nonce payload
      ++ (Looked (Login said.user) look ∷ (exchange_moves look exchange
      ++ (proof_moves proof
      ++ (settling_moves said.user look (evidence_in (nonce_in nonce exchange) (answer_in said exchange) proof ∷ []) said.flags settling reply
      ++ Sent (last_payload (decided (attempt_of said) reply)) ∷ []))))

-- ## The moves of a talk

-- a talk goes on to another by these moves
abbrev pub Goes : SessionTalk → List Move → SessionTalk → Type 0
Goes (Asks (Own (ask.Check look evidences)) k) moves after =
    Goes (k (input.Checked (record { look = look; evidences = evidences }))) moves after
Goes t [] after = after ≡ t
Goes (Says payload t) (Sent p ∷ moves) after = (p ≡ payload) × Goes t moves after
Goes (Hears anew k) (Got payload ∷ moves) after = Goes (k (reading.Got payload)) moves after
Goes (Asks Begins k) (Drew nonce ∷ moves) after = Goes (k (input.Start nonce)) moves after
Goes (Asks (Own ask.Draw) k) (Drew nonce ∷ moves) after = Goes (k (input.Drawn nonce)) moves after
Goes (Asks (Own (ask.Observe whose)) k) (Looked who look ∷ moves) after = (who ≡ whose) × Goes (k (input.Looked look)) moves after
Goes (Asks (Own (ask.Renew whose)) k) (Looked who look ∷ moves) after = (who ≡ whose) × Goes (k (input.Looked look)) moves after
Goes (Asks (Own (ask.Settle checked flags)) k) (Stale ∷ moves) after = Goes (k (input.Stale checked.evidences)) moves after
Goes (Asks (Own (ask.Settle checked flags)) k) (Settled user evidences given reply ∷ moves) after =
    (user ≡ checked.look.user) × (evidences ≡ checked.evidences) × (given ≡ flags) × Goes (k (input.Settled reply)) moves after
Goes (Asks (Own (ask.SettleLocked whose held flags)) k) (Settled user evidences given reply ∷ moves) after =
    (user ≡ whose) × (evidences ≡ held) × (given ≡ flags) × Goes (k (input.Settled reply)) moves after
Goes _ _ after = ⊥
