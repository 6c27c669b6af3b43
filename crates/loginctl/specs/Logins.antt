-- What `login` does and prints: the client's result in words, and a status.
use Rattle.std.specs.Prelude.{◌≡◌, ℕ, Bool, List, [], ◌++◌, ◌∷◌, Option, unwrap_or, if◌then◌else◌}
use Rattle.lg_outside.specs.Faults.{Rose}
use Rattle.lg_outside.specs.Links.{dialled_also}
use Rattle.login_client.specs.Conversation.{conversation}
use Rattle.login_client.specs.Exchange.{EndsAs}
use Rattle.login_client.specs.declared.claims.Claim.{Claim}
use Rattle.login_client.specs.declared.claims.Secrets.{Secrets}
use Rattle.login_client.specs.declared.claims.ClientOptions.{ClientOptions}
use Rattle.login_client.specs.declared.ends.LoginEnd.{LoginEnd}
use Rattle.login_client.specs.declared.ends.LoginEnd.TheVariants.{Opened, Refused, Malformed, Framing, WontSend, PeerClosed, LinkFault, Memory}
use Rattle.client_wire.specs.Words.{end_words}
use Rattle.loginctl.specs.LoginWords.{Choice}
use Rattle.loginctl.specs.Outsides.{LinkState}
use Rattle.loginctl.specs.Printing.{Printed, Wrote}
use Rattle.loginctl.specs.declared.status.Status.{Status}
use Rattle.loginctl.specs.declared.status.Status.TheVariants.{BadAnswer, Done, InputFault, LoginRefused, NoMemory, NotSent}

-- the path of the server's socket
abbrev pub path_of : Choice → List ℕ
path_of c = unwrap_or c.socket []

-- the secrets of a choice; without a password the first one is empty
abbrev pub secrets_of : Choice → Secrets
secrets_of c = record { first = unwrap_or c.password []; second = c.factor2; third = c.factor3 }

-- PROTOCOL_41, TRANSACTIONS, SECURE_CONNECTION, PLUGIN_AUTH, PLUGIN_AUTH_LENENC_CLIENT_DATA and
-- MULTI_FACTOR_AUTHENTICATION, and CAN_HANDLE_EXPIRED_PASSWORDS where that is chosen
abbrev pub flags_of : Bool → ℕ
flags_of expired = if expired then 0x1068A200 else 0x1028A200

abbrev pub options_of : Choice → ClientOptions
options_of c = record { flags = flags_of c.expired; clear = c.clear }

abbrev pub claim_of : Choice → Bool → Claim
claim_of c local = record { user = unwrap_or c.user []; secrets = secrets_of c; options = options_of c; local = local }

abbrev pub login_line : LoginEnd → List ℕ
login_line end = end_words end ++ 10 ∷ []

abbrev pub login_status : LoginEnd → Status
login_status Opened = Done
login_status (Refused number) = LoginRefused
login_status (Malformed at) = BadAnswer
login_status (Framing fault) = BadAnswer
login_status (WontSend reason) = NotSent
login_status PeerClosed = BadAnswer
login_status LinkFault = InputFault
login_status Memory = NoMemory

-- how a login over a link ended, by the link before and after it
pub data LogsIn (choice : Choice) (local : Bool) (before after : LinkState) : LoginEnd → Type 0 where
  -- the link could not be connected
  undialled : after.told ≡ before.told → after.dialled ≡ before.dialled → Rose before.faults after.faults → LogsIn choice local before after LinkFault
  -- there was no memory for what the client needs
  unmade : after ≡ before → LogsIn choice local before after Memory
  -- it was connected, once and to the path of the words
  talked : (end : LoginEnd) → after.dialled ≡ dialled_also (path_of choice) before.dialled
      → EndsAs (conversation (claim_of choice local)) 0 0 before.told after.told (Rose before.faults after.faults) end → LogsIn choice local before after end

abbrev pub IsTold : LoginEnd → Type 0
IsTold Memory = ⊥
IsTold _ = Unit {0}

-- What `login` answers, by the link before and after, what was written before and after, and whether the sink's count of
-- faults rose.
pub data AnswersLogin (choice : Choice) (local : Bool) (before after : LinkState) (out out' : Option (List ℕ)) (SinkRose : Type 0) : Status → Type 0 where
  told : (end : LoginEnd) (result : Status) → LogsIn choice local before after end → IsTold end
      → Printed out out' SinkRose (login_status end) (login_line end) result → AnswersLogin choice local before after out out' SinkRose result
  no_memory : (end : LoginEnd) → LogsIn choice local before after end → Wrote out out' [] → AnswersLogin choice local before after out out' SinkRose NoMemory
