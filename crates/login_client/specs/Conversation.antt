-- The client's end of a login. After the greeting it takes at most one switch, then at most one of 01 03 and
-- 01 04, both for caching_sha2_password alone, then at most two further factors, and OK or ERR at any point. The
-- first payload that fits nowhere in that is malformed: at place 0, or where a message that may stand there
-- breaks off.
use Rattle.std.specs.Prelude.{◌≡◌, ℕ, List, [], ◌∷◌, Option, Some, None, if◌then◌else◌}
use Rattle.auth_packets.specs.Handshake.{response_text}
use Rattle.auth_packets.specs.declared.handshake.Response.{Response}
use Rattle.auth_packets.specs.declared.exchange.Switch.{Switch}
use Rattle.login_client.specs.Methods.{answer_of, clear_text, first_method, method_of, name_of, nonce_of}
use Rattle.login_client.specs.Talk.{Talk, Hears, Says, Over, Leads, result_of}
use Rattle.login_client.specs.declared.claims.Claim.{Claim}
use Rattle.login_client.specs.declared.ends.LoginEnd.{LoginEnd}
use Rattle.login_client.specs.declared.ends.LoginEnd.TheVariants.{Opened, Refused, Malformed, WontSend}
use Rattle.login_client.specs.declared.ends.Reason.TheVariants.{UnknownMethod, NoSecret, NotLocal, ClearNotPermitted}
use Rattle.login_client.specs.declared.methods.Method.{Method}
use Rattle.login_client.specs.declared.methods.Method.TheVariants.{Native, CachingSha2, Clear, Unknown}
use Rattle.login_client.specs.declared.hearing.Heard.{Heard}
use Rattle.login_client.specs.declared.hearing.Heard.TheVariants.{Greets, Switches, Fast, Full, Asks, Accepts, Refuses, BrokenGreeting, BrokenSwitch, BrokenFactor, BrokenOk, BrokenErr, Other}

abbrev pub malformed : ℕ → Talk
malformed at = Over (Malformed at)

-- OK or ERR
unfoldable pub ended : Heard → Talk
ended Accepts = Over Opened
ended (Refuses number) = Over (Refused number)
ended (BrokenOk at) = malformed at
ended (BrokenErr at) = malformed at
ended (Greets g) = malformed 0
ended (Switches s at) = malformed 0
ended Fast = malformed 0
ended Full = malformed 0
ended (Asks f) = malformed 0
ended (BrokenGreeting at) = malformed 0
ended (BrokenSwitch at) = malformed 0
ended (BrokenFactor at) = malformed 0
ended Other = malformed 0

-- a secret is said in the clear, where there is one, the peer is on this machine, and the method is permitted
unfoldable pub clear : Claim → Option (List ℕ) → (Heard → Talk) → Talk
clear claim None k = Over (WontSend NoSecret)
clear claim (Some secret) k =
    if claim.local then (if claim.options.clear then Says (clear_text secret) k else Over (WontSend ClearNotPermitted))
    else Over (WontSend NotLocal)

-- the secret of a further factor, by the method that it asks for
unfoldable pub asked : Claim → Method → Option (List ℕ) → (Heard → Talk) → Talk
asked claim Native secret k = Over (WontSend UnknownMethod)
asked claim CachingSha2 secret k = Over (WontSend UnknownMethod)
asked claim Clear secret k = clear claim secret k
asked claim Unknown secret k = Over (WontSend UnknownMethod)

-- a factor may be asked for, of which this is the secret
unfoldable pub factor : Claim → Option (List ℕ) → (Heard → Talk) → Heard → Talk
factor claim secret k (Asks f) = asked claim (method_of f.plugin) secret k
factor claim secret k (BrokenFactor at) = malformed at
factor claim secret k heard = ended heard

-- so many further factors may be asked for as there are secrets here
unfoldable pub factors : Claim → List (Option (List ℕ)) → Heard → Talk
factors claim [] = ended
factors claim (secret ∷ secrets) = factor claim secret (factors claim secrets)

-- the secrets of the second and the third factor
abbrev pub further : Claim → List (Option (List ℕ))
further claim = claim.secrets.second ∷ claim.secrets.third ∷ []

-- the first secret in the clear, where the peer is on this machine
unfoldable pub full : Claim → Talk
full claim = if claim.local then Says (clear_text claim.secrets.first) (factors claim (further claim)) else Over (WontSend NotLocal)

-- after an answer by caching_sha2_password
unfoldable pub cached : Claim → Heard → Talk
cached claim Fast = Hears (factors claim (further claim))
cached claim Full = full claim
cached claim heard = factors claim (further claim) heard

-- after an answer by a method
unfoldable pub answered : Claim → Method → Heard → Talk
answered claim Native = factors claim (further claim)
answered claim CachingSha2 = cached claim
answered claim Clear = factors claim (further claim)
answered claim Unknown = factors claim (further claim)

-- the answer to the nonce of a switch, whose data begins at a place of its payload
unfoldable pub nonced : Claim → Method → Option (List ℕ) → ℕ → Talk
nonced claim method None at = malformed at
nonced claim method (Some nonce) at = Says (answer_of method claim.secrets.first nonce) (answered claim method)

-- a switch to a method
unfoldable pub switched : Claim → Method → Switch → ℕ → Talk
switched claim Native s at = nonced claim Native (nonce_of s.body) at
switched claim CachingSha2 s at = nonced claim CachingSha2 (nonce_of s.body) at
switched claim Clear s at = clear claim (Some claim.secrets.first) (answered claim Clear)
switched claim Unknown s at = Over (WontSend UnknownMethod)

-- after the response, whose answer was by a method
unfoldable pub responded : Claim → Method → Heard → Talk
responded claim method (Switches s at) = switched claim (method_of s.plugin) s at
responded claim method (BrokenSwitch at) = malformed at
responded claim method heard = answered claim method heard

-- the response to a nonce
unfoldable pub response_to : Claim → Method → List ℕ → Response
response_to claim method nonce = record {
  flags = claim.options.flags;
  max_packet = 16777216;
  charset = 255;
  user = claim.user;
  auth = answer_of method claim.secrets.first nonce;
  database = None;
  plugin = name_of method;
  attributes = None;
  rest = [];
}

-- the greeting was answered by a method
abbrev pub opened_by : Claim → Method → List ℕ → Talk
opened_by claim method nonce = Says (response_text (response_to claim method nonce)) (responded claim method)

-- the greeting
unfoldable pub greeted : Claim → Heard → Talk
greeted claim (Greets g) = opened_by claim (first_method (method_of g.plugin)) g.nonce
greeted claim (Refuses number) = Over (Refused number)
greeted claim (BrokenGreeting at) = malformed at
greeted claim (BrokenErr at) = malformed at
greeted claim (Switches s at) = malformed 0
greeted claim Fast = malformed 0
greeted claim Full = malformed 0
greeted claim (Asks f) = malformed 0
greeted claim Accepts = malformed 0
greeted claim (BrokenSwitch at) = malformed 0
greeted claim (BrokenFactor at) = malformed 0
greeted claim (BrokenOk at) = malformed 0
greeted claim Other = malformed 0

-- a whole login
abbrev pub conversation : Claim → Talk
conversation claim = Hears (greeted claim)

-- what the client has written once it got these payloads, and its result, if it has one
pub record ClientTalk (claim : Claim) (got written : List (List ℕ)) (result : Option LoginEnd) : Type 0 where
  pub now : Talk
  pub leads : Leads (conversation claim) got written now
  pub result_is : result ≡ result_of now
