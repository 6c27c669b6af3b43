-- When a client says a secret in the clear.
use Rattle.std.specs.Prelude.{◌≡◌, ℕ, List, true, Some}
use Rattle.auth_packets.specs.Handshake.{response_text}
use Rattle.auth_packets.specs.declared.exchange.Switch.{Switch}
use Rattle.auth_packets.specs.declared.exchange.NextFactor.{NextFactor}
use Rattle.login_client.specs.Conversation.{response_to}
use Rattle.login_client.specs.Methods.{answer_of, clear_text, method_of}
use Rattle.login_client.specs.Talk.{Talk, Hears, Says, Over}
use Rattle.login_client.specs.declared.claims.Claim.{Claim}
use Rattle.login_client.specs.declared.methods.Method.{Method}
use Rattle.login_client.specs.declared.methods.Method.TheVariants.{Clear}
use Rattle.login_client.specs.declared.hearing.Heard.{Heard}
use Rattle.login_client.specs.declared.hearing.Heard.TheVariants.{Switches, Full, Asks}

-- What may be said at what was heard: a response or an answer, in which secrets are hidden; or a secret in the
-- clear, to a server on this machine, after 01 04, or where the method is permitted after a switch to it or for a
-- further factor.
pub data MaySay (claim : Claim) : Heard → List ℕ → Type 0 where
  response : (heard : Heard) (method : Method) (nonce : List ℕ) → MaySay claim heard (response_text (response_to claim method nonce))
  answer : (heard : Heard) (method : Method) (nonce : List ℕ) → MaySay claim heard (answer_of method claim.secrets.first nonce)
  full : claim.local ≡ true → MaySay claim Full (clear_text claim.secrets.first)
  switch : (s : Switch) (at : ℕ) → method_of s.plugin ≡ Clear → claim.local ≡ true → claim.options.clear ≡ true
      → MaySay claim (Switches s at) (clear_text claim.secrets.first)
  second : (f : NextFactor) (secret : List ℕ) → method_of f.plugin ≡ Clear → claim.local ≡ true → claim.options.clear ≡ true
      → claim.secrets.second ≡ Some secret → MaySay claim (Asks f) (clear_text secret)
  third : (f : NextFactor) (secret : List ℕ) → method_of f.plugin ≡ Clear → claim.local ≡ true → claim.options.clear ≡ true
      → claim.secrets.third ≡ Some secret → MaySay claim (Asks f) (clear_text secret)

-- whatever a talk says from here on, after what was heard last, it may say
abbrev pub KeepsTo : Claim → Heard → Talk → Type 0
KeepsTo claim before (Hears k) = (heard : Heard) → KeepsTo claim heard (k heard)
KeepsTo claim before (Says said k) = MaySay claim before said × ((heard : Heard) → KeepsTo claim heard (k heard))
KeepsTo claim before (Over end) = Unit {0}
