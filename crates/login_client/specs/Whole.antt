-- A login that the server brings to its end, by its parts laid end to end: the greeting; nothing, or one switch to
-- another method; nothing, or one of 01 03 and 01 04, where the last answer was by caching_sha2_password; up to two
-- further factors; and OK or ERR. What the parts ask the client for stands beside them in the same order, and what the
-- client writes is what it was asked for, a payload each. No talk is in it: nothing says what comes next.
use Rattle.std.specs.Prelude.{◌≡◌, ◌≢◌, ◌⊎◌, ℕ, true, List, [], ◌∷◌, ◌++◌, length, Option, Some, is_some}
use Rattle.std.specs.List.{AllZip}
use Rattle.auth_packets.specs.Exchange.{switch, next_factor}
use Rattle.auth_packets.specs.Handshake.{greeting, response_text}
use Rattle.auth_packets.specs.Replies.{ok_packet, err_packet}
use Rattle.auth_packets.specs.declared.exchange.NextFactor.{NextFactor}
use Rattle.auth_packets.specs.declared.exchange.Switch.{Switch}
use Rattle.auth_packets.specs.declared.handshake.Greeting.{Greeting}
use Rattle.auth_packets.specs.declared.replies.ErrPacket.{ErrPacket}
use Rattle.auth_packets.specs.declared.replies.OkPacket.{OkPacket}
use Rattle.login_client.specs.Conversation.{response_to}
use Rattle.login_client.specs.Methods.{answer_of, caching_name, clear_name, clear_text, native_name}
use Rattle.login_client.specs.declared.claims.Claim.{Claim}
use Rattle.login_client.specs.declared.ends.LoginEnd.{LoginEnd}
use Rattle.login_client.specs.declared.ends.LoginEnd.TheVariants.{Opened, Refused}
use Rattle.login_client.specs.declared.methods.Method.{Method}
use Rattle.login_client.specs.declared.methods.Method.TheVariants.{Native, CachingSha2, Clear}

-- ## What the client is asked for

pub data Factor : Type 0 where
  First : Factor
  Second : Factor
  Third : Factor

-- the secret that a claim has for a factor
abbrev pub secret_of : Claim → Factor → Option (List ℕ)
secret_of claim First = Some claim.secrets.first
secret_of claim Second = claim.secrets.second
secret_of claim Third = claim.secrets.third

pub data Asked : Type 0 where
  -- the response to the greeting's nonce, and the answer to a switch's nonce, by a method
  ForResponse : Method → List ℕ → Asked
  ForAnswer : Method → List ℕ → Asked
  -- the first secret itself, after 01 04
  ForPassword : Asked
  -- the secret of a factor, by mysql_clear_password
  ForSecret : Factor → Asked

-- a claim gives this payload for what it is asked, and may give it
abbrev pub Gives : Claim → Asked → List ℕ → Type 0
Gives claim (ForResponse method nonce) payload = payload ≡ response_text (response_to claim method nonce)
Gives claim (ForAnswer method nonce) payload = payload ≡ answer_of method claim.secrets.first nonce
Gives claim ForPassword payload = (claim.local ≡ true) × (payload ≡ clear_text claim.secrets.first)
Gives claim (ForSecret factor) payload =
    (claim.local ≡ true) × (claim.options.clear ≡ true)
    × (secret : List ℕ) × (secret_of claim factor ≡ Some secret) × (payload ≡ clear_text secret)

-- what the client writes where it is asked for all this
abbrev pub AreGiven : Claim → List Asked → List (List ℕ) → Type 0
AreGiven claim = AllZip (Gives claim)

-- a secret that is asked for is there
abbrev pub HasSecret : Claim → Asked → Type 0
HasSecret claim (ForSecret factor) = is_some (secret_of claim factor) ≡ true
HasSecret claim _ = Unit {0}

-- ## The parts

-- the method of the response: mysql_native_password where the greeting names it, and else caching_sha2_password
abbrev pub IsFirst : List ℕ → Method → Type 0
IsFirst plugin method =
    ((plugin ≡ native_name) × (method ≡ Native)) ⊎ ((plugin ≢ native_name) × (method ≡ CachingSha2))

-- a nonce of twenty bytes, with or without a 00 behind it
abbrev pub HasNonce : (body nonce : List ℕ) → Type 0
HasNonce body nonce = (length nonce ≡ 20) × ((body ≡ nonce) ⊎ (body ≡ nonce ++ 0 ∷ []))

-- nothing, or a switch: the method of the first answer, the payloads, what they ask for, and the method of the last
-- answer
pub data IsSwitch : Method → List (List ℕ) → List Asked → Method → Type 0 where
  stays : (method : Method) → IsSwitch method [] [] method
  to_native : (method : Method) (s : Switch) (payload nonce : List ℕ) → switch.Spells s payload → s.plugin ≡ native_name → HasNonce s.body nonce
      → IsSwitch method (payload ∷ []) (ForAnswer Native nonce ∷ []) Native
  to_caching : (method : Method) (s : Switch) (payload nonce : List ℕ) → switch.Spells s payload → s.plugin ≡ caching_name → HasNonce s.body nonce
      → IsSwitch method (payload ∷ []) (ForAnswer CachingSha2 nonce ∷ []) CachingSha2
  to_clear : (method : Method) (s : Switch) (payload : List ℕ) → switch.Spells s payload → s.plugin ≡ clear_name
      → IsSwitch method (payload ∷ []) (ForSecret First ∷ []) Clear

-- nothing, or one of 01 03 and 01 04 after an answer by caching_sha2_password
pub data IsMore : Method → List (List ℕ) → List Asked → Type 0 where
  nothing : (method : Method) → IsMore method [] []
  right : IsMore CachingSha2 ((0x01 ∷ 0x03 ∷ []) ∷ []) []
  unknown : IsMore CachingSha2 ((0x01 ∷ 0x04 ∷ []) ∷ []) (ForPassword ∷ [])

-- a further factor is asked for, by the method that says its secret
abbrev pub IsFactor : List ℕ → Type 0
IsFactor payload = (f : NextFactor) × next_factor.Spells f payload × (f.plugin ≡ clear_name)

pub data AreFactors : List (List ℕ) → List Asked → Type 0 where
  none : AreFactors [] []
  one : (second : List ℕ) → IsFactor second → AreFactors (second ∷ []) (ForSecret Second ∷ [])
  two : (second third : List ℕ) → IsFactor second → IsFactor third
      → AreFactors (second ∷ third ∷ []) (ForSecret Second ∷ ForSecret Third ∷ [])

-- OK or ERR
abbrev pub IsEnd : LoginEnd → List ℕ → Type 0
IsEnd Opened payload = (ok : OkPacket) × ok_packet.Spells ok payload
IsEnd (Refused number) payload = (err : ErrPacket) × err_packet.Spells err payload × (number ≡ err.number)
IsEnd _ payload = ⊥

-- ## The whole

-- The payloads that the server sends, what they ask the client for, and the end that the last of them says.
pub record IsLogin (got : List (List ℕ)) (asked : List Asked) (end : LoginEnd) : Type 0 where
  pub hello : Greeting
  pub first : Method
  pub last : Method
  pub greeted : List ℕ
  pub switches : List (List ℕ)
  pub more : List (List ℕ)
  pub factors : List (List ℕ)
  pub ending : List ℕ
  pub by_switch : List Asked
  pub by_more : List Asked
  pub by_factors : List Asked
  pub is_greeting : greeting.Spells hello greeted
  pub is_first : IsFirst hello.plugin first
  pub is_switch : IsSwitch first switches by_switch last
  pub is_more : IsMore last more by_more
  pub are_factors : AreFactors factors by_factors
  pub is_end : IsEnd end ending
  pub got_is : got ≡ greeted ∷ [] ++ switches ++ more ++ factors ++ ending ∷ []
  pub asked_is : asked ≡ ForResponse first hello.nonce ∷ [] ++ by_switch ++ by_more ++ by_factors

-- What a client got begins with the payloads of a whole login, and it wrote all that they ask for. What the server sends
-- behind the end isn't heard.
pub record IsWhole (claim : Claim) (got written : List (List ℕ)) (end : LoginEnd) : Type 0 where
  pub login : List (List ℕ)
  pub later : List (List ℕ)
  pub asked : List Asked
  pub is_login : IsLogin login asked end
  pub are_given : AreGiven claim asked written
  pub got_is : got ≡ login ++ later

-- the server said ERR in the greeting's place
pub record IsTurnedAway (got written : List (List ℕ)) (number : ℕ) : Type 0 where
  pub payload : List ℕ
  pub later : List (List ℕ)
  pub is_end : IsEnd (Refused number) payload
  pub got_is : got ≡ payload ∷ later
  pub written_is : written ≡ []
