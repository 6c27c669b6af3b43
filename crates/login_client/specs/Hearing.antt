-- What a payload says to a client that logs in, by its first byte: "Connection Phase Packets" and "Generic
-- Response Packets" of the MySQL client/server protocol documentation.
use Rattle.std.specs.Prelude.{◌≡◌, ◌≢◌, ℕ, ◌-◌, Bool, true, false, List, [], ◌∷◌, length, ◌==◌}
use Rattle.wire_form.specs.Payloads.{IsFaultPlace}
use Rattle.auth_packets.specs.Handshake.{greeting}
use Rattle.auth_packets.specs.Exchange.{switch, next_factor}
use Rattle.auth_packets.specs.Replies.{ok_packet, err_packet}
use Rattle.auth_packets.specs.declared.replies.OkPacket.{OkPacket}
use Rattle.auth_packets.specs.declared.replies.ErrPacket.{ErrPacket}
use Rattle.login_client.specs.declared.hearing.Heard.{Heard}
use Rattle.login_client.specs.declared.hearing.Heard.TheVariants.{Greets, Switches, Fast, Full, Asks, Accepts, Refuses, BrokenGreeting, BrokenSwitch, BrokenFactor, BrokenOk, BrokenErr, Other}

-- a payload's first byte
abbrev pub begins : ℕ → List ℕ → Bool
begins b [] = false
begins b (x ∷ xs) = x == b

-- a payload that begins with the byte of a message, and is none: at this place
pub record IsBroken {A : Type 0} (b : ℕ) (Spells : A → List ℕ → Type 0) (payload : List ℕ) (at : ℕ) : Type 0 where
  pub begun : begins b payload ≡ true
  pub place : IsFaultPlace Spells payload at

-- the first byte begins none of the messages, and the payload is neither 01 03 nor 01 04
pub record IsOther (payload : List ℕ) : Type 0 where
  pub no_greeting : begins 0x0a payload ≡ false
  pub no_switch : begins 0xfe payload ≡ false
  pub no_factor : begins 0x02 payload ≡ false
  pub no_ok : begins 0x00 payload ≡ false
  pub no_err : begins 0xff payload ≡ false
  pub no_fast : payload ≢ 0x01 ∷ 0x03 ∷ []
  pub no_full : payload ≢ 0x01 ∷ 0x04 ∷ []

abbrev pub IsHeard : List ℕ → Heard → Type 0
IsHeard payload (Greets g) = greeting.Spells g payload
IsHeard payload (Switches s at) = switch.Spells s payload × (at ≡ length payload - length s.body)
IsHeard payload Fast = payload ≡ 0x01 ∷ 0x03 ∷ []
IsHeard payload Full = payload ≡ 0x01 ∷ 0x04 ∷ []
IsHeard payload (Asks f) = next_factor.Spells f payload
IsHeard payload Accepts = (ok : OkPacket) × ok_packet.Spells ok payload
IsHeard payload (Refuses number) = (err : ErrPacket) × err_packet.Spells err payload × (number ≡ err.number)
IsHeard payload (BrokenGreeting at) = IsBroken 0x0a greeting.Spells payload at
IsHeard payload (BrokenSwitch at) = IsBroken 0xfe switch.Spells payload at
IsHeard payload (BrokenFactor at) = IsBroken 0x02 next_factor.Spells payload at
IsHeard payload (BrokenOk at) = IsBroken 0x00 ok_packet.Spells payload at
IsHeard payload (BrokenErr at) = IsBroken 0xff err_packet.Spells payload at
IsHeard payload Other = IsOther payload
