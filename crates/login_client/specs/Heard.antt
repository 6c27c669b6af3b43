-- What a payload says to a client, as a function: its first byte tells which message it begins as, and that message's
-- reader finds the message or the place where it breaks.
use Rattle.std.specs.Prelude.{ℕ, ◌-◌, ◌==◌, if◌then◌else◌, List, [], ◌∷◌, length, Result, Ok, Err}
use Rattle.wire_form.specs.Payloads.{start}
use Rattle.auth_packets.specs.Handshake.{greeting}
use Rattle.auth_packets.specs.Exchange.{switch, next_factor}
use Rattle.auth_packets.specs.Replies.{ok_packet, err_packet}
use Rattle.login_client.specs.declared.hearing.Heard.{Heard}
use Rattle.login_client.specs.declared.hearing.Heard.TheVariants.{Greets, Switches, Fast, Full, Asks, Accepts, Refuses, BrokenGreeting, BrokenSwitch, BrokenFactor, BrokenOk, BrokenErr, Other}

-- what a message says that is read, or that it breaks at a place
abbrev pub told : {A : Type 0} → (A → Heard) → (ℕ → Heard) → Result A ℕ → Heard
told says broken (Ok message) = says message
told says broken (Err at) = broken at

abbrev pub heard_greeting : List ℕ → Heard
heard_greeting payload = told Greets BrokenGreeting (greeting.read (start payload))

abbrev pub heard_switch : List ℕ → Heard
heard_switch payload = told (λ s. Switches s (length payload - length s.body)) BrokenSwitch (switch.read (start payload))

abbrev pub heard_factor : List ℕ → Heard
heard_factor payload = told Asks BrokenFactor (next_factor.read (start payload))

abbrev pub heard_ok : List ℕ → Heard
heard_ok payload = told (λ ok. Accepts) BrokenOk (ok_packet.read (start payload))

abbrev pub heard_err : List ℕ → Heard
heard_err payload = told (λ err. Refuses err.number) BrokenErr (err_packet.read (start payload))

-- more data, behind its 01: 03 alone and 04 alone say something
abbrev pub heard_more : List ℕ → Heard
heard_more (kind ∷ []) = if kind == 0x03 then Fast else (if kind == 0x04 then Full else Other)
heard_more bytes = Other

-- what a payload says, by its first byte
unfoldable pub heard_of : List ℕ → Heard
heard_of [] = Other
heard_of (b ∷ bytes) =
    if b == 0x0a then heard_greeting (b ∷ bytes)
    else (if b == 0xfe then heard_switch (b ∷ bytes)
    else (if b == 0x02 then heard_factor (b ∷ bytes)
    else (if b == 0x00 then heard_ok (b ∷ bytes)
    else (if b == 0xff then heard_err (b ∷ bytes)
    else (if b == 0x01 then heard_more bytes
    else Other)))))
