-- What happens by a line of a script.
use Rattle.std.specs.Prelude.{◌≢◌, ℕ, List, ◌∷◌, Option, Some, None, option_map, codes, if◌then◌else◌}
use Rattle.std.specs.Str.{bytes_eq}
use Rattle.login_client.specs.declared.claims.Secrets.{Secrets}
use Rattle.script_text.specs.ClientLines.{IsClient, flags_word, is_client, secrets_of}
use Rattle.script_text.specs.Words.{all_text, hex_word, number_word, one_to_three, pair, session_word, single, with_text}
use Rattle.script_text.specs.declared.event.Event.{Event}
use Rattle.script_text.specs.declared.event.Event.TheVariants as event
use Rattle.script_text.specs.declared.event_line.EventWord.{EventWord}
use Rattle.script_text.specs.declared.event_line.EventWord.TheVariants as kind

-- The first word of an event's line.
unfoldable pub event_word_of : List ℕ → Option EventWord
event_word_of word =
    if bytes_eq word (codes "clock") then Some kind.Clock
    else if bytes_eq word (codes "admin") then Some kind.Admin
    else if bytes_eq word (codes "open") then Some kind.Open
    else if bytes_eq word (codes "client") then Some kind.Client
    else if bytes_eq word (codes "bytes") then Some kind.Bytes
    else if bytes_eq word (codes "up") then Some kind.Up
    else if bytes_eq word (codes "down") then Some kind.Down
    else if bytes_eq word (codes "step") then Some kind.Step
    else if bytes_eq word (codes "run") then Some kind.Run
    else if bytes_eq word (codes "say") then Some kind.Say
    else if bytes_eq word (codes "command") then Some kind.Command
    else if bytes_eq word (codes "close") then Some kind.Close
    else if bytes_eq word (codes "cut") then Some kind.Cut
    else if bytes_eq word (codes "fail") then Some kind.Fail
    else None

-- N below 2^64
abbrev pub reading_of : Option (List ℕ) → Option ℕ
reading_of None = None
reading_of (Some word) = number_word 18446744073709551615 word

-- `keeper`: what fails
unfoldable pub fault_of : Option (List ℕ) → Option Event
fault_of None = None
fault_of (Some word) = if bytes_eq word (codes "keeper") then Some event.FailKeeper else None

-- S
abbrev pub session_of : Option (List ℕ) → Option ℕ
session_of None = None
session_of (Some word) = session_word word

abbrev pub both : {X : Type 0} → Option ℕ → Option X → Option (ℕ × X)
both (Some session) (Some value) = Some (session, value)
both (Some _) None = None
both None _ = None

-- S HEX
abbrev pub bytes_of : Option (List ℕ × List ℕ) → Option (ℕ × List ℕ)
bytes_of None = None
bytes_of (Some (session, bytes)) = both (session_word session) (hex_word bytes)

-- S N, with N below 2^64
abbrev pub count_of : Option (List ℕ × List ℕ) → Option (ℕ × ℕ)
count_of None = None
count_of (Some (session, count)) = both (session_word session) (number_word 18446744073709551615 count)

-- S TEXT
abbrev pub text_of : Option (List ℕ × List ℕ) → Option (ℕ × List ℕ)
text_of None = None
text_of (Some (session, text)) = both (session_word session) (Some text)

abbrev pub client_if : Option ℕ → Option ℕ → Option (List ℕ) → Option Secrets → Option Event
client_if (Some session) (Some flags) (Some user) (Some secrets) =
    if is_client flags user secrets then Some (event.Client session flags user secrets) else None
client_if _ _ _ _ = None

-- S FLAGS HEX HEX [HEX] [HEX]: a user and the secrets of one to three factors, which a client can log in with
abbrev pub client_of : List (List ℕ) → Option Event
client_of (session ∷ flags ∷ user ∷ secrets) =
    client_if (session_word session) (flags_word flags) (hex_word user) (secrets_of (one_to_three secrets))
client_of _ = None

-- what happens by a line's first word and the words behind it
abbrev pub event_by : EventWord → List (List ℕ) → Option Event
event_by kind.Clock arguments = option_map event.Clock (reading_of (single arguments))
event_by kind.Admin arguments = option_map event.Admin (all_text arguments)
event_by kind.Open arguments = option_map event.Open (session_of (single arguments))
event_by kind.Client arguments = client_of arguments
event_by kind.Bytes arguments = option_map (λ s. event.FromPeer s.0 s.1) (bytes_of (pair arguments))
event_by kind.Up arguments = option_map (λ s. event.Up s.0 s.1) (count_of (pair arguments))
event_by kind.Down arguments = option_map (λ s. event.Down s.0 s.1) (count_of (pair arguments))
event_by kind.Step arguments = option_map event.Step (session_of (single arguments))
event_by kind.Run arguments = option_map event.Run (session_of (single arguments))
event_by kind.Say arguments = option_map (λ s. event.Say s.0 s.1) (text_of (with_text arguments))
event_by kind.Command arguments = option_map (λ s. event.Command s.0 s.1) (bytes_of (pair arguments))
event_by kind.Close arguments = option_map event.Close (session_of (single arguments))
event_by kind.Cut arguments = option_map event.Cut (session_of (single arguments))
event_by kind.Fail arguments = fault_of (single arguments)

-- An event that a line can give: a session has a number from 1 on, and a client can log in with what is said.
abbrev pub IsEvent : Event → Type 0
IsEvent (event.Clock reading) = Unit {0}
IsEvent (event.Admin text) = Unit {0}
IsEvent (event.Open session) = session ≢ 0
IsEvent (event.Client session flags user secrets) = (session ≢ 0) × IsClient flags user secrets
IsEvent (event.FromPeer session bytes) = session ≢ 0
IsEvent (event.Up session most) = session ≢ 0
IsEvent (event.Down session most) = session ≢ 0
IsEvent (event.Step session) = session ≢ 0
IsEvent (event.Run session) = session ≢ 0
IsEvent (event.Say session text) = session ≢ 0
IsEvent (event.Command session payload) = session ≢ 0
IsEvent (event.Close session) = session ≢ 0
IsEvent (event.Cut session) = session ≢ 0
IsEvent event.FailKeeper = Unit {0}
