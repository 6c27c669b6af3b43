-- What a line `client` says behind its session: the flags, the user and the secrets of a client.
use Rattle.std.specs.Prelude.{ℕ, ◌==◌, ◌&&◌, ◌/◌, ◌%◌, not, Bool, true, List, Option, Some, None, option_map, length, if◌then◌else◌}
use Rattle.std.specs.Int.{from_be_bytes, w32}
use Rattle.std.specs.List.{list_any}
use Rattle.auth_packets.specs.Flags.{CONNECT_ATTRS, CONNECT_WITH_DB, is_set, second_fits, third_fits}
use Rattle.login_client.specs.Claims.{AreFit, AreUsable}
use Rattle.login_client.specs.Zeros.{HasNoZero}
use Rattle.login_client.specs.declared.claims.ClientOptions.{ClientOptions}
use Rattle.login_client.specs.declared.claims.Secrets.{Secrets}
use Rattle.script_text.specs.Words.{hex_word}

abbrev pub flags_if : Option (List ℕ) → Option ℕ
flags_if None = None
flags_if (Some bytes) = if length bytes == 4 then Some (from_be_bytes w32 bytes) else None

-- FLAGS: the number of eight hexadecimal digits
abbrev pub flags_word : List ℕ → Option ℕ
flags_word word = flags_if (hex_word word)

-- HEX, where a word stands
abbrev pub secret_of : Option (List ℕ) → Option (Option (List ℕ))
secret_of None = Some None
secret_of (Some word) = option_map Some (hex_word word)

abbrev pub secrets_if : Option (List ℕ) → Option (Option (List ℕ)) → Option (Option (List ℕ)) → Option Secrets
secrets_if (Some first) (Some second) (Some third) = Some (record { first = first; second = second; third = third })
secrets_if _ _ _ = None

-- HEX [HEX] [HEX]: the secrets of one to three factors
abbrev pub secrets_of : Option (List ℕ × Option (List ℕ) × Option (List ℕ)) → Option Secrets
secrets_of None = None
secrets_of (Some (first, second, third)) = secrets_if (hex_word first) (secret_of second) (secret_of third)

-- a text without a byte 00
abbrev pub is_whole : List ℕ → Bool
is_whole text = not (list_any (λ b. b == 0) text)

abbrev pub is_whole_if : Option (List ℕ) → Bool
is_whole_if None = true
is_whole_if (Some text) = is_whole text

-- secrets without a byte 00
abbrev pub are_whole : Secrets → Bool
are_whole secrets = is_whole secrets.first && is_whole_if secrets.second && is_whole_if secrets.third

-- flags with those that both ends need, and none that tells of a database or of attributes
abbrev pub are_usable : ℕ → Bool
are_usable flags =
    second_fits (flags / 256 % 256) && third_fits (flags / 256 / 256 % 256) && not (is_set CONNECT_WITH_DB flags) && not (is_set CONNECT_ATTRS flags)

-- flags, a user and secrets that a client can log in with
abbrev pub is_client : ℕ → List ℕ → Secrets → Bool
is_client flags user secrets = are_usable flags && is_whole user && are_whole secrets

-- what a client may do: the method in the clear is permitted
abbrev pub options_with : ℕ → ClientOptions
options_with flags = record { flags = flags; clear = true }

-- what a client wants of its flags, its user and its secrets
pub record IsClient (flags : ℕ) (user : List ℕ) (secrets : Secrets) : Type 0 where
  pub options : AreUsable (options_with flags)
  pub name : HasNoZero user
  pub fit : AreFit secrets
