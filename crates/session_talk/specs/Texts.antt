-- The payloads that the server sends.
use Rattle.std.specs.Prelude.{ℕ, List, [], ◌∷◌, ◌++◌, Option, Some, None, codes}
use Rattle.lg_base.specs.declared.errors.Code.{Code}
use Rattle.lg_base.specs.Errors.{number_of, state_of, text_of}
use Rattle.login_lock.specs.declared.LockTime.{LockTime}
use Rattle.login_lock.specs.declared.LockTime.TheVariants.{Days, Unbounded}
use Rattle.factor_chain.specs.declared.credentials.Method.{Method}
use Rattle.factor_chain.specs.declared.credentials.Method.TheVariants.{Native, CachingSha2}
use Rattle.auth_packets.specs.Handshake.{greeting_text}
use Rattle.auth_packets.specs.Exchange.{switch_text, more_text}
use Rattle.auth_packets.specs.Replies.{ok_text, err_text}
use Rattle.auth_packets.specs.declared.handshake.Greeting.{Greeting}
use Rattle.auth_packets.specs.declared.replies.ErrPacket.{ErrPacket}

-- the names of the methods on the wire
unfoldable pub native_name : List ℕ
native_name = codes "mysql_native_password"

unfoldable pub caching_name : List ℕ
caching_name = codes "caching_sha2_password"

abbrev pub method_name : Method → List ℕ
method_name Native = native_name
method_name CachingSha2 = caching_name

unfoldable pub version : List ℕ
version = codes "8.0.0-login"

-- the greeting of a session: this server's version, flags 0x1078A208, character set 255, status 2
unfoldable pub greeting_of : ℕ → List ℕ → Greeting
greeting_of id nonce = record {
  version = version;
  id = id;
  nonce = nonce;
  flags = 276341256;
  charset = 255;
  status = 2;
  plugin = caching_name;
}

unfoldable pub greeting_payload : ℕ → List ℕ → List ℕ
greeting_payload id nonce = greeting_text (greeting_of id nonce)

-- a switch to a method, with a nonce and a last 00
unfoldable pub switch_payload : Method → List ℕ → List ℕ
switch_payload method nonce = switch_text (record { plugin = method_name method; body = nonce ++ 0 ∷ [] })

-- more data of caching_sha2_password: the fast answer was right
unfoldable pub fast_payload : List ℕ
fast_payload = more_text (record { body = 3 ∷ [] })

-- or the password is asked for
unfoldable pub full_payload : List ℕ
full_payload = more_text (record { body = 4 ∷ [] })

unfoldable pub ok_payload : List ℕ
ok_payload = ok_text (record { affected = 0; last_id = 0; status = 2; warnings = 0; info = [] })

-- an error as a packet
abbrev pub err_of : Code → ErrPacket
err_of error = record { number = number_of error; state = state_of error; text = text_of error }

unfoldable pub error_payload : Code → List ℕ
error_payload error = err_text (err_of error)

-- the days of a lock, where it ends
abbrev pub days_of : LockTime → Option ℕ
days_of (Days n) = Some n
days_of Unbounded = None
