-- The script of a large run: eight accounts, and a thousand clients that log in one after another.
use Rattle.std.specs.Prelude.{ℕ, zero, suc, ◌+◌, ◌-◌, ◌*◌, ◌%◌, ◌==◌, nat_lt, if◌then◌else◌, List, [], ◌∷◌, ◌++◌, None, codes}
use Rattle.login_client.specs.declared.claims.Secrets.{Secrets}
use Rattle.script_text.specs.Reading.{Contents, setup_of, start}
use Rattle.script_text.specs.declared.event.Event.{Event}
use Rattle.script_text.specs.declared.event.Event.TheVariants as event
use Rattle.large_script.specs.Draws.{drawn_at, state_behind}
use Rattle.large_script.specs.declared.draws.Drawn.{Drawn}

-- ## Accounts

-- the method of an account: the native one for an even number, the caching one for an odd one
unfoldable pub method_name : (account : ℕ) → List ℕ
method_name account = if account % 2 == 0 then codes "mysql_native_password" else codes "caching_sha2_password"

-- a letter and a digit
abbrev pub numbered : (letter digit : ℕ) → List ℕ
numbered letter digit = letter ∷ (48 + digit) ∷ []

-- Account 3 has the user u3 and the password p3. Three failed logins in a row lock an account for a day.
unfoldable pub create_text : (account : ℕ) → List ℕ
create_text account =
    codes "CREATE USER '" ++ numbered 117 account ++ codes "'@'localhost' IDENTIFIED WITH " ++ method_name account ++ codes " BY '"
    ++ numbered 112 account ++ codes "' FAILED_LOGIN_ATTEMPTS 3 PASSWORD_LOCK_TIME 1"

-- the administrator creates the accounts of the numbers below this one
unfoldable pub account_events : (count : ℕ) → List Event
account_events zero = []
account_events (suc account) = account_events account ++ event.Admin (create_text account) ∷ []

-- ## Sessions

-- the number of sessions
abbrev pub session_count : ℕ
session_count = 1000

-- what is drawn for the session behind so many others
abbrev pub drawn_behind : (sessions : ℕ) → (number : ℕ) → Drawn
drawn_behind sessions number = record {
  flush = drawn_at (state_behind (3 * sessions + 1) number);
  user = drawn_at (state_behind (3 * sessions + 2) number);
  secret = drawn_at (state_behind (3 * sessions + 3) number);
}

-- the administrator flushes the privileges, which clears what is known of passwords and the locks after failed logins
unfoldable pub flush : Event
flush = event.Admin (codes "FLUSH PRIVILEGES")

-- before one session in fifty
unfoldable pub flush_if : (drawn : ℕ) → List Event
flush_if drawn = if drawn % 50 == 0 then flush ∷ [] else []

-- one client in four has a wrong password
unfoldable pub secret_of : Drawn → List ℕ
secret_of drawn = if drawn.secret % 4 == 0 then codes "bad" else numbered 112 (drawn.user % 8)

abbrev pub secrets_of : Drawn → Secrets
secrets_of drawn = record { first = secret_of drawn; second = None; third = None }

abbrev pub client_of : (session : ℕ) → Drawn → Event
client_of session drawn = event.Client session 0x1028A200 (numbered 117 (drawn.user % 8)) (secrets_of drawn)

-- the session before this one runs, once this one has sent its greeting
unfoldable pub run_before : (session : ℕ) → List Event
run_before session = if nat_lt 1 session then event.Run (session - 1) ∷ [] else []

-- the events of a session, ten minutes after those of the one before
abbrev pub session_events : (session : ℕ) → Drawn → List Event
session_events session drawn =
    event.Clock (1000 + 600 * session) ∷ (flush_if drawn.flush ++ client_of session drawn ∷ run_before session)

-- the events of so many sessions, numbered from 1
unfoldable pub sessions_events : (count : ℕ) → (number : ℕ) → List Event
sessions_events zero number = []
sessions_events (suc before) number = sessions_events before number ++ session_events (before + 1) (drawn_behind before number)

-- ## The whole

unfoldable pub generated_events : (number : ℕ) → List Event
generated_events number =
    event.Clock 1000 ∷ (account_events 8 ++ sessions_events session_count number ++ event.Run session_count ∷ [])

-- the script of a number: without setup lines
abbrev pub generated : (number : ℕ) → Contents
generated number = record { setup = setup_of start; events = generated_events number }
