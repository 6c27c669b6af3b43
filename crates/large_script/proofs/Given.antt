-- The events of a large run are ones that lines can give.
use Rattle.std.proofs.Common.{◌≡◌, ◌≢◌, refl, sym, subst, ℕ, zero, suc, ◌+◌, ◌*◌, ◌%◌, ◌-◌, eqb, nat_lt, Bool, true, false, if◌then◌else◌, List, [], ◌∷◌, ◌++◌, arith, ltb-true}
use Rattle.std.specs.Prelude.{codes}
use Rattle.std.specs.List.{All}
use Rattle.std.proofs.lemmas.Bool.{ne_eqb}
use Rattle.std.proofs.lemmas.List.Elements.{All-append, All-cons, All-nil}
use Rattle.script_text.specs.ClientLines.{is_client, is_whole}
use Rattle.script_text.specs.EventLines.{IsEvent}
use Rattle.script_text.specs.Reading.{IsContents, setup_of, start}
use Rattle.script_text.specs.declared.event.Event.{Event}
use Rattle.script_text.specs.declared.event.Setup.{Setup}
use Rattle.script_text.specs.declared.event.Event.TheVariants as event
use Rattle.script_text.proofs.Clients.{client}
use Rattle.large_script.specs.Generating.{account_events, client_of, create_text, drawn_behind, flush, flush_if, generated_events, numbered, run_before, secret_of, secrets_of, session_count, session_events, sessions_events}
use Rattle.large_script.specs.declared.draws.Drawn.{Drawn}

-- ## Clients

-- a letter and a digit hold no byte 00
whole : (letter digit : ℕ) → eqb letter 0 ≡ false → is_whole (numbered letter digit) ≡ true
whole letter digit h = rw h (rw (ne_eqb (48 + digit) 0 (λ e. omega (arith, e))) refl)

secret-whole : (drawn : Drawn) → is_whole (secret_of drawn) ≡ true
unfolding secret_of
secret-whole drawn = by (eqb (drawn.secret % 4) 0) where
  by : (wrong : Bool) → is_whole (if wrong then codes "bad" else numbered 112 (drawn.user % 8)) ≡ true
  by true = refl
  by false = whole 112 (drawn.user % 8) refl

is-client : (drawn : Drawn) → is_client 0x1028A200 (numbered 117 (drawn.user % 8)) (secrets_of drawn) ≡ true
is-client drawn = rw (whole 117 (drawn.user % 8) refl) (rw (secret-whole drawn) refl)

client-given : (session : ℕ) (drawn : Drawn) → session ≢ 0 → IsEvent (client_of session drawn)
client-given session drawn h = (h, client 0x1028A200 (numbered 117 (drawn.user % 8)) (secrets_of drawn) (is-client drawn))

-- ## Sessions

one-given : (event : Event) → IsEvent event → All IsEvent (event ∷ [])
one-given event h = All-cons IsEvent event [] h (All-nil IsEvent)

flush-event : IsEvent flush
unfolding flush
flush-event = tt

flush-given : (drawn : ℕ) → All IsEvent (flush_if drawn)
unfolding flush_if
flush-given drawn = by (eqb (drawn % 50) 0) where
  by : (flushes : Bool) → All IsEvent (if flushes then flush ∷ [] else [])
  by true = one-given flush flush-event
  by false = All-nil IsEvent

run-given : (session : ℕ) → All IsEvent (run_before session)
unfolding run_before
run-given session = by (nat_lt 1 session) refl where
  by : (later : Bool) → nat_lt 1 session ≡ later → All IsEvent (if later then event.Run (session - 1) ∷ [] else [])
  by true e = one-given (event.Run (session - 1)) (λ none. let above = ltb-true 1 session e in omega (arith, above, none))
  by false e = All-nil IsEvent

session-given : (session : ℕ) (drawn : Drawn) → session ≢ 0 → All IsEvent (session_events session drawn)
session-given session drawn h =
    All-cons IsEvent (event.Clock (1000 + 600 * session)) _ tt
    (All-append IsEvent (flush_if drawn.flush) _ (flush-given drawn.flush)
    (All-cons IsEvent (client_of session drawn) _ (client-given session drawn h) (run-given session)))

sessions-given : (count number : ℕ) → All IsEvent (sessions_events count number)
unfolding sessions_events
sessions-given zero number = All-nil IsEvent
sessions-given (suc before) number =
    All-append IsEvent (sessions_events before number) (session_events (before + 1) (drawn_behind before number)) (sessions-given before number)
    (session-given (before + 1) (drawn_behind before number) (λ e. omega (arith, e)))

-- ## The whole

accounts-given : (count : ℕ) → All IsEvent (account_events count)
unfolding account_events
accounts-given zero = All-nil IsEvent
accounts-given (suc account) =
    All-append IsEvent (account_events account) (event.Admin (create_text account) ∷ []) (accounts-given account)
    (one-given (event.Admin (create_text account)) tt)

events-given : (number : ℕ) → All IsEvent (generated_events number)
unfolding generated_events
events-given number =
    All-cons IsEvent (event.Clock 1000) _ tt
    (All-append IsEvent (account_events 8 ++ sessions_events session_count number) (event.Run session_count ∷ [])
    (All-append IsEvent (account_events 8) (sessions_events session_count number) (accounts-given 8) (sessions-given session_count number))
    (one-given (event.Run session_count) (λ e. omega (arith, e))))

given : (number : ℕ) → IsContents (setup_of start) (generated_events number)
given number = record {
  start = record { accounts = refl; history = omega arith };
  sessions = events-given number;
}

pub given-as : (setup : Setup) (events : List Event) (number : ℕ) → setup ≡ setup_of start → events ≡ generated_events number → IsContents setup events
given-as setup events number from made =
    subst (λ (s : Setup). IsContents s events) (sym from) (subst (λ (es : List Event). IsContents (setup_of start) es) (sym made) (given number))
