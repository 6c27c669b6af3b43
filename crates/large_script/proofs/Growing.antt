-- One account more, and one session more.
use Rattle.std.proofs.Common.{◌≡◌, refl, ap, sym, ◌∙◌, ℕ, suc, ◌+◌, ◌*◌, List, ◌++◌, [], ◌∷◌, append_assoc, append-nil, arith}
use Rattle.std.proofs.Math.Numerals.{add-one}
use Rattle.script_text.specs.declared.event.Event.{Event}
use Rattle.script_text.specs.declared.event.Event.TheVariants as event
use Rattle.large_script.specs.Draws.{drawn_at, next_state, state_behind}
use Rattle.large_script.specs.Generating.{account_events, create_text, drawn_behind, session_events, sessions_events}
use Rattle.large_script.specs.declared.draws.Drawn.{Drawn}

-- ## Accounts

one_account : (account : ℕ) → account_events (suc account) ≡ account_events account ++ event.Admin (create_text account) ∷ []
unfolding account_events
one_account account = refl

pub no_accounts : (before : List Event) → before ≡ before ++ account_events 0
unfolding account_events
no_accounts before = sym (append-nil before)

pub account_added : (before made now : List Event) (account : ℕ) (text : List ℕ) → made ≡ before ++ account_events account →
    text ≡ create_text account → now ≡ made ++ event.Admin text ∷ [] → now ≡ before ++ account_events (account + 1)
account_added before made now account text made_is text_is now_is =
    now_is
    ∙ ap (λ (events : List Event). events ++ event.Admin text ∷ []) made_is
    ∙ append_assoc before (account_events account) (event.Admin text ∷ [])
    ∙ ap (λ (t : List ℕ). before ++ (account_events account ++ event.Admin t ∷ [])) text_is
    ∙ ap (λ (events : List Event). before ++ events) (sym (one_account account))
    ∙ ap (λ (n : ℕ). before ++ account_events n) (sym (add-one account))

-- ## Draws

one_draw : (draws number : ℕ) → state_behind (suc draws) number ≡ next_state (state_behind draws number)
unfolding state_behind
one_draw draws number = refl

more_draws : (draws number state : ℕ) → state ≡ state_behind draws number → next_state state ≡ state_behind (draws + 1) number
more_draws draws number state is =
    ap next_state is ∙ (sym (one_draw draws number) ∙ ap (λ (n : ℕ). state_behind n number) (sym (add-one draws)))

module _ (count number state : ℕ) (is : state ≡ state_behind (3 * count) number) where
  first : next_state state ≡ state_behind (3 * count + 1) number
  first = more_draws (3 * count) number state is

  second : next_state (next_state state) ≡ state_behind (3 * count + 2) number
  second =
      more_draws (3 * count + 1) number (next_state state) first
      ∙ ap (λ (n : ℕ). state_behind n number) (omega arith)

  third : next_state (next_state (next_state state)) ≡ state_behind (3 * count + 3) number
  third =
      more_draws (3 * count + 2) number (next_state (next_state state)) second
      ∙ ap (λ (n : ℕ). state_behind n number) (omega arith)

  pub drawn_so_far : next_state (next_state (next_state state)) ≡ state_behind (3 * (count + 1)) number
  drawn_so_far = third ∙ ap (λ (n : ℕ). state_behind n number) (omega arith)

  pub drawn_now :
      record {
        flush = drawn_at (next_state state);
        user = drawn_at (next_state (next_state state));
        secret = drawn_at (next_state (next_state (next_state state)));
      }
      ≡ drawn_behind count number
  drawn_now = λ i. record { flush = drawn_at (first i); user = drawn_at (second i); secret = drawn_at (third i) }

-- ## Sessions

one_session : (count number : ℕ) → sessions_events (suc count) number ≡ sessions_events count number ++ session_events (count + 1) (drawn_behind count number)
unfolding sessions_events
one_session count number = refl

pub no_sessions : (before : List Event) (number : ℕ) → before ≡ before ++ sessions_events 0 number
unfolding sessions_events
no_sessions before number = sym (append-nil before)

pub session_added : (before made now : List Event) (count number : ℕ) (drawn : Drawn) → made ≡ before ++ sessions_events count number →
    drawn ≡ drawn_behind count number → now ≡ made ++ session_events (count + 1) drawn → now ≡ before ++ sessions_events (count + 1) number
session_added before made now count number drawn made_is drawn_is now_is =
    now_is
    ∙ ap (λ (events : List Event). events ++ session_events (count + 1) drawn) made_is
    ∙ append_assoc before (sessions_events count number) (session_events (count + 1) drawn)
    ∙ ap (λ (d : Drawn). before ++ (sessions_events count number ++ session_events (count + 1) d)) drawn_is
    ∙ ap (λ (events : List Event). before ++ events) (sym (one_session count number))
    ∙ ap (λ (n : ℕ). before ++ sessions_events n number) (sym (add-one count))
