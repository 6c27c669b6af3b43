-- What a payload says is what its first byte and the message's reader tell.
use Rattle.std.proofs.Common.{◌≡◌, ◌↔◌, refl, sym, subst, ℕ, ◌-◌, ◌==◌, List, [], ◌∷◌, length, Bool, true, false, if◌then◌else◌, Result, Ok, Err, IfOk, eqb-true}
use Rattle.std.proofs.lemmas.Bool.{eqb-false}
use Rattle.wire_form.specs.Forms.{Form}
use Rattle.wire_form.specs.Payloads.{IsFaultPlace, start}
use Rattle.wire_form.proofs.Laws.{IsForm}
use Rattle.wire_form.proofs.Payloads.{fault_place}
use Rattle.auth_packets.specs.Handshake.{greeting}
use Rattle.auth_packets.specs.Exchange.{switch, next_factor}
use Rattle.auth_packets.specs.Replies.{ok_packet, err_packet}
use Rattle.auth_packets.proofs.HandshakeLaws.{greeting-lawful}
use Rattle.auth_packets.proofs.ExchangeLaws.{switch-lawful, next_factor-lawful}
use Rattle.auth_packets.proofs.RepliesLaws.{ok-lawful, err-lawful}
use Rattle.login_client.specs.Hearing.{IsHeard}
use Rattle.login_client.specs.Heard.{told, heard_greeting, heard_switch, heard_factor, heard_ok, heard_err, heard_more, heard_of}
use Rattle.login_client.specs.declared.hearing.Heard.{Heard}
use Rattle.login_client.specs.declared.hearing.Heard.TheVariants.{Greets, Switches, Fast, Full, Asks, Accepts, Refuses, BrokenGreeting, BrokenSwitch, BrokenFactor, BrokenOk, BrokenErr, Other}
use Rattle.login_client.proofs.Meaning.{one-meaning}

-- where a message is read it is spelled, and where it breaks is its fault's place
told-is : {A : Type 0} (f : Form A) → IsForm f → (payload : List ℕ) (says : A → Heard) (broken : ℕ → Heard)
    → ((a : A) → f.Spells a payload → IsHeard payload (says a))
    → ((at : ℕ) → IsFaultPlace f.Spells payload at → IsHeard payload (broken at))
    → IsHeard payload (told says broken (f.read (start payload)))
told-is {A} f is payload says broken spelled breaks = by_answer (f.read (start payload)) refl where
  by_answer : (answer : Result A ℕ) → f.read (start payload) ≡ answer → IsHeard payload (told says broken answer)
  by_answer (Ok a) e = spelled a (is.found (start payload) a e)
  by_answer (Err at) e = breaks at (fault_place f is payload at e)

-- a payload says one thing or another by a test, where it says either one by what the test tells
if-heard : (payload : List ℕ) (test : Bool) (one two : Heard)
    → (test ≡ true → IsHeard payload one) → (test ≡ false → IsHeard payload two)
    → IsHeard payload (if test then one else two)
if-heard payload true one two is_true is_false = is_true refl
if-heard payload false one two is_true is_false = is_false refl

greeting-is : (b : ℕ) (bytes : List ℕ) → (b == 0x0a) ≡ true → IsHeard (b ∷ bytes) (heard_greeting (b ∷ bytes))
greeting-is b bytes begun = told-is greeting greeting-lawful (b ∷ bytes) Greets BrokenGreeting
    (λ g spelled. spelled) (λ at place. record { begun = begun; place = place })

switch-is : (b : ℕ) (bytes : List ℕ) → (b == 0xfe) ≡ true → IsHeard (b ∷ bytes) (heard_switch (b ∷ bytes))
switch-is b bytes begun = told-is switch switch-lawful (b ∷ bytes) (λ s. Switches s (length (b ∷ bytes) - length s.body)) BrokenSwitch
    (λ s spelled. (spelled, refl)) (λ at place. record { begun = begun; place = place })

factor-is : (b : ℕ) (bytes : List ℕ) → (b == 0x02) ≡ true → IsHeard (b ∷ bytes) (heard_factor (b ∷ bytes))
factor-is b bytes begun = told-is next_factor next_factor-lawful (b ∷ bytes) Asks BrokenFactor
    (λ f spelled. spelled) (λ at place. record { begun = begun; place = place })

ok-is : (b : ℕ) (bytes : List ℕ) → (b == 0x00) ≡ true → IsHeard (b ∷ bytes) (heard_ok (b ∷ bytes))
ok-is b bytes begun = told-is ok_packet ok-lawful (b ∷ bytes) (λ ok. Accepts) BrokenOk
    (λ ok spelled. (ok, spelled)) (λ at place. record { begun = begun; place = place })

err-is : (b : ℕ) (bytes : List ℕ) → (b == 0xff) ≡ true → IsHeard (b ∷ bytes) (heard_err (b ∷ bytes))
err-is b bytes begun = told-is err_packet err-lawful (b ∷ bytes) (λ err. Refuses err.number) BrokenErr
    (λ err spelled. (err, spelled, refl)) (λ at place. record { begun = begun; place = place })

-- the first byte begins no message
record BeginsNone (b : ℕ) : Type 0 where
  no_greeting : (b == 0x0a) ≡ false
  no_switch : (b == 0xfe) ≡ false
  no_factor : (b == 0x02) ≡ false
  no_ok : (b == 0x00) ≡ false
  no_err : (b == 0xff) ≡ false

other-is : (b : ℕ) (bytes : List ℕ) → BeginsNone b → (b ∷ bytes ≡ 0x01 ∷ 0x03 ∷ [] → ⊥) → (b ∷ bytes ≡ 0x01 ∷ 0x04 ∷ [] → ⊥)
    → IsHeard (b ∷ bytes) Other
other-is b bytes none no_fast no_full = record {
  no_greeting = none.no_greeting;
  no_switch = none.no_switch;
  no_factor = none.no_factor;
  no_ok = none.no_ok;
  no_err = none.no_err;
  no_fast = no_fast;
  no_full = no_full;
}

more-is : (b : ℕ) (bytes : List ℕ) → BeginsNone b → (b == 0x01) ≡ true → IsHeard (b ∷ bytes) (heard_more bytes)
more-is b [] none begun = other-is b [] none (λ e. absurd (cc)) (λ e. absurd (cc))
more-is b (kind ∷ []) none begun =
    if-heard (b ∷ kind ∷ []) (kind == 0x03) Fast (if kind == 0x04 then Full else Other)
    (λ fast. let first : b ≡ 0x01 = eqb-true b 0x01 begun in let second : kind ≡ 0x03 = eqb-true kind 0x03 fast in cc)
    (λ not_fast. if-heard (b ∷ kind ∷ []) (kind == 0x04) Full Other
    (λ full. let first : b ≡ 0x01 = eqb-true b 0x01 begun in let second : kind ≡ 0x04 = eqb-true kind 0x04 full in cc)
    (λ not_full. other-is b (kind ∷ []) none
    (λ e. eqb-false kind 0x03 not_fast (cc)) (λ e. eqb-false kind 0x04 not_full (cc))))
more-is b (kind ∷ next ∷ bytes) none begun = other-is b (kind ∷ next ∷ bytes) none (λ e. absurd (cc)) (λ e. absurd (cc))

-- what is read in a payload is what it says
pub heard_of_is : (payload : List ℕ) → IsHeard payload (heard_of payload)
unfolding heard_of
heard_of_is [] = record {
  no_greeting = refl;
  no_switch = refl;
  no_factor = refl;
  no_ok = refl;
  no_err = refl;
  no_fast = λ e. absurd (cc);
  no_full = λ e. absurd (cc);
}
heard_of_is (b ∷ bytes) =
    if-heard (b ∷ bytes) (b == 0x0a) _ _ (greeting-is b bytes)
    (λ no_greeting. if-heard (b ∷ bytes) (b == 0xfe) _ _ (switch-is b bytes)
    (λ no_switch. if-heard (b ∷ bytes) (b == 0x02) _ _ (factor-is b bytes)
    (λ no_factor. if-heard (b ∷ bytes) (b == 0x00) _ _ (ok-is b bytes)
    (λ no_ok. if-heard (b ∷ bytes) (b == 0xff) _ _ (err-is b bytes)
    (λ no_err. let none : BeginsNone b = record { no_greeting = no_greeting; no_switch = no_switch; no_factor = no_factor; no_ok = no_ok; no_err = no_err } in
    if-heard (b ∷ bytes) (b == 0x01) _ _ (more-is b bytes none)
    (λ no_more. other-is b bytes none
    (λ e. eqb-false b 0x01 no_more (cc)) (λ e. eqb-false b 0x01 no_more (cc))))))))

-- what a payload says is what is read in it
pub is_read : (payload : List ℕ) (heard : Heard) → IsHeard payload heard → heard ≡ heard_of payload
is_read payload heard is = one-meaning payload heard (heard_of payload) is (heard_of_is payload)

-- the same of what a call answers
pub result_read : {E : Type 0} (payload : List ℕ) (result : Result Heard E)
    → IfOk result (λ heard. IsHeard payload heard) → IfOk result (λ heard. heard ≡ heard_of payload)
result_read payload (Ok heard) is = is_read payload heard is
result_read payload (Err e) is = tt

pub heard-is-read : (payload : List ℕ) (heard : Heard) → IsHeard payload heard ↔ (heard ≡ heard_of payload)
heard-is-read payload heard = (is_read payload heard, λ same. subst (λ (h : Heard). IsHeard payload h) (sym same) (heard_of_is payload))
