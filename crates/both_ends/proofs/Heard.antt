-- What the payloads that a session sends say to a client.
use Rattle.std.proofs.Common.{◌≡◌, refl, sym, ℕ, zero, suc, ◌<◌, ◌-◌, ◌^◌, ◌==◌, ◌||◌, List, [], ◌∷◌, ◌++◌, length, get_or, Contains, Bool, true, false, codes, arith, eq-eqb, length-append}
use Rattle.std.specs.List.{list_any}
use Rattle.lg_base.specs.declared.errors.Code.{Code}
use Rattle.lg_base.specs.declared.errors.Code.TheVariants.{BadHandshake, Denied, UnknownCommand, Syntax, TooLarge, OutOfOrder, NeedCreateUser, NeedPasswordAdmin, Cannot, GrantCreates, NoMethod, Weak, Sandboxed, MustChange, Locked, Reused, Blocked, RetainEmpty, RetainMethod, PasswordForm, OutOfRange, HistoryFull, FactorNumber, NameLength, KeeperFault, LabelLength, VerifierFault}
use Rattle.lg_base.specs.Errors.{number_of, state_of}
use Rattle.factor_chain.specs.declared.credentials.Method.{Method}
use Rattle.factor_chain.specs.declared.credentials.Method.TheVariants.{Native, CachingSha2}
use Rattle.auth_packets.specs.Exchange.{more_text, switch_text}
use Rattle.auth_packets.specs.Handshake.{IsWholeGreeting}
use Rattle.auth_packets.proofs.ExchangeLaws.{switch_spelled}
use Rattle.auth_packets.proofs.Written.{err_spelled, greeting_spelled, ok_spelled}
use Rattle.session_talk.specs.Texts.{caching_name, err_of, error_payload, fast_payload, full_payload, greeting_of, greeting_payload, method_name, native_name, ok_payload, switch_payload, version}
use Rattle.login_client.specs.Hearing.{IsHeard}
use Rattle.login_client.specs.declared.hearing.Heard.TheVariants.{Greets, Switches, Fast, Full, Accepts, Refuses}
use Rattle.both_ends.specs.Laws.{PayloadsAreHeard}

-- ## Names without 00

clash : (first more : Bool) → first ≡ true → (first || more) ≡ false → ⊥
clash true more e f = absurd (cc)
clash false more e f = absurd (cc)

rest : (first more : Bool) → (first || more) ≡ false → more ≡ false
rest true more f = absurd (cc)
rest false more f = f

no-zero : (xs : List ℕ) → list_any (λ b. b == 0) xs ≡ false → Contains xs 0 → ⊥
no-zero xs e (k, lt, is) = at xs e k lt is where
  at : (ys : List ℕ) → list_any (λ b. b == 0) ys ≡ false → (k' : ℕ) → k' < length ys → get_or ys k' 0 ≡ 0 → ⊥
  at [] f k' h i = absurd (omega arith)
  at (y ∷ ys) f zero h i = clash (y == 0) (list_any (λ b. b == 0) ys) (eq-eqb y 0 i) f
  at (y ∷ ys) f (suc k') h i = at ys (rest (y == 0) (list_any (λ b. b == 0) ys) f) k' (omega arith) i

native-whole : Contains native_name 0 → ⊥
unfolding native_name
native-whole = no-zero (codes "mysql_native_password") refl

caching-whole : Contains caching_name 0 → ⊥
unfolding caching_name
caching-whole = no-zero (codes "caching_sha2_password") refl

version-whole : Contains version 0 → ⊥
unfolding version
version-whole = no-zero (codes "8.0.0-login") refl

name-whole : (method : Method) → Contains (method_name method) 0 → ⊥
name-whole Native = native-whole
name-whole CachingSha2 = caching-whole

name-length : (method : Method) → length (method_name method) ≡ 21
unfolding native_name caching_name
name-length Native = refl
name-length CachingSha2 = refl

-- ## The payloads

greeting-whole : (id : ℕ) (nonce : List ℕ) → IsWholeGreeting (greeting_of id nonce)
unfolding greeting_of
greeting-whole id nonce = (version-whole, (refl, refl), caching-whole)

pub greeting-heard : (id : ℕ) (nonce : List ℕ) → id < 2 ^ 32 → length nonce ≡ 20 → IsHeard (greeting_payload id nonce) (Greets (greeting_of id nonce))
unfolding greeting_payload greeting_of
greeting-heard id nonce small size =
    greeting_spelled (greeting_of id nonce) small (omega arith) (omega arith) (omega arith) size (greeting-whole id nonce)

switch-place : (name body : List ℕ) → length name ≡ 21 → length (0xfe ∷ [] ++ (name ++ 0 ∷ []) ++ body) - length body ≡ 23
switch-place name body size =
    let whole = length-append (0xfe ∷ [] ++ (name ++ 0 ∷ [])) body in
    let head = length-append (0xfe ∷ []) (name ++ 0 ∷ []) in
    let named = length-append name (0 ∷ []) in
    omega (arith, whole, head, named, size)

pub switch-heard : (method : Method) (nonce : List ℕ) →
    IsHeard (switch_payload method nonce) (Switches (record { plugin = method_name method; body = nonce ++ 0 ∷ [] }) 23)
unfolding switch_payload switch_text
switch-heard method nonce = (
  switch_spelled (record { plugin = method_name method; body = nonce ++ 0 ∷ [] }) (name-whole method),
  sym (switch-place (method_name method) (nonce ++ 0 ∷ []) (name-length method)),
)

pub fast-heard : IsHeard fast_payload Fast
unfolding fast_payload more_text
fast-heard = refl

pub full-heard : IsHeard full_payload Full
unfolding full_payload more_text
full-heard = refl

pub ok-heard : IsHeard ok_payload Accepts
unfolding ok_payload
ok-heard = (
  record { affected = 0; last_id = 0; status = 2; warnings = 0; info = [] },
  ok_spelled (record { affected = 0; last_id = 0; status = 2; warnings = 0; info = [] }) (omega arith) (omega arith) (omega arith) (omega arith),
)

small-number : (error : Code) → number_of error < 2 ^ 16
small-number BadHandshake = omega arith
small-number (Denied user using_password) = omega arith
small-number UnknownCommand = omega arith
small-number (Syntax place) = omega arith
small-number TooLarge = omega arith
small-number OutOfOrder = omega arith
small-number NeedCreateUser = omega arith
small-number NeedPasswordAdmin = omega arith
small-number (Cannot operation user any_host) = omega arith
small-number GrantCreates = omega arith
small-number (NoMethod name) = omega arith
small-number Weak = omega arith
small-number Sandboxed = omega arith
small-number MustChange = omega arith
small-number (Locked user) = omega arith
small-number Reused = omega arith
small-number (Blocked user days left limit) = omega arith
small-number RetainEmpty = omega arith
small-number RetainMethod = omega arith
small-number PasswordForm = omega arith
small-number OutOfRange = omega arith
small-number HistoryFull = omega arith
small-number FactorNumber = omega arith
small-number NameLength = omega arith
small-number KeeperFault = omega arith
small-number LabelLength = omega arith
small-number VerifierFault = omega arith

five-letters : (error : Code) → length (state_of error) ≡ 5
five-letters BadHandshake = refl
five-letters (Denied user using_password) = refl
five-letters UnknownCommand = refl
five-letters (Syntax place) = refl
five-letters TooLarge = refl
five-letters OutOfOrder = refl
five-letters NeedCreateUser = refl
five-letters NeedPasswordAdmin = refl
five-letters GrantCreates = refl
five-letters _ = refl

pub error-heard : (error : Code) → IsHeard (error_payload error) (Refuses (number_of error))
unfolding error_payload
error-heard error = (err_of error, err_spelled (err_of error) (small-number error) (five-letters error), refl)

pub payloads-heard : PayloadsAreHeard
payloads-heard = record {
  greeting = greeting-heard;
  switch = switch-heard;
  fast = fast-heard;
  full = full-heard;
  ok = ok-heard;
  error = error-heard;
}
