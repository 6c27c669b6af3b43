-- What the server sends can be written.
use Rattle.std.proofs.Common.{◌≡◌, refl, sym, ℕ, zero, suc, ◌<◌, ◌==◌, List, [], ◌∷◌, length, get_or, Contains, Bool, true, false, ◌||◌, codes, subst, arith, eq-eqb}
use Rattle.std.specs.List.{list_any}
use Rattle.factor_chain.specs.declared.credentials.Method.{Method}
use Rattle.factor_chain.specs.declared.credentials.Method.TheVariants.{Native, CachingSha2}
use Rattle.auth_packets.specs.Handshake.{IsWholeGreeting}
use Rattle.auth_packets.specs.declared.handshake.Greeting.{Greeting}
use Rattle.session_talk.specs.Texts.{caching_name, greeting_of, method_name, native_name, version}

clash : (first more : Bool) → first ≡ true → (first || more) ≡ false → ⊥
clash true more e f = absurd (cc)
clash false more e f = absurd (cc)

rest : (first more : Bool) → (first || more) ≡ false → more ≡ false
rest true more f = absurd (cc)
rest false more f = f

-- a text in which no byte is found to be 00 holds none
no-zero : (xs : List ℕ) → list_any (λ b. b == 0) xs ≡ false → Contains xs 0 → ⊥
no-zero xs e (k, lt, is) = at xs e k lt is where
  at : (ys : List ℕ) → list_any (λ b. b == 0) ys ≡ false → (k' : ℕ) → k' < length ys → get_or ys k' 0 ≡ 0 → ⊥
  at [] f k' h i = absurd (omega arith)
  at (y ∷ ys) f zero h i = clash (y == 0) (list_any (λ b. b == 0) ys) (eq-eqb y 0 i) f
  at (y ∷ ys) f (suc k') h i = at ys (rest (y == 0) (list_any (λ b. b == 0) ys) f) k' (omega arith) i

no-zero-in-caching : Contains caching_name 0 → ⊥
unfolding caching_name
no-zero-in-caching = no-zero (codes "caching_sha2_password") refl

no-zero-in-native : Contains native_name 0 → ⊥
unfolding native_name
no-zero-in-native = no-zero (codes "mysql_native_password") refl

no-zero-in-version : Contains version 0 → ⊥
unfolding version
no-zero-in-version = no-zero (codes "8.0.0-login") refl

pub greeting_whole : (id : ℕ) (nonce : List ℕ) (greeting : Greeting) → greeting ≡ greeting_of id nonce → IsWholeGreeting greeting
unfolding greeting_of
greeting_whole id nonce greeting e = subst IsWholeGreeting (sym e) (no-zero-in-version, (refl, refl), no-zero-in-caching)

no_zero : (method : Method) → Contains (method_name method) 0 → ⊥
no_zero Native = no-zero-in-native
no_zero CachingSha2 = no-zero-in-caching

pub no_zero_in_name : (method : Method) (name : List ℕ) → name ≡ method_name method → Contains name 0 → ⊥
no_zero_in_name method name e = subst (λ (text : List ℕ). Contains text 0 → ⊥) (sym e) (no_zero method)
