-- A response of the client can be written.
use Rattle.std.proofs.Common.{◌≡◌, refl, ℕ, zero, suc, ◌<◌, ◌==◌, List, [], ◌∷◌, length, get_or, Contains, Bool, true, false, ◌||◌, codes, arith, eq-eqb}
use Rattle.std.specs.Bool.{OnFalse}
use Rattle.std.specs.List.{list_any}
use Rattle.login_client.specs.Methods.{name_of, native_name, caching_name}
use Rattle.login_client.specs.declared.methods.Method.{Method}
use Rattle.login_client.specs.declared.methods.Method.TheVariants.{Native, CachingSha2, Clear, Unknown}

clash : (first more : Bool) → first ≡ true → (first || more) ≡ false → ⊥
clash true more e f = absurd (cc)
clash false more e f = absurd (cc)

rest : (first more : Bool) → (first || more) ≡ false → more ≡ false
rest true more f = absurd (cc)
rest false more f = f

-- a text in which no byte is found to be 00 holds none
no-zero : (xs : List ℕ) → list_any (λ b. b == 0) xs ≡ false → Contains xs 0 → ⊥
no-zero xs e (k, lt, is) = at xs e k lt is where
  at : (ys : List ℕ) → list_any (λ b. b == 0) ys ≡ false → (k' : ℕ) → k' < length ys → get_or ys k' 0 ≡ 0 → ⊥
  at [] f k' h i = absurd (omega arith)
  at (y ∷ ys) f zero h i = clash (y == 0) (list_any (λ b. b == 0) ys) (eq-eqb y 0 i) f
  at (y ∷ ys) f (suc k') h i = at ys (rest (y == 0) (list_any (λ b. b == 0) ys) f) k' (omega arith) i

native-whole : Contains native_name 0 → ⊥
unfolding native_name
native-whole = no-zero (codes "mysql_native_password") refl

caching-whole : Contains caching_name 0 → ⊥
unfolding caching_name
caching-whole = no-zero (codes "caching_sha2_password") refl

-- no name of a method holds a 00
pub name_whole : (method : Method) → Contains (name_of method) 0 → ⊥
name_whole Native = native-whole
name_whole CachingSha2 = caching-whole
name_whole Clear = caching-whole
name_whole Unknown = caching-whole

-- an answer fits a length in one byte, whether its length has one byte or not
pub short_enough : (wide : Bool) (auth : List ℕ) → length auth < 256 → OnFalse wide (length auth < 256)
short_enough true auth h = tt
short_enough false auth h = h
