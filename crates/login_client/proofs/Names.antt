-- What the tests of a name and of a nonce decide.
use Rattle.std.proofs.Common.{◌≡◌, ◌⊎◌, inl, inr, ⊎_elim, refl, sym, ap, ◌∙◌, subst, ℕ, ◌<◌, List, [], ◌∷◌, ◌++◌, length, take, drop, Bool, true, false, Option, Some, None, if◌then◌else◌, nat_lt, bytes_eq, arith, ltb-false, ltb-true, eqb-true, append-nil, length-append, length-take, take-append-drop}
use Rattle.std.proofs.Math.Seq.{take-append_seam, drop-append_seam}
use Rattle.std.proofs.lemmas.Slice.Eq.{bytes_eq-Decides}
use Rattle.login_client.specs.Methods.{caching_name, clear_name, first_method, is_nonce_end, method_of, native_name, nonce_of}
use Rattle.login_client.specs.Whole.{HasNonce, IsFirst}
use Rattle.login_client.specs.declared.methods.Method.{Method}
use Rattle.login_client.specs.declared.methods.Method.TheVariants.{Native, CachingSha2, Clear, Unknown}

-- ## Names

pub native-named : (name : List ℕ) → name ≡ native_name → method_of name ≡ Native
unfolding native_name caching_name clear_name
native-named name is = ap (λ (n : List ℕ). method_of n) is

pub caching-named : (name : List ℕ) → name ≡ caching_name → method_of name ≡ CachingSha2
unfolding native_name caching_name clear_name
caching-named name is = ap (λ (n : List ℕ). method_of n) is

pub clear-named : (name : List ℕ) → name ≡ clear_name → method_of name ≡ Clear
unfolding native_name caching_name clear_name
clear-named name is = ap (λ (n : List ℕ). method_of n) is

abbrev by-tests : Bool → Bool → Bool → Method
by-tests a b c = if a then Native else (if b then CachingSha2 else (if c then Clear else Unknown))

native-test : (a b c : Bool) → by-tests a b c ≡ Native → a ≡ true
native-test true b c e = refl
native-test false true c e = absurd (cc)
native-test false false true e = absurd (cc)
native-test false false false e = absurd (cc)

caching-test : (a b c : Bool) → by-tests a b c ≡ CachingSha2 → b ≡ true
caching-test true b c e = absurd (cc)
caching-test false true c e = refl
caching-test false false true e = absurd (cc)
caching-test false false false e = absurd (cc)

clear-test : (a b c : Bool) → by-tests a b c ≡ Clear → c ≡ true
clear-test true b c e = absurd (cc)
clear-test false true c e = absurd (cc)
clear-test false false true e = refl
clear-test false false false e = absurd (cc)

pub native-name : (name : List ℕ) → method_of name ≡ Native → name ≡ native_name
native-name name e = (bytes_eq-Decides name native_name).0 (native-test (bytes_eq name native_name) (bytes_eq name caching_name) (bytes_eq name clear_name) e)

pub caching-name : (name : List ℕ) → method_of name ≡ CachingSha2 → name ≡ caching_name
caching-name name e = (bytes_eq-Decides name caching_name).0 (caching-test (bytes_eq name native_name) (bytes_eq name caching_name) (bytes_eq name clear_name) e)

pub clear-name : (name : List ℕ) → method_of name ≡ Clear → name ≡ clear_name
clear-name name e = (bytes_eq-Decides name clear_name).0 (clear-test (bytes_eq name native_name) (bytes_eq name caching_name) (bytes_eq name clear_name) e)

-- the method that answers a greeting
not-native : (method : Method) → (method ≡ Native → ⊥) → first_method method ≡ CachingSha2
not-native Native n = absurd (n refl)
not-native CachingSha2 n = refl
not-native Clear n = refl
not-native Unknown n = refl

pub first-named : (name : List ℕ) (method : Method) → IsFirst name method → first_method (method_of name) ≡ method
first-named name method (inl (named, is)) = ap (λ (m : Method). first_method m) (native-named name named) ∙ sym is
first-named name method (inr (other, is)) = not-native (method_of name) (λ e. other (native-name name e)) ∙ sym is

first-by : (name : List ℕ) (method : Method) → method_of name ≡ method → IsFirst name (first_method method)
first-by name Native e = inl (native-name name e, refl)
first-by name CachingSha2 e = inr (λ named. let same : Native ≡ CachingSha2 = sym (native-named name named) ∙ e in absurd (cc), refl)
first-by name Clear e = inr (λ named. let same : Native ≡ Clear = sym (native-named name named) ∙ e in absurd (cc), refl)
first-by name Unknown e = inr (λ named. let same : Native ≡ Unknown = sym (native-named name named) ∙ e in absurd (cc), refl)

pub first-is : (name : List ℕ) → IsFirst name (first_method (method_of name))
first-is name = first-by name (method_of name) refl

-- ## Nonces

abbrev nonce-by : Bool → Bool → List ℕ → Option (List ℕ)
nonce-by short ends front = if short then None else (if ends then Some front else None)

by-found : (short ends : Bool) (front nonce : List ℕ) → short ≡ false → ends ≡ true → front ≡ nonce → nonce-by short ends front ≡ Some nonce
by-found true ends front nonce s e f = absurd (cc)
by-found false false front nonce s e f = absurd (cc)
by-found false true front nonce s e f = ap Some f

long-enough : (n : ℕ) → (n < 20 → ⊥) → nat_lt n 20 ≡ false
long-enough n h = by (nat_lt n 20) refl where
  by : (t : Bool) → nat_lt n 20 ≡ t → t ≡ false
  by true e = absurd (h (ltb-true n 20 e))
  by false e = refl

split-at : (nonce behind : List ℕ) → length nonce ≡ 20 → is_nonce_end behind ≡ true → nonce_of (nonce ++ behind) ≡ Some nonce
split-at nonce behind long ends =
    by-found (nat_lt (length (nonce ++ behind)) 20) (is_nonce_end (drop 20 (nonce ++ behind))) (take 20 (nonce ++ behind)) nonce
    (long-enough (length (nonce ++ behind)) (λ h. omega (arith, h, long, length-append nonce behind)))
    (ap (λ (l : List ℕ). is_nonce_end l) (subst (λ (n : ℕ). drop n (nonce ++ behind) ≡ behind) long (drop-append_seam nonce behind)) ∙ ends)
    (subst (λ (n : ℕ). take n (nonce ++ behind) ≡ nonce) long (take-append_seam nonce behind))

pub nonce-found : (body nonce : List ℕ) → HasNonce body nonce → nonce_of body ≡ Some nonce
nonce-found body nonce (long, inl bare) =
    ap (λ (l : List ℕ). nonce_of l) (bare ∙ sym (append-nil nonce)) ∙ split-at nonce [] long refl
nonce-found body nonce (long, inr ended) = ap (λ (l : List ℕ). nonce_of l) ended ∙ split-at nonce (0 ∷ []) long refl

by-parts : (short ends : Bool) (front nonce : List ℕ) → nonce-by short ends front ≡ Some nonce → (short ≡ false) × (ends ≡ true) × (front ≡ nonce)
by-parts true ends front nonce e = absurd (cc)
by-parts false true front nonce e = (refl, refl, cc)
by-parts false false front nonce e = absurd (cc)

end-is : (behind : List ℕ) → is_nonce_end behind ≡ true → (behind ≡ []) ⊎ (behind ≡ 0 ∷ [])
end-is [] e = inl refl
end-is (b ∷ []) e = inr (ap (λ (x : ℕ). x ∷ []) (eqb-true b 0 e))
end-is (b ∷ c ∷ more) e = absurd (cc)

pub nonce-is : (body nonce : List ℕ) → nonce_of body ≡ Some nonce → HasNonce body nonce
nonce-is body nonce e =
    let parts = by-parts (nat_lt (length body) 20) (is_nonce_end (drop 20 body)) (take 20 body) nonce e in
    let long : length nonce ≡ 20 = omega (arith, ltb-false (length body) 20 parts.0, length-take 20 body, ap (λ (l : List ℕ). length l) parts.2) in
    let whole : body ≡ nonce ++ drop 20 body = sym (take-append-drop 20 body) ∙ ap (λ (l : List ℕ). l ++ drop 20 body) parts.2 in (
      long,
      ⊎_elim {C = (body ≡ nonce) ⊎ (body ≡ nonce ++ 0 ∷ [])}
          (λ (bare : drop 20 body ≡ []). inl (whole ∙ ap (λ (l : List ℕ). nonce ++ l) bare ∙ append-nil nonce))
          (λ (ended : drop 20 body ≡ 0 ∷ []). inr (whole ∙ ap (λ (l : List ℕ). nonce ++ l) ended))
          (end-is (drop 20 body) parts.1),
    )
