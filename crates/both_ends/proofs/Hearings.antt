-- What a client does at the payloads that a session sends, up to the end of its first attempt.
use Rattle.std.proofs.Common.{◌≡◌, refl, ap, ◌∙◌, subst, ℕ, ◌≤◌, List, [], ◌∷◌, ◌++◌, length, take, drop, Bool, true, false, nat_lt, Option, Some, None, if◌then◌else◌, arith, length-append, ltb-true}
use Rattle.std.proofs.Math.Seq.{drop-append_seam, take-append_seam}
use Rattle.std.proofs.lemmas.List.{length-append}
use Rattle.auth_packets.specs.Handshake.{response_text}
use Rattle.factor_chain.specs.declared.credentials.Method.{Method}
use Rattle.factor_chain.specs.declared.credentials.Method.TheVariants as server
use Rattle.session_talk.specs.Texts as texts
use Rattle.session_talk.specs.Texts.{greeting_of, method_name}
use Rattle.login_client.specs.Conversation.{answered, cached, ended, factor, factors, full, further, greeted, nonced, opened_by, responded, response_to, switched}
use Rattle.login_client.specs.Methods.{answer_of, caching_name, clear_text, first_method, is_nonce_end, method_of, native_name, nonce_of}
use Rattle.login_client.specs.Talk.{Talk, Hears, Says, Over}
use Rattle.login_client.specs.declared.claims.Claim.{Claim}
use Rattle.login_client.specs.declared.ends.LoginEnd.TheVariants.{Opened, Refused, WontSend}
use Rattle.login_client.specs.declared.ends.Reason.TheVariants.{NotLocal}
use Rattle.login_client.specs.declared.hearing.Heard.{Heard}
use Rattle.login_client.specs.declared.hearing.Heard.TheVariants.{Greets, Switches, Fast, Full, Accepts, Refuses}
use Rattle.login_client.specs.declared.methods.Method as client-method
use Rattle.login_client.specs.declared.methods.Method.TheVariants as client
use Rattle.auth_packets.specs.declared.exchange.Switch.{Switch}

-- ## Ways to go on

-- a client that takes OK and ERR
pub record IsReady (k : Heard → Talk) : Type 0 where
  pub ok : k Accepts ≡ Over Opened
  pub err : (number : ℕ) → k (Refuses number) ≡ Over (Refused number)

-- and one that takes 01 03 and 01 04 as well
pub record IsCaching (claim : Claim) (k : Heard → Talk) : Type 0 where
  pub ready : IsReady k
  pub fast : k Fast ≡ Hears (factors claim (further claim))
  pub full : k Full ≡ full claim

pub factors-ready : (claim : Claim) → IsReady (factors claim (further claim))
unfolding factors factor ended
factors-ready claim = record { ok = refl; err = λ number. refl }

pub cached-caching : (claim : Claim) → IsCaching claim (cached claim)
unfolding cached factors factor ended
cached-caching claim = record { ready = record { ok = refl; err = λ number. refl }; fast = refl; full = refl }

-- the client's name of a method
abbrev pub client_of : Method → client-method.Method
client_of server.Native = client.Native
client_of server.CachingSha2 = client.CachingSha2

pub native-ready : (claim : Claim) → IsReady (answered claim client.Native)
unfolding answered factors factor ended
native-ready claim = record { ok = refl; err = λ number. refl }

pub answered-caching : (claim : Claim) → IsCaching claim (answered claim client.CachingSha2)
unfolding answered cached factors factor ended
answered-caching claim = record { ready = record { ok = refl; err = λ number. refl }; fast = refl; full = refl }

pub responded-caching : (claim : Claim) → IsCaching claim (responded claim client.CachingSha2)
unfolding responded answered cached factors factor ended
responded-caching claim = record { ready = record { ok = refl; err = λ number. refl }; fast = refl; full = refl }

-- ## Names

native-known : method_of texts.native_name ≡ client.Native
unfolding texts.native_name native_name
native-known = refl

caching-known : method_of texts.caching_name ≡ client.CachingSha2
unfolding texts.caching_name native_name caching_name
caching-known = refl

name-known : (method : Method) → method_of (method_name method) ≡ client_of method
name-known server.Native = native-known
name-known server.CachingSha2 = caching-known

-- ## The greeting

pub greeting-answered : (claim : Claim) (id : ℕ) (nonce : List ℕ) →
    greeted claim (Greets (greeting_of id nonce)) ≡ Says (response_text (response_to claim client.CachingSha2 nonce)) (responded claim client.CachingSha2)
unfolding greeted greeting_of
greeting-answered claim id nonce = ap (λ (m : client-method.Method). opened_by claim (first_method m) nonce) caching-known

-- ## A switch

abbrev chosen-nonce : (short : Bool) → (end : List ℕ) → (nonce : List ℕ) → Option (List ℕ)
chosen-nonce short end nonce = if short then None else (if is_nonce_end end then Some nonce else None)

nonce-found : (nonce : List ℕ) → length nonce ≡ 20 → nonce_of (nonce ++ 0 ∷ []) ≡ Some nonce
nonce-found nonce size =
    let whole = length-append nonce (0 ∷ []) in
    let long : nat_lt (length (nonce ++ 0 ∷ [])) 20 ≡ false = not-short (length (nonce ++ 0 ∷ [])) (omega (arith, whole, size)) in
    let end : drop 20 (nonce ++ 0 ∷ []) ≡ 0 ∷ [] = subst (λ (n : ℕ). drop n (nonce ++ 0 ∷ []) ≡ 0 ∷ []) size (drop-append_seam nonce (0 ∷ [])) in
    let front : take 20 (nonce ++ 0 ∷ []) ≡ nonce = subst (λ (n : ℕ). take n (nonce ++ 0 ∷ []) ≡ nonce) size (take-append_seam nonce (0 ∷ [])) in
    ap (λ (b : Bool). chosen-nonce b (drop 20 (nonce ++ 0 ∷ [])) (take 20 (nonce ++ 0 ∷ []))) long
    ∙ ap (λ (e : List ℕ). chosen-nonce false e (take 20 (nonce ++ 0 ∷ []))) end
    ∙ ap (λ (f : List ℕ). chosen-nonce false (0 ∷ []) f) front
  where
    not-short : (n : ℕ) → 20 ≤ n → nat_lt n 20 ≡ false
    not-short n h = at (nat_lt n 20) refl where
      at : (t : Bool) → nat_lt n 20 ≡ t → t ≡ false
      at true e = absurd (let less = ltb-true n 20 e in omega (arith, less, h))
      at false e = refl

abbrev pub switch-of : Method → List ℕ → Switch
switch-of method nonce = record { plugin = method_name method; body = nonce ++ 0 ∷ [] }

to-known : (claim : Claim) (method : Method) (s : Switch) (at : ℕ) (nonce : List ℕ) → nonce_of s.body ≡ Some nonce →
    switched claim (client_of method) s at ≡ Says (answer_of (client_of method) claim.secrets.first nonce) (answered claim (client_of method))
unfolding switched nonced
to-known claim server.Native s at nonce found = ap (λ (o : Option (List ℕ)). nonced claim client.Native o at) found
to-known claim server.CachingSha2 s at nonce found = ap (λ (o : Option (List ℕ)). nonced claim client.CachingSha2 o at) found

pub switch-answered : (claim : Claim) (method : Method) (nonce : List ℕ) (at : ℕ) → length nonce ≡ 20 →
    responded claim client.CachingSha2 (Switches (switch-of method nonce) at) ≡ Says (answer_of (client_of method) claim.secrets.first nonce) (answered claim (client_of method))
unfolding responded
switch-answered claim method nonce at size =
    ap (λ (m : client-method.Method). switched claim m (switch-of method nonce) at) (name-known method)
    ∙ to-known claim method (switch-of method nonce) at nonce (nonce-found nonce size)

-- ## 01 04

pub full-said : (claim : Claim) → claim.local ≡ true → full claim ≡ Says (clear_text claim.secrets.first) (factors claim (further claim))
unfolding full
full-said claim local = ap (λ (b : Bool). if b then Says (clear_text claim.secrets.first) (factors claim (further claim)) else Over (WontSend NotLocal)) local

pub full-unsaid : (claim : Claim) → claim.local ≡ false → full claim ≡ Over (WontSend NotLocal)
unfolding full
full-unsaid claim local = ap (λ (b : Bool). if b then Says (clear_text claim.secrets.first) (factors claim (further claim)) else Over (WontSend NotLocal)) local
