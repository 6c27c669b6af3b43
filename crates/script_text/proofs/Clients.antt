-- The tests of what a client can log in with decide the client's own words.
use Rattle.std.proofs.Common.{◌≡◌, ℕ, Bool, true, false, not, ◌&&◌, ◌/◌, ◌%◌, List, Option, Some, None, refl, ap, ◌∙◌, eqb, arith}
use Rattle.std.specs.Prelude.{Contains, IfSome}
use Rattle.std.specs.Bool.{Decides}
use Rattle.std.specs.List.{list_any}
use Rattle.std.proofs.lemmas.Bool.Decides.{Decides-and, Decides-by_or, Decides-eqb, Decides-like, Decides-not, same_from_decides}
use Rattle.std.proofs.lemmas.Grind.{common_steps}
use Rattle.auth_packets.specs.Flags.{CONNECT_ATTRS, CONNECT_WITH_DB, HasNeeded, is_set, second_fits, third_fits}
use Rattle.login_client.specs.Claims.{AreFit, AreUsable}
use Rattle.login_client.specs.Zeros.{HasNoZero}
use Rattle.login_client.specs.declared.claims.Secrets.{Secrets}
use Rattle.script_text.specs.ClientLines.{IsClient, are_usable, are_whole, is_client, is_whole, is_whole_if, options_with}

itself : (b : Bool) → Decides b (b ≡ true)
itself b = (λ h. h, λ h. h)

unset : (b : Bool) → Decides (not b) (b ≡ false)
unset true = (λ h. cc, λ h. cc)
unset false = (λ h. refl, λ h. refl)

zero-found : (text : List ℕ) → Decides (list_any (λ b. eqb b 0) text) (Contains text 0)
zero-found text =
    Decides-like (list_any (λ b. eqb b 0) text) (λ h. (h.0, h.1, h.2 0)) (λ h. (h.0, h.1, λ d. grind (arith, common_steps)))
    (Decides-by_or (λ b. eqb b 0) (λ b. b ≡ 0) (list_any (λ b. eqb b 0)) (λ b. Decides-eqb b 0) refl (λ _ _. refl) text)

whole : (text : List ℕ) → Decides (is_whole text) (HasNoZero text)
whole text = Decides-not (list_any (λ b. eqb b 0) text) (zero-found text)

whole-if : (text : Option (List ℕ)) → Decides (is_whole_if text) (IfSome text HasNoZero)
whole-if None = (λ h. tt, λ h. refl)
whole-if (Some text) = whole text

fit : (secrets : Secrets) → Decides (are_whole secrets) (AreFit secrets)
fit secrets =
    Decides-like (are_whole secrets) (λ h. record { first = h.0.0; second = h.0.1; third = h.1 }) (λ h. ((h.first, h.second), h.third))
    (Decides-and (is_whole secrets.first && is_whole_if secrets.second) (is_whole_if secrets.third)
    (Decides-and (is_whole secrets.first) (is_whole_if secrets.second) (whole secrets.first) (whole-if secrets.second)) (whole-if secrets.third))

needed : (flags : ℕ) → Decides (second_fits (flags / 256 % 256) && third_fits (flags / 256 / 256 % 256)) (HasNeeded flags)
needed flags =
    Decides-and (second_fits (flags / 256 % 256)) (third_fits (flags / 256 / 256 % 256)) (itself (second_fits (flags / 256 % 256))) (itself (third_fits (flags / 256 / 256 % 256)))

usable : (flags : ℕ) → Decides (are_usable flags) (AreUsable (options_with flags))
usable flags =
    Decides-like (are_usable flags) (λ h. record { needed = h.0.0; no_database = h.0.1; no_attributes = h.1 }) (λ h. ((h.needed, h.no_database), h.no_attributes))
    (Decides-and (second_fits (flags / 256 % 256) && third_fits (flags / 256 / 256 % 256) && not (is_set CONNECT_WITH_DB flags)) (not (is_set CONNECT_ATTRS flags))
    (Decides-and (second_fits (flags / 256 % 256) && third_fits (flags / 256 / 256 % 256)) (not (is_set CONNECT_WITH_DB flags)) (needed flags) (unset (is_set CONNECT_WITH_DB flags)))
    (unset (is_set CONNECT_ATTRS flags)))

-- the client's own tests, one after another
pub tested : (a b c : Bool) (flags : ℕ) (user : List ℕ) (secrets : Secrets) → Decides a (AreUsable (options_with flags)) → Decides b (HasNoZero user)
    → Decides c (AreFit secrets) → (a && b && c) ≡ is_client flags user secrets
tested a b c flags user secrets options name secrets-fit =
    ap (λ (t : Bool). t && b && c) (same_from_decides a (are_usable flags) options (usable flags))
    ∙ ap (λ (t : Bool). are_usable flags && t && c) (same_from_decides b (is_whole user) name (whole user))
    ∙ ap (λ (t : Bool). are_usable flags && is_whole user && t) (same_from_decides c (are_whole secrets) secrets-fit (fit secrets))

-- a user that holds a byte 00
pub other-name : (flags : ℕ) (user : List ℕ) (secrets : Secrets) → Decides true (AreUsable (options_with flags)) → Decides false (HasNoZero user)
    → false ≡ is_client flags user secrets
other-name flags user secrets options name = tested true false (are_whole secrets) flags user secrets options name (fit secrets)

-- what passes the tests
pub client : (flags : ℕ) (user : List ℕ) (secrets : Secrets) → is_client flags user secrets ≡ true → IsClient flags user secrets
client flags user secrets h =
    let parts = (Decides-and (are_usable flags && is_whole user) (are_whole secrets)
    (Decides-and (are_usable flags) (is_whole user) (usable flags) (whole user)) (fit secrets)).0 h in
    record { options = parts.0.0; name = parts.0.1; fit = parts.1 }
