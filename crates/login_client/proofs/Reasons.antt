-- The client's talk goes by the list of reasons.
use Rattle.std.proofs.Common.{◌≡◌, ℕ, Bool, true, false, not, List, [], ◌∷◌, Some, None, if◌then◌else◌, refl, sym, subst, inl, inr}
use Rattle.login_client.specs.Conversation.{answered, asked, clear, factors, full, further, switched}
use Rattle.login_client.specs.Methods.{clear_text}
use Rattle.login_client.specs.Reasons.{FactorsGoByReasons, PasswordsGoByReasons, SwitchesGoByReasons, first_of, first_reason, said_unless, when}
use Rattle.login_client.specs.Talk.{Talk, Says, Over}
use Rattle.login_client.specs.declared.ends.LoginEnd.TheVariants.{WontSend}
use Rattle.login_client.specs.declared.ends.Reason.TheVariants.{NotLocal, ClearNotPermitted}
use Rattle.login_client.specs.declared.hearing.Heard.{Heard}
use Rattle.login_client.specs.declared.methods.Method.{Method}
use Rattle.login_client.specs.declared.methods.Method.TheVariants.{Native, CachingSha2, Clear, Unknown}

by-local : (local : Bool) (secret : List ℕ) (k : Heard → Talk) →
    (if local then Says (clear_text secret) k else Over (WontSend NotLocal)) ≡ said_unless (when (not local) NotLocal) secret k
by-local true secret k = refl
by-local false secret k = refl

by-flags : (local permitted : Bool) (secret : List ℕ) (k : Heard → Talk) →
    (if local then (if permitted then Says (clear_text secret) k else Over (WontSend ClearNotPermitted)) else Over (WontSend NotLocal))
    ≡ said_unless (first_of (None ∷ None ∷ when (not local) NotLocal ∷ when (not permitted) ClearNotPermitted ∷ [])) secret k
by-flags true true secret k = refl
by-flags true false secret k = refl
by-flags false true secret k = refl
by-flags false false secret k = refl

pub factors_go : FactorsGoByReasons
unfolding asked clear
factors_go claim Native secret k = refl
factors_go claim CachingSha2 secret k = refl
factors_go claim Unknown secret k = refl
factors_go claim Clear None k = refl
factors_go claim Clear (Some secret) k = by-flags claim.local claim.options.clear secret k

pub switches_go : SwitchesGoByReasons
unfolding switched clear
switches_go claim method s at (inl is) =
    subst (λ (m : Method). switched claim m s at ≡ said_unless (first_reason claim m (Some claim.secrets.first)) claim.secrets.first (answered claim m)) (sym is)
    (by-flags claim.local claim.options.clear claim.secrets.first (answered claim Clear))
switches_go claim method s at (inr is) =
    subst (λ (m : Method). switched claim m s at ≡ said_unless (first_reason claim m (Some claim.secrets.first)) claim.secrets.first (answered claim m)) (sym is) refl

pub passwords_go : PasswordsGoByReasons
unfolding full
passwords_go claim = by-local claim.local claim.secrets.first (factors claim (further claim))
