-- Why a client doesn't say a secret in the clear, in their order: the first reason that holds is the result.
use Rattle.std.specs.Prelude.{◌≡◌, ◌⊎◌, ℕ, Bool, true, false, not, List, [], ◌∷◌, Option, Some, None, is_some, unwrap_or, if◌then◌else◌}
use Rattle.auth_packets.specs.declared.exchange.Switch.{Switch}
use Rattle.login_client.specs.Conversation.{answered, asked, factors, full, further, switched}
use Rattle.login_client.specs.Methods.{clear_text}
use Rattle.login_client.specs.Talk.{Talk, Says, Over}
use Rattle.login_client.specs.declared.claims.Claim.{Claim}
use Rattle.login_client.specs.declared.ends.LoginEnd.TheVariants.{WontSend}
use Rattle.login_client.specs.declared.ends.Reason.{Reason}
use Rattle.login_client.specs.declared.ends.Reason.TheVariants.{UnknownMethod, NoSecret, NotLocal, ClearNotPermitted}
use Rattle.login_client.specs.declared.hearing.Heard.{Heard}
use Rattle.login_client.specs.declared.methods.Method.{Method}
use Rattle.login_client.specs.declared.methods.Method.TheVariants.{Native, CachingSha2, Clear, Unknown}

-- ## The list

-- the method by which a secret is said in the clear
abbrev pub is_clear : Method → Bool
is_clear Native = false
is_clear CachingSha2 = false
is_clear Clear = true
is_clear Unknown = false

abbrev pub when : Bool → Reason → Option Reason
when holds reason = if holds then Some reason else None

abbrev pub reasons : Claim → Method → (secret : Option (List ℕ)) → List (Option Reason)
reasons claim method secret =
    when (not (is_clear method)) UnknownMethod
    ∷ when (not (is_some secret)) NoSecret
    ∷ when (not claim.local) NotLocal
    ∷ when (not claim.options.clear) ClearNotPermitted
    ∷ []

abbrev pub or_else : Option Reason → Option Reason → Option Reason
or_else (Some reason) other = Some reason
or_else None other = other

abbrev pub first_of : List (Option Reason) → Option Reason
first_of [] = None
first_of (reason ∷ reasons) = or_else reason (first_of reasons)

-- why the client doesn't say this secret by this method
abbrev pub first_reason : Claim → Method → (secret : Option (List ℕ)) → Option Reason
first_reason claim method secret = first_of (reasons claim method secret)

-- ## What goes by it

-- the secret is said in the clear, unless there is a reason not to
abbrev pub said_unless : Option Reason → (secret : List ℕ) → (Heard → Talk) → Talk
said_unless (Some reason) secret k = Over (WontSend reason)
said_unless None secret k = Says (clear_text secret) k

-- where a further factor is asked for
abbrev pub FactorsGoByReasons : Type 0
FactorsGoByReasons = (claim : Claim) (method : Method) (secret : Option (List ℕ)) (k : Heard → Talk) →
    asked claim method secret k ≡ said_unless (first_reason claim method secret) (unwrap_or secret []) k

-- at a switch to a method that has no nonce
abbrev pub SwitchesGoByReasons : Type 0
SwitchesGoByReasons = (claim : Claim) (method : Method) (s : Switch) (at : ℕ) → (method ≡ Clear) ⊎ (method ≡ Unknown) →
    switched claim method s at ≡ said_unless (first_reason claim method (Some claim.secrets.first)) claim.secrets.first (answered claim method)

-- at 01 04, where caching_sha2_password asks for the password: that needs no permission
abbrev pub PasswordsGoByReasons : Type 0
PasswordsGoByReasons = (claim : Claim) → full claim ≡ said_unless (when (not claim.local) NotLocal) claim.secrets.first (factors claim (further claim))
