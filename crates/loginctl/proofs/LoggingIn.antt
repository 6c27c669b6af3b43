-- A login by what words choose.
use Rattle.std.proofs.Common.{◌≡◌, ◌≤◌, refl, sym, ap, ◌∙◌, subst, ℕ, List, [], Bool, true, false, Option, Some, None, IfSome, arith}
use Rattle.std.specs.Prelude.{IsSomeAnd, unwrap_or}
use Rattle.lg_outside.specs.Faults.{Rose}
use Rattle.lg_outside.specs.Links.{dialled_also}
use Rattle.lg_outside.specs.Traffic.{Traffic}
use Rattle.login_client.specs.Claims.{AreFit, AreUsable}
use Rattle.login_client.specs.Conversation.{conversation}
use Rattle.login_client.specs.Exchange.{EndsAs, closed, decided, failed, framing, no_memory}
use Rattle.login_client.specs.Talk.{Talk}
use Rattle.login_client.specs.Zeros.{HasNoZero}
use Rattle.login_client.specs.declared.claims.Claim.{Claim}
use Rattle.login_client.specs.declared.claims.Secrets.{Secrets}
use Rattle.login_client.specs.declared.claims.ClientOptions.{ClientOptions}
use Rattle.login_client.specs.declared.ends.LoginEnd.{LoginEnd}
use Rattle.loginctl.specs.LoginWords.{Choice, IsFit, IsName}
use Rattle.loginctl.specs.Logins.{LogsIn, claim_of, flags_of, options_of, path_of, secrets_of, talked}
use Rattle.loginctl.specs.Outsides.{LinkState}

no-zero-in-nothing : HasNoZero []
no-zero-in-nothing (k, lt, is) = omega arith

name-whole : (text : Option (List ℕ)) → IsSomeAnd text IsName → HasNoZero (unwrap_or text [])
name-whole (Some text) h = h.1
name-whole None h = no-zero-in-nothing

whole-or-nothing : (text : Option (List ℕ)) → IfSome text HasNoZero → HasNoZero (unwrap_or text [])
whole-or-nothing (Some text) h = h
whole-or-nothing None h = no-zero-in-nothing

pub user-whole : (choice : Choice) (user : List ℕ) → IsFit choice → user ≡ unwrap_or choice.user [] → HasNoZero user
user-whole choice user fit is = subst (λ (t : List ℕ). HasNoZero t) (sym is) (name-whole choice.user fit.user)

pub secrets-fit : (choice : Choice) (secrets : Secrets) → IsFit choice → secrets ≡ secrets_of choice → AreFit secrets
secrets-fit choice secrets fit is =
    subst (λ (s : Secrets). AreFit s) (sym is)
    (let made : AreFit (secrets_of choice) = record { first = whole-or-nothing choice.password fit.password; second = fit.factor2; third = fit.factor3 } in made)

flags-usable : (expired clear : Bool) → AreUsable (let o : ClientOptions = record { flags = flags_of expired; clear = clear } in o)
flags-usable true clear = record { needed = (refl, refl); no_database = refl; no_attributes = refl }
flags-usable false clear = record { needed = (refl, refl); no_database = refl; no_attributes = refl }

pub options-usable : (choice : Choice) (options : ClientOptions) → options ≡ options_of choice → AreUsable options
options-usable choice options is = subst (λ (o : ClientOptions). AreUsable o) (sym is) (flags-usable choice.expired choice.clear)

ends-weaker : (talk : Talk) (id place : ℕ) (before after : Option Traffic) (Rises Rose : Type 0) (end : LoginEnd) → (Rises → Rose) → EndsAs talk id place before after Rises end
    → EndsAs talk id place before after Rose end
ends-weaker talk id place before after Rises Rose _ up (decided got sent end is-decided moved x) = decided got sent end is-decided moved x
ends-weaker talk id place before after Rises Rose _ up (framing got sent fault moved x) = framing got sent fault moved x
ends-weaker talk id place before after Rises Rose _ up (closed got sent ending is-open moved x at-end) = closed got sent ending is-open moved x at-end
ends-weaker talk id place before after Rises Rose _ up (failed got sent count stand moved x rises) = failed got sent count stand moved x (up rises)
ends-weaker talk id place before after Rises Rose _ up (no_memory got more sent count stand moved x) = no_memory got more sent count stand moved x

-- the client's login is the login of the choice
pub logs-in : (choice : Choice) (local local' : Bool) (before middle after : LinkState) (end : LoginEnd) (path user : List ℕ) (secrets : Secrets) (options : ClientOptions)
    → path ≡ path_of choice → user ≡ unwrap_or choice.user [] → secrets ≡ secrets_of choice → options ≡ options_of choice → local' ≡ local
    → middle.told ≡ before.told → middle.dialled ≡ dialled_also path before.dialled → after.dialled ≡ middle.dialled → before.faults ≤ middle.faults
    → EndsAs (conversation (record { user = user; secrets = secrets; options = options; local = local' })) 0 0 middle.told after.told (Rose middle.faults after.faults) end
    → LogsIn choice local before after end
logs-in choice local local' before middle after end path user secrets options path-is user-is secrets-are options-are local-is same dialled stays rising ends =
    let claim-is : (let c : Claim = record { user = user; secrets = secrets; options = options; local = local' } in c) ≡ claim_of choice local =
    ap (λ (u : List ℕ). let c : Claim = record { user = u; secrets = secrets; options = options; local = local' } in c) user-is
    ∙ ap (λ (s : Secrets). let c : Claim = record { user = unwrap_or choice.user []; secrets = s; options = options; local = local' } in c) secrets-are
    ∙ ap (λ (o : ClientOptions). let c : Claim = record { user = unwrap_or choice.user []; secrets = secrets_of choice; options = o; local = local' } in c) options-are
    ∙ ap (λ (l : Bool). claim_of choice l) local-is in
    talked end
    (stays ∙ dialled ∙ ap (λ (p : List ℕ). dialled_also p before.dialled) path-is)
    (ends-weaker (conversation (claim_of choice local)) 0 0 before.told after.told (Rose middle.faults after.faults) (Rose before.faults after.faults) end (λ rises. omega (arith, rises, rising))
    (subst (λ (c : Claim). EndsAs (conversation c) 0 0 before.told after.told (Rose middle.faults after.faults) end) claim-is
    (subst (λ (told : Option Traffic). EndsAs (conversation (record { user = user; secrets = secrets; options = options; local = local' })) 0 0 told after.told (Rose middle.faults after.faults) end) same ends)))
