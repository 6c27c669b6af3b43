-- A secret is said in the clear only where it may be.
use Rattle.std.proofs.Common.{◌≡◌, refl, subst, ℕ, List, Bool, true, false, Option, Some, None, if◌then◌else◌}
use Rattle.auth_packets.specs.declared.exchange.Switch.{Switch}
use Rattle.auth_packets.specs.declared.exchange.NextFactor.{NextFactor}
use Rattle.login_client.specs.Conversation.{answered, asked, cached, clear, conversation, ended, factor, factors, full, further, greeted, nonced, responded, switched}
use Rattle.login_client.specs.Methods.{clear_text, first_method, method_of, nonce_of}
use Rattle.login_client.specs.Secrets.{KeepsTo, MaySay, answer, response, second, third, full as says-full, switch as says-switch}
use Rattle.login_client.specs.Talk.{Talk, Says, Over}
use Rattle.login_client.specs.declared.claims.Claim.{Claim}
use Rattle.login_client.specs.declared.ends.LoginEnd.TheVariants.{WontSend}
use Rattle.login_client.specs.declared.ends.Reason.TheVariants.{ClearNotPermitted, NotLocal}
use Rattle.login_client.specs.declared.methods.Method.{Method}
use Rattle.login_client.specs.declared.methods.Method.TheVariants.{Native, CachingSha2, Clear, Unknown}
use Rattle.login_client.specs.declared.hearing.Heard.{Heard}
use Rattle.login_client.specs.declared.hearing.Heard.TheVariants.{Greets, Switches, Fast, Full, Asks, Accepts, Refuses, BrokenGreeting, BrokenSwitch, BrokenFactor, BrokenOk, BrokenErr, Other}

-- every way to go on keeps to it
abbrev Keeps : Claim → (Heard → Talk) → Type 0
Keeps claim k = (heard : Heard) → KeepsTo claim heard (k heard)

ended-keeps : (claim : Claim) → Keeps claim ended
unfolding ended
ended-keeps claim Accepts = tt
ended-keeps claim (Refuses number) = tt
ended-keeps claim (BrokenOk at) = tt
ended-keeps claim (BrokenErr at) = tt
ended-keeps claim (Greets g) = tt
ended-keeps claim (Switches s at) = tt
ended-keeps claim Fast = tt
ended-keeps claim Full = tt
ended-keeps claim (Asks f) = tt
ended-keeps claim (BrokenGreeting at) = tt
ended-keeps claim (BrokenSwitch at) = tt
ended-keeps claim (BrokenFactor at) = tt
ended-keeps claim Other = tt

said-if : (claim : Claim) (heard : Heard) (local permitted : Bool) (said : List ℕ) (k : Heard → Talk) → (local ≡ true → permitted ≡ true → MaySay claim heard said) → Keeps claim k
    → KeepsTo claim heard (if local then (if permitted then Says said k else Over (WontSend ClearNotPermitted)) else Over (WontSend NotLocal))
said-if claim heard true true said k may keeps = (may refl refl, keeps)
said-if claim heard true false said k may keeps = tt
said-if claim heard false permitted said k may keeps = tt

said-local : (claim : Claim) (heard : Heard) (local : Bool) (said : List ℕ) (k : Heard → Talk) → (local ≡ true → MaySay claim heard said) → Keeps claim k
    → KeepsTo claim heard (if local then Says said k else Over (WontSend NotLocal))
said-local claim heard true said k may keeps = (may refl, keeps)
said-local claim heard false said k may keeps = tt

clear-keeps : (claim : Claim) (heard : Heard) (secret : Option (List ℕ)) (k : Heard → Talk)
    → ((s : List ℕ) → secret ≡ Some s → claim.local ≡ true → claim.options.clear ≡ true → MaySay claim heard (clear_text s)) → Keeps claim k → KeepsTo claim heard (clear claim secret k)
unfolding clear
clear-keeps claim heard None k may keeps = tt
clear-keeps claim heard (Some secret) k may keeps = said-if claim heard claim.local claim.options.clear (clear_text secret) k (may secret refl) keeps

asked-keeps : (claim : Claim) (heard : Heard) (method : Method) (secret : Option (List ℕ)) (k : Heard → Talk)
    → ((s : List ℕ) → method ≡ Clear → secret ≡ Some s → claim.local ≡ true → claim.options.clear ≡ true → MaySay claim heard (clear_text s)) → Keeps claim k → KeepsTo claim heard (asked claim method secret k)
unfolding asked
asked-keeps claim heard Native secret k may keeps = tt
asked-keeps claim heard CachingSha2 secret k may keeps = tt
asked-keeps claim heard Clear secret k may keeps = clear-keeps claim heard secret k (λ s. may s refl) keeps
asked-keeps claim heard Unknown secret k may keeps = tt

factor-keeps : (claim : Claim) (secret : Option (List ℕ)) (k : Heard → Talk)
    → ((f : NextFactor) (s : List ℕ) → method_of f.plugin ≡ Clear → secret ≡ Some s → claim.local ≡ true → claim.options.clear ≡ true → MaySay claim (Asks f) (clear_text s)) → Keeps claim k
    → Keeps claim (factor claim secret k)
unfolding factor
factor-keeps claim secret k may keeps (Asks f) = asked-keeps claim (Asks f) (method_of f.plugin) secret k (may f) keeps
factor-keeps claim secret k may keeps (BrokenFactor at) = tt
factor-keeps claim secret k may keeps Accepts = ended-keeps claim Accepts
factor-keeps claim secret k may keeps (Refuses number) = ended-keeps claim (Refuses number)
factor-keeps claim secret k may keeps (BrokenOk at) = ended-keeps claim (BrokenOk at)
factor-keeps claim secret k may keeps (BrokenErr at) = ended-keeps claim (BrokenErr at)
factor-keeps claim secret k may keeps (Greets g) = ended-keeps claim (Greets g)
factor-keeps claim secret k may keeps (Switches s at) = ended-keeps claim (Switches s at)
factor-keeps claim secret k may keeps Fast = ended-keeps claim Fast
factor-keeps claim secret k may keeps Full = ended-keeps claim Full
factor-keeps claim secret k may keeps (BrokenGreeting at) = ended-keeps claim (BrokenGreeting at)
factor-keeps claim secret k may keeps (BrokenSwitch at) = ended-keeps claim (BrokenSwitch at)
factor-keeps claim secret k may keeps Other = ended-keeps claim Other

factors-keep : (claim : Claim) → Keeps claim (factors claim (further claim))
unfolding factors
factors-keep claim =
    factor-keeps claim claim.secrets.second _ (λ f s is-clear is local permitted. second f s is-clear local permitted is)
    (factor-keeps claim claim.secrets.third _ (λ f s is-clear is local permitted. third f s is-clear local permitted is) (ended-keeps claim))

full-keeps : (claim : Claim) → KeepsTo claim Full (full claim)
unfolding full
full-keeps claim = said-local claim Full claim.local (clear_text claim.secrets.first) (factors claim (further claim)) says-full (factors-keep claim)

cached-keeps : (claim : Claim) → Keeps claim (cached claim)
unfolding cached
cached-keeps claim Fast = factors-keep claim
cached-keeps claim Full = full-keeps claim
cached-keeps claim Accepts = factors-keep claim Accepts
cached-keeps claim (Refuses number) = factors-keep claim (Refuses number)
cached-keeps claim (BrokenOk at) = factors-keep claim (BrokenOk at)
cached-keeps claim (BrokenErr at) = factors-keep claim (BrokenErr at)
cached-keeps claim (Greets g) = factors-keep claim (Greets g)
cached-keeps claim (Switches s at) = factors-keep claim (Switches s at)
cached-keeps claim (Asks f) = factors-keep claim (Asks f)
cached-keeps claim (BrokenGreeting at) = factors-keep claim (BrokenGreeting at)
cached-keeps claim (BrokenSwitch at) = factors-keep claim (BrokenSwitch at)
cached-keeps claim (BrokenFactor at) = factors-keep claim (BrokenFactor at)
cached-keeps claim Other = factors-keep claim Other

answered-keeps : (claim : Claim) (method : Method) → Keeps claim (answered claim method)
unfolding answered
answered-keeps claim Native = factors-keep claim
answered-keeps claim CachingSha2 = cached-keeps claim
answered-keeps claim Clear = factors-keep claim
answered-keeps claim Unknown = factors-keep claim

nonced-keeps : (claim : Claim) (heard : Heard) (method : Method) (nonce : Option (List ℕ)) (at : ℕ) → KeepsTo claim heard (nonced claim method nonce at)
unfolding nonced
nonced-keeps claim heard method None at = tt
nonced-keeps claim heard method (Some nonce) at = (answer heard method nonce, answered-keeps claim method)

first-is : (a b : List ℕ) → Some a ≡ Some b → a ≡ b
first-is a b e = cc

switched-keeps : (claim : Claim) (method : Method) (s : Switch) (at : ℕ) → method_of s.plugin ≡ method → KeepsTo claim (Switches s at) (switched claim method s at)
unfolding switched
switched-keeps claim Native s at is = nonced-keeps claim (Switches s at) Native (nonce_of s.body) at
switched-keeps claim CachingSha2 s at is = nonced-keeps claim (Switches s at) CachingSha2 (nonce_of s.body) at
switched-keeps claim Clear s at is =
    clear-keeps claim (Switches s at) (Some claim.secrets.first) (answered claim Clear)
    (λ secret same local permitted. subst (λ (text : List ℕ). MaySay claim (Switches s at) (clear_text text)) (first-is claim.secrets.first secret same) (says-switch s at is local permitted))
    (answered-keeps claim Clear)
switched-keeps claim Unknown s at is = tt

responded-keeps : (claim : Claim) (method : Method) → Keeps claim (responded claim method)
unfolding responded
responded-keeps claim method (Switches s at) = switched-keeps claim (method_of s.plugin) s at refl
responded-keeps claim method (BrokenSwitch at) = tt
responded-keeps claim method Accepts = answered-keeps claim method Accepts
responded-keeps claim method (Refuses number) = answered-keeps claim method (Refuses number)
responded-keeps claim method (BrokenOk at) = answered-keeps claim method (BrokenOk at)
responded-keeps claim method (BrokenErr at) = answered-keeps claim method (BrokenErr at)
responded-keeps claim method (Greets g) = answered-keeps claim method (Greets g)
responded-keeps claim method Fast = answered-keeps claim method Fast
responded-keeps claim method Full = answered-keeps claim method Full
responded-keeps claim method (Asks f) = answered-keeps claim method (Asks f)
responded-keeps claim method (BrokenGreeting at) = answered-keeps claim method (BrokenGreeting at)
responded-keeps claim method (BrokenFactor at) = answered-keeps claim method (BrokenFactor at)
responded-keeps claim method Other = answered-keeps claim method Other

greeted-keeps : (claim : Claim) → Keeps claim (greeted claim)
unfolding greeted
greeted-keeps claim (Greets g) =
    (response (Greets g) (first_method (method_of g.plugin)) g.nonce, responded-keeps claim (first_method (method_of g.plugin)))
greeted-keeps claim Accepts = tt
greeted-keeps claim (Refuses number) = tt
greeted-keeps claim (BrokenOk at) = tt
greeted-keeps claim (BrokenErr at) = tt
greeted-keeps claim (Switches s at) = tt
greeted-keeps claim Fast = tt
greeted-keeps claim Full = tt
greeted-keeps claim (Asks f) = tt
greeted-keeps claim (BrokenGreeting at) = tt
greeted-keeps claim (BrokenSwitch at) = tt
greeted-keeps claim (BrokenFactor at) = tt
greeted-keeps claim Other = tt

-- a whole login
pub login-keeps : (claim : Claim) (heard : Heard) → KeepsTo claim heard (conversation claim)
login-keeps claim heard = greeted-keeps claim
