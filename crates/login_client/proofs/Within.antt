-- A login hears at most six payloads, and ends by itself.
use Rattle.std.proofs.Common.{ℕ, zero, suc, List, Bool, true, false, Option, Some, None, if◌then◌else◌}
use Rattle.login_client.specs.Conversation.{answered, asked, cached, clear, conversation, ended, factor, factors, full, further, greeted, nonced, responded, switched}
use Rattle.login_client.specs.Exchange.{EndsWithin}
use Rattle.login_client.specs.Methods.{clear_text, first_method, method_of, nonce_of}
use Rattle.login_client.specs.Talk.{Talk, Hears, Says, Over}
use Rattle.login_client.specs.declared.claims.Claim.{Claim}
use Rattle.login_client.specs.declared.ends.LoginEnd.TheVariants.{WontSend}
use Rattle.login_client.specs.declared.ends.Reason.TheVariants.{ClearNotPermitted, NotLocal}
use Rattle.auth_packets.specs.declared.exchange.Switch.{Switch}
use Rattle.login_client.specs.declared.methods.Method.{Method}
use Rattle.login_client.specs.declared.methods.Method.TheVariants.{Native, CachingSha2, Clear, Unknown}
use Rattle.login_client.specs.declared.hearing.Heard.{Heard}
use Rattle.login_client.specs.declared.hearing.Heard.TheVariants.{Greets, Switches, Fast, Full, Asks, Accepts, Refuses, BrokenGreeting, BrokenSwitch, BrokenFactor, BrokenOk, BrokenErr, Other}

-- every way to go on ends within so many
abbrev Goes : ℕ → (Heard → Talk) → Type 0
Goes n k = (heard : Heard) → EndsWithin n (k heard)

ended-within : (n : ℕ) → Goes n ended
unfolding ended
ended-within n Accepts = tt
ended-within n (Refuses number) = tt
ended-within n (BrokenOk at) = tt
ended-within n (BrokenErr at) = tt
ended-within n (Greets g) = tt
ended-within n (Switches s at) = tt
ended-within n Fast = tt
ended-within n Full = tt
ended-within n (Asks f) = tt
ended-within n (BrokenGreeting at) = tt
ended-within n (BrokenSwitch at) = tt
ended-within n (BrokenFactor at) = tt
ended-within n Other = tt

said-if : (n : ℕ) (local permitted : Bool) (said : List ℕ) (k : Heard → Talk) → Goes n k
    → EndsWithin (suc n) (if local then (if permitted then Says said k else Over (WontSend ClearNotPermitted)) else Over (WontSend NotLocal))
said-if n true true said k h = h
said-if n true false said k h = tt
said-if n false permitted said k h = tt

said-local : (n : ℕ) (local : Bool) (said : List ℕ) (k : Heard → Talk) → Goes n k → EndsWithin (suc n) (if local then Says said k else Over (WontSend NotLocal))
said-local n true said k h = h
said-local n false said k h = tt

clear-within : (n : ℕ) (claim : Claim) (secret : Option (List ℕ)) (k : Heard → Talk) → Goes n k → EndsWithin (suc n) (clear claim secret k)
unfolding clear
clear-within n claim None k h = tt
clear-within n claim (Some secret) k h = said-if n claim.local claim.options.clear (clear_text secret) k h

asked-within : (n : ℕ) (claim : Claim) (method : Method) (secret : Option (List ℕ)) (k : Heard → Talk) → Goes n k → EndsWithin (suc n) (asked claim method secret k)
unfolding asked
asked-within n claim Native secret k h = tt
asked-within n claim CachingSha2 secret k h = tt
asked-within n claim Clear secret k h = clear-within n claim secret k h
asked-within n claim Unknown secret k h = tt

factor-within : (n : ℕ) (claim : Claim) (secret : Option (List ℕ)) (k : Heard → Talk) → Goes n k → Goes (suc n) (factor claim secret k)
unfolding factor
factor-within n claim secret k h (Asks f) = asked-within n claim (method_of f.plugin) secret k h
factor-within n claim secret k h (BrokenFactor at) = tt
factor-within n claim secret k h Accepts = ended-within (suc n) Accepts
factor-within n claim secret k h (Refuses number) = ended-within (suc n) (Refuses number)
factor-within n claim secret k h (BrokenOk at) = ended-within (suc n) (BrokenOk at)
factor-within n claim secret k h (BrokenErr at) = ended-within (suc n) (BrokenErr at)
factor-within n claim secret k h (Greets g) = ended-within (suc n) (Greets g)
factor-within n claim secret k h (Switches s at) = ended-within (suc n) (Switches s at)
factor-within n claim secret k h Fast = ended-within (suc n) Fast
factor-within n claim secret k h Full = ended-within (suc n) Full
factor-within n claim secret k h (BrokenGreeting at) = ended-within (suc n) (BrokenGreeting at)
factor-within n claim secret k h (BrokenSwitch at) = ended-within (suc n) (BrokenSwitch at)
factor-within n claim secret k h Other = ended-within (suc n) Other

-- the payload that may ask for the second factor, the one that may ask for the third, and one more
factors-within : (claim : Claim) → Goes 2 (factors claim (further claim))
unfolding factors
factors-within claim = factor-within 1 claim claim.secrets.second _ (factor-within 0 claim claim.secrets.third _ (ended-within 0))

full-within : (claim : Claim) → EndsWithin 3 (full claim)
unfolding full
full-within claim = said-local 2 claim.local (clear_text claim.secrets.first) (factors claim (further claim)) (factors-within claim)

more-within : (n : ℕ) (talk : Talk) → EndsWithin n talk → EndsWithin (suc n) talk
more-within zero (Hears k) h = absurd h
more-within (suc n) (Hears k) h = λ heard. more-within n (k heard) (h heard)
more-within zero (Says said k) h = absurd h
more-within (suc n) (Says said k) h = λ heard. more-within n (k heard) (h heard)
more-within n (Over end) h = h

factors-later : (claim : Claim) → Goes 3 (factors claim (further claim))
factors-later claim heard = more-within 2 (factors claim (further claim) heard) (factors-within claim heard)

cached-within : (claim : Claim) → Goes 3 (cached claim)
unfolding cached
cached-within claim Fast = factors-within claim
cached-within claim Full = full-within claim
cached-within claim Accepts = factors-later claim Accepts
cached-within claim (Refuses number) = factors-later claim (Refuses number)
cached-within claim (BrokenOk at) = factors-later claim (BrokenOk at)
cached-within claim (BrokenErr at) = factors-later claim (BrokenErr at)
cached-within claim (Greets g) = factors-later claim (Greets g)
cached-within claim (Switches s at) = factors-later claim (Switches s at)
cached-within claim (Asks f) = factors-later claim (Asks f)
cached-within claim (BrokenGreeting at) = factors-later claim (BrokenGreeting at)
cached-within claim (BrokenSwitch at) = factors-later claim (BrokenSwitch at)
cached-within claim (BrokenFactor at) = factors-later claim (BrokenFactor at)
cached-within claim Other = factors-later claim Other

answered-within : (claim : Claim) (method : Method) → Goes 3 (answered claim method)
unfolding answered
answered-within claim Native = factors-later claim
answered-within claim CachingSha2 = cached-within claim
answered-within claim Clear = factors-later claim
answered-within claim Unknown = factors-later claim

nonced-within : (claim : Claim) (method : Method) (nonce : Option (List ℕ)) (at : ℕ) → EndsWithin 4 (nonced claim method nonce at)
unfolding nonced
nonced-within claim method None at = tt
nonced-within claim method (Some nonce) at = answered-within claim method

switched-within : (claim : Claim) (method : Method) (s : Switch) (at : ℕ) → EndsWithin 4 (switched claim method s at)
unfolding switched
switched-within claim Native s at = nonced-within claim Native (nonce_of s.body) at
switched-within claim CachingSha2 s at = nonced-within claim CachingSha2 (nonce_of s.body) at
switched-within claim Clear s at = clear-within 3 claim (Some claim.secrets.first) (answered claim Clear) (answered-within claim Clear)
switched-within claim Unknown s at = tt

answered-later : (claim : Claim) (method : Method) → Goes 4 (answered claim method)
answered-later claim method heard = more-within 3 (answered claim method heard) (answered-within claim method heard)

responded-within : (claim : Claim) (method : Method) → Goes 4 (responded claim method)
unfolding responded
responded-within claim method (Switches s at) = switched-within claim (method_of s.plugin) s at
responded-within claim method (BrokenSwitch at) = tt
responded-within claim method Accepts = answered-later claim method Accepts
responded-within claim method (Refuses number) = answered-later claim method (Refuses number)
responded-within claim method (BrokenOk at) = answered-later claim method (BrokenOk at)
responded-within claim method (BrokenErr at) = answered-later claim method (BrokenErr at)
responded-within claim method (Greets g) = answered-later claim method (Greets g)
responded-within claim method Fast = answered-later claim method Fast
responded-within claim method Full = answered-later claim method Full
responded-within claim method (Asks f) = answered-later claim method (Asks f)
responded-within claim method (BrokenGreeting at) = answered-later claim method (BrokenGreeting at)
responded-within claim method (BrokenFactor at) = answered-later claim method (BrokenFactor at)
responded-within claim method Other = answered-later claim method Other

greeted-within : (claim : Claim) → Goes 5 (greeted claim)
unfolding greeted
greeted-within claim (Greets g) = responded-within claim (first_method (method_of g.plugin))
greeted-within claim Accepts = tt
greeted-within claim (Refuses number) = tt
greeted-within claim (BrokenOk at) = tt
greeted-within claim (BrokenErr at) = tt
greeted-within claim (Switches s at) = tt
greeted-within claim Fast = tt
greeted-within claim Full = tt
greeted-within claim (Asks f) = tt
greeted-within claim (BrokenGreeting at) = tt
greeted-within claim (BrokenSwitch at) = tt
greeted-within claim (BrokenFactor at) = tt
greeted-within claim Other = tt

-- a whole login
pub login-within : (claim : Claim) → EndsWithin 6 (conversation claim)
login-within claim = greeted-within claim
