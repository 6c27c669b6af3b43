-- A client ends as it is told: it opens at an OK, and is refused at an ERR with that number.
use Rattle.std.proofs.Common.{◌≡◌, refl, ap, subst, ℕ, List, [], ◌∷◌, Contains, Bool, true, false, Option, Some, None, if◌then◌else◌, arith}
use Rattle.std.proofs.lemmas.List.Elements.{Contains-append_right}
use Rattle.login_client.specs.Conversation.{ClientTalk, answered, asked, cached, clear, ended, factor, factors, full, further, greeted, nonced, responded, switched}
use Rattle.login_client.specs.Hearing.{IsHeard}
use Rattle.login_client.specs.Methods.{clear_text, first_method, method_of, nonce_of}
use Rattle.login_client.specs.Talk.{Talk, Hears, Says, Over, Leads, result_of}
use Rattle.login_client.specs.declared.claims.Claim.{Claim}
use Rattle.login_client.specs.declared.ends.LoginEnd.{LoginEnd}
use Rattle.login_client.specs.declared.ends.LoginEnd.TheVariants.{Opened, Refused, WontSend}
use Rattle.login_client.specs.declared.ends.Reason.TheVariants.{ClearNotPermitted, NotLocal}
use Rattle.login_client.specs.declared.methods.Method.{Method}
use Rattle.login_client.specs.declared.methods.Method.TheVariants.{Native, CachingSha2, Clear, Unknown}
use Rattle.auth_packets.specs.declared.exchange.Switch.{Switch}
use Rattle.login_client.specs.declared.hearing.Heard.{Heard}
use Rattle.login_client.specs.declared.hearing.Heard.TheVariants.{Greets, Switches, Fast, Full, Asks, Accepts, Refuses, BrokenSwitch, BrokenFactor}

-- what is heard tells this end, where it is OK or a refusal
abbrev pub Tells : Heard → LoginEnd → Type 0
Tells heard Opened = heard ≡ Accepts
Tells heard (Refused number) = heard ≡ Refuses number
Tells heard _ = Unit {0}

-- a talk ends as what it heard last tells it
abbrev pub EndsAsTold : Heard → Talk → Type 0
EndsAsTold before (Hears k) = (heard : Heard) → EndsAsTold heard (k heard)
EndsAsTold before (Says said k) = (heard : Heard) → EndsAsTold heard (k heard)
EndsAsTold before (Over how) = Tells before how

abbrev AllTold : (Heard → Talk) → Type 0
AllTold k = (heard : Heard) → EndsAsTold heard (k heard)

ended-told : AllTold ended
unfolding ended
ended-told Accepts = refl
ended-told (Refuses number) = refl
ended-told _ = tt

said-told : (heard : Heard) (local permitted : Bool) (said : List ℕ) (k : Heard → Talk) → AllTold k
    → EndsAsTold heard (if local then (if permitted then Says said k else Over (WontSend ClearNotPermitted)) else Over (WontSend NotLocal))
said-told heard true true said k told = told
said-told heard true false said k told = tt
said-told heard false permitted said k told = tt

local-told : (heard : Heard) (local : Bool) (said : List ℕ) (k : Heard → Talk) → AllTold k
    → EndsAsTold heard (if local then Says said k else Over (WontSend NotLocal))
local-told heard true said k told = told
local-told heard false said k told = tt

clear-told : (claim : Claim) (heard : Heard) (secret : Option (List ℕ)) (k : Heard → Talk) → AllTold k → EndsAsTold heard (clear claim secret k)
unfolding clear
clear-told claim heard None k told = tt
clear-told claim heard (Some secret) k told = said-told heard claim.local claim.options.clear (clear_text secret) k told

asked-told : (claim : Claim) (heard : Heard) (method : Method) (secret : Option (List ℕ)) (k : Heard → Talk) → AllTold k → EndsAsTold heard (asked claim method secret k)
unfolding asked
asked-told claim heard Clear secret k told = clear-told claim heard secret k told
asked-told claim heard _ secret k told = tt

factor-told : (claim : Claim) (secret : Option (List ℕ)) (k : Heard → Talk) → AllTold k → AllTold (factor claim secret k)
unfolding factor
factor-told claim secret k told (Asks f) = asked-told claim (Asks f) (method_of f.plugin) secret k told
factor-told claim secret k told (BrokenFactor at) = tt
factor-told claim secret k told heard = ended-told heard

factors-told : (claim : Claim) → AllTold (factors claim (further claim))
unfolding factors
factors-told claim = factor-told claim claim.secrets.second _ (factor-told claim claim.secrets.third _ ended-told)

full-told : (claim : Claim) → EndsAsTold Full (full claim)
unfolding full
full-told claim = local-told Full claim.local (clear_text claim.secrets.first) (factors claim (further claim)) (factors-told claim)

cached-told : (claim : Claim) → AllTold (cached claim)
unfolding cached
cached-told claim Fast = factors-told claim
cached-told claim Full = full-told claim
cached-told claim heard = factors-told claim heard

answered-told : (claim : Claim) (method : Method) → AllTold (answered claim method)
unfolding answered
answered-told claim CachingSha2 = cached-told claim
answered-told claim _ = factors-told claim

nonced-told : (claim : Claim) (heard : Heard) (method : Method) (nonce : Option (List ℕ)) (at : ℕ) → EndsAsTold heard (nonced claim method nonce at)
unfolding nonced
nonced-told claim heard method None at = tt
nonced-told claim heard method (Some nonce) at = answered-told claim method

switched-told : (claim : Claim) (heard : Heard) (method : Method) (s : Switch) (at : ℕ) → EndsAsTold heard (switched claim method s at)
unfolding switched
switched-told claim heard Native s at = nonced-told claim heard Native (nonce_of s.body) at
switched-told claim heard CachingSha2 s at = nonced-told claim heard CachingSha2 (nonce_of s.body) at
switched-told claim heard Clear s at = clear-told claim heard (Some claim.secrets.first) (answered claim Clear) (answered-told claim Clear)
switched-told claim heard Unknown s at = tt

responded-told : (claim : Claim) (method : Method) → AllTold (responded claim method)
unfolding responded
responded-told claim method (Switches s at) = switched-told claim (Switches s at) (method_of s.plugin) s at
responded-told claim method (BrokenSwitch at) = tt
responded-told claim method heard = answered-told claim method heard

greeted-told : (claim : Claim) → AllTold (greeted claim)
unfolding greeted
greeted-told claim (Greets g) = responded-told claim (first_method (method_of g.plugin))
greeted-told claim (Refuses number) = refl
greeted-told claim _ = tt

-- ## What was heard

-- of these payloads one tells this end
abbrev pub IsTold : LoginEnd → List (List ℕ) → Type 0
IsTold how got = (payload : List ℕ) × (heard : Heard) × Contains got payload × IsHeard payload heard × Tells heard how

told-later : (how : LoginEnd) (first : List ℕ) (got : List (List ℕ)) → IsTold how got → IsTold how (first ∷ got)
told-later how first got (payload, heard, among, is, tells) = (payload, heard, Contains-append_right (first ∷ []) got payload among, is, tells)

told-first : (how : LoginEnd) (payload : List ℕ) (got : List (List ℕ)) (heard : Heard) → IsHeard payload heard → Tells heard how → IsTold how (payload ∷ got)
told-first how payload got heard is tells = (payload, heard, (0, omega arith, refl), is, tells)

some-is : (a b : LoginEnd) → Some a ≡ Some b → a ≡ b
some-is a b e = cc

-- a talk that is over has heard what tells its end
heard-told : (k : Heard → Talk) (payload : List ℕ) (got written : List (List ℕ)) (now : Talk) (how : LoginEnd) (heard : Heard) → IsHeard payload heard → EndsAsTold heard (k heard)
    → Leads (k heard) got written now → result_of now ≡ Some how → IsTold how (payload ∷ got)
heard-told k payload got written now how heard is told leads ends = by (k heard) payload got written heard is told leads where
  by : (t : Talk) (first : List ℕ) (later wrote : List (List ℕ)) (said : Heard) → IsHeard first said → EndsAsTold said t → Leads t later wrote now → IsTold how (first ∷ later)
  by (Hears k') first [] wrote said is' told' (none, at) = absurd (let e = ap result_of at in cc)
  by (Hears k') first (next ∷ later) wrote said is' told' (heard', is-heard', leads') =
      told-later how first (next ∷ later) (by (k' heard') next later wrote heard' is-heard' (told' heard') leads')
  by (Says said' k') first [] wrote said is' told' (one, at) = absurd (let e = ap result_of at in cc)
  by (Says said' k') first (next ∷ later) wrote said is' told' (rest, split, heard', is-heard', leads') =
      told-later how first (next ∷ later) (by (k' heard') next later rest heard' is-heard' (told' heard') leads')
  by (Over end) first later wrote said is' told' (none, at) =
      let e = ap result_of at in
      let same : end ≡ how = cc in
      told-first how first later said is' (subst (λ (x : LoginEnd). Tells said x) same told')

pub client-told : (claim : Claim) (got written : List (List ℕ)) (how : LoginEnd) → ClientTalk claim got written (Some how) → IsTold how got
client-told claim [] written how talk = absurd (let e = ap result_of talk.leads.1 in let f = talk.result_is in cc)
client-told claim (payload ∷ got) written how talk =
    let leads = talk.leads in
    heard-told (greeted claim) payload got written talk.now how leads.0 leads.1 (greeted-told claim leads.0) leads.2 (sym-of talk.result_is) where
      sym-of : {a b : Option LoginEnd} → a ≡ b → b ≡ a
      sym-of e = cc
