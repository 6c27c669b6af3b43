-- A login of the right parts, in which the client gives what it is asked for, comes to the end that the server says.
use Rattle.std.proofs.Common.{◌≡◌, refl, sym, ap, ◌∙◌, subst, ℕ, ◌-◌, List, [], ◌∷◌, ◌++◌, length, Bool, true, false, Option, Some, None, if◌then◌else◌, append_assoc, is_some}
use Rattle.std.specs.List.{AllByRecursion}
use Rattle.auth_packets.specs.Exchange.{switch}
use Rattle.auth_packets.specs.declared.exchange.Switch.{Switch}
use Rattle.auth_packets.specs.declared.exchange.NextFactor.{NextFactor}
use Rattle.auth_packets.specs.declared.handshake.Greeting.{Greeting}
use Rattle.login_client.specs.Conversation.{ClientTalk, answered, asked as asks, cached, clear, conversation, ended, factor, factors, full, further, greeted, nonced, opened_by, responded, switched}
use Rattle.login_client.specs.Hearing.{IsHeard}
use Rattle.login_client.specs.Methods.{clear_text, first_method, method_of, nonce_of}
use Rattle.login_client.specs.Talk.{Talk, Hears, Says, Over, Leads}
use Rattle.login_client.specs.Whole.{AreFactors, AreGiven, Asked, Factor, First, Second, Third, ForAnswer, ForPassword, ForResponse, ForSecret, Gives, HasSecret, IsEnd, IsFactor, IsLogin, IsMore, IsSwitch, IsWhole, none, nothing, one, right, secret_of, stays, to_caching, to_clear, to_native, two, unknown}
use Rattle.login_client.specs.declared.claims.Claim.{Claim}
use Rattle.login_client.specs.declared.ends.LoginEnd.{LoginEnd}
use Rattle.login_client.specs.declared.ends.LoginEnd.TheVariants.{Opened, Refused, WontSend}
use Rattle.login_client.specs.declared.ends.Reason.TheVariants.{ClearNotPermitted, NotLocal}
use Rattle.login_client.specs.declared.methods.Method.{Method}
use Rattle.login_client.specs.declared.methods.Method.TheVariants.{Native, CachingSha2, Clear, Unknown}
use Rattle.login_client.specs.declared.hearing.Heard.{Heard}
use Rattle.login_client.specs.declared.hearing.Heard.TheVariants.{Greets, Switches, Fast, Full, Asks, Accepts, Refuses}
use Rattle.login_client.proofs.Names.{caching-named, clear-named, first-named, native-named, nonce-found}

-- what may stand behind the part with 01 03 and 01 04, and what may stand in it too
abbrev pub IsLate : Heard → Type 0
IsLate (Asks f) = Unit {0}
IsLate Accepts = Unit {0}
IsLate (Refuses number) = Unit {0}
IsLate _ = ⊥

abbrev pub IsBehind : Heard → Type 0
IsBehind Fast = Unit {0}
IsBehind Full = Unit {0}
IsBehind (Asks f) = Unit {0}
IsBehind Accepts = Unit {0}
IsBehind (Refuses number) = Unit {0}
IsBehind _ = ⊥

-- the first payload says something of a kind, by which a talk goes on to the other payloads
pub record Goes (Fits : Heard → Type 0) (k : Heard → Talk) (got written : List (List ℕ)) (now : Talk) : Type 0 where
  pub first : List ℕ
  pub rest : List (List ℕ)
  pub heard : Heard
  pub is_heard : IsHeard first heard
  pub fits : Fits heard
  pub got_is : got ≡ first ∷ rest
  pub leads : Leads (k heard) rest written now

goes-hears : (Fits : Heard → Type 0) (k : Heard → Talk) (got written : List (List ℕ)) (now : Talk) → Goes Fits k got written now → Leads (Hears k) got written now
goes-hears Fits k got written now g = subst (λ (l : List (List ℕ)). Leads (Hears k) l written now) (sym g.got_is) (g.heard, g.is_heard, g.leads)

goes-says : (Fits : Heard → Type 0) (said : List ℕ) (k : Heard → Talk) (got written : List (List ℕ)) (now : Talk) → Goes Fits k got written now → Leads (Says said k) got (said ∷ written) now
goes-says Fits said k got written now g =
    subst (λ (l : List (List ℕ)). Leads (Says said k) l (said ∷ written) now) (sym g.got_is) (written, refl, g.heard, g.is_heard, g.leads)

-- a talk that says something, and goes on
says-on : (Fits : Heard → Type 0) (talk : Talk) (said : List ℕ) (k : Heard → Talk) (got written : List (List ℕ)) (now : Talk) → talk ≡ Says said k → Goes Fits k got written now
    → Leads talk got (said ∷ written) now
says-on Fits talk said k got written now is g = subst (λ (t : Talk). Leads t got (said ∷ written) now) (sym is) (goes-says Fits said k got written now g)

-- The same by another way to go on, where both do the same by what may be heard
goes-by : (F G : Heard → Type 0) (k j : Heard → Talk) (got written : List (List ℕ)) (now : Talk) → ((heard : Heard) → F heard → j heard ≡ k heard) → ((heard : Heard) → F heard → G heard)
    → Goes F k got written now → Goes G j got written now
goes-by F G k j got written now same fits g = record {
  first = g.first;
  rest = g.rest;
  heard = g.heard;
  is_heard = g.is_heard;
  fits = fits g.heard g.fits;
  got_is = g.got_is;
  leads = subst (λ (t : Talk). Leads t g.rest written now) (sym (same g.heard g.fits)) g.leads;
}

-- ## The end

goes-end : (k : Heard → Talk) → k Accepts ≡ Over Opened → ((number : ℕ) → k (Refuses number) ≡ Over (Refused number)) → (end : LoginEnd) (payload : List ℕ) (later : List (List ℕ)) → IsEnd end payload
    → Goes IsLate k (payload ∷ later) [] (Over end)
goes-end k opens refuses Opened payload later is = record {
  first = payload;
  rest = later;
  heard = Accepts;
  is_heard = is;
  fits = tt;
  got_is = refl;
  leads = subst (λ (t : Talk). Leads t later [] (Over Opened)) (sym opens) (refl, refl);
}
goes-end k opens refuses (Refused number) payload later is = record {
  first = payload;
  rest = later;
  heard = Refuses number;
  is_heard = is;
  fits = tt;
  got_is = refl;
  leads = subst (λ (t : Talk). Leads t later [] (Over (Refused number))) (sym (refuses number)) (refl, refl);
}
goes-end k opens refuses end payload later is = absurd is

-- ## Secrets in the clear

said-is : (local permitted : Bool) (said : List ℕ) (k : Heard → Talk) → local ≡ true → permitted ≡ true
    → (if local then (if permitted then Says said k else Over (WontSend ClearNotPermitted)) else Over (WontSend NotLocal)) ≡ Says said k
said-is true true said k l p = refl
said-is true false said k l p = absurd (cc)
said-is false permitted said k l p = absurd (cc)

said-local : (local : Bool) (said : List ℕ) (k : Heard → Talk) → local ≡ true → (if local then Says said k else Over (WontSend NotLocal)) ≡ Says said k
said-local true said k l = refl
said-local false said k l = absurd (cc)

clear-says : (claim : Claim) (which : Factor) (said : List ℕ) (k : Heard → Talk) → Gives claim (ForSecret which) said → clear claim (secret_of claim which) k ≡ Says said k
unfolding clear
clear-says claim which said k (local, permitted, secret, there, is) =
    ap (λ (s : Option (List ℕ)). clear claim s k) there ∙ said-is claim.local claim.options.clear (clear_text secret) k local permitted ∙ ap (λ (l : List ℕ). Says l k) (sym is)

full-says : (claim : Claim) (said : List ℕ) → Gives claim ForPassword said → full claim ≡ Says said (factors claim (further claim))
unfolding full
full-says claim said (local, is) =
    said-local claim.local (clear_text claim.secrets.first) (factors claim (further claim)) local ∙ ap (λ (l : List ℕ). Says l (factors claim (further claim))) (sym is)

-- ## Factors

asks-clear : (claim : Claim) (method : Method) (secret : Option (List ℕ)) (k : Heard → Talk) → method ≡ Clear → asks claim method secret k ≡ clear claim secret k
unfolding asks
asks-clear claim method secret k is = ap (λ (m : Method). asks claim m secret k) is

factor-says : (claim : Claim) (which : Factor) (said : List ℕ) (k : Heard → Talk) (f : NextFactor) → method_of f.plugin ≡ Clear → Gives claim (ForSecret which) said
    → factor claim (secret_of claim which) k (Asks f) ≡ Says said k
unfolding factor
factor-says claim which said k f is gives = asks-clear claim (method_of f.plugin) (secret_of claim which) k is ∙ clear-says claim which said k gives

goes-factor : (claim : Claim) (which : Factor) (k : Heard → Talk) (payload said : List ℕ) (got written : List (List ℕ)) (now : Talk) → IsFactor payload → Gives claim (ForSecret which) said
    → Goes IsLate k got written now → Goes IsLate (factor claim (secret_of claim which) k) (payload ∷ got) (said ∷ written) now
goes-factor claim which k payload said got written now (f, spelled, named) gives g = record {
  first = payload;
  rest = got;
  heard = Asks f;
  is_heard = spelled;
  fits = tt;
  got_is = refl;
  leads = says-on IsLate _ said k got written now (factor-says claim which said k f (clear-named f.plugin named) gives) g;
}

last-end : (claim : Claim) (end : LoginEnd) (payload : List ℕ) (later : List (List ℕ)) → IsEnd end payload → Goes IsLate (factors claim []) (payload ∷ later) [] (Over end)
unfolding factors ended
last-end claim end payload later is = goes-end ended refl (λ number. refl) end payload later is

third-end : (claim : Claim) (end : LoginEnd) (payload : List ℕ) (later : List (List ℕ)) → IsEnd end payload → Goes IsLate (factors claim (claim.secrets.third ∷ [])) (payload ∷ later) [] (Over end)
unfolding factors factor ended
third-end claim end payload later is = goes-end (factor claim claim.secrets.third (factors claim [])) refl (λ number. refl) end payload later is

goes-third : (claim : Claim) (payload said : List ℕ) (got written : List (List ℕ)) (now : Talk) → IsFactor payload → Gives claim (ForSecret Third) said → Goes IsLate (factors claim []) got written now
    → Goes IsLate (factors claim (claim.secrets.third ∷ [])) (payload ∷ got) (said ∷ written) now
unfolding factors
goes-third claim payload said got written now = goes-factor claim Third (factors claim []) payload said got written now

goes-second : (claim : Claim) (payload said : List ℕ) (got written : List (List ℕ)) (now : Talk) → IsFactor payload → Gives claim (ForSecret Second) said
    → Goes IsLate (factors claim (claim.secrets.third ∷ [])) got written now → Goes IsLate (factors claim (further claim)) (payload ∷ got) (said ∷ written) now
unfolding factors
goes-second claim payload said got written now = goes-factor claim Second (factors claim (claim.secrets.third ∷ [])) payload said got written now

second-end : (claim : Claim) (end : LoginEnd) (payload : List ℕ) (later : List (List ℕ)) → IsEnd end payload → Goes IsLate (factors claim (further claim)) (payload ∷ later) [] (Over end)
unfolding factors factor ended
second-end claim end payload later is =
    goes-end (factor claim claim.secrets.second (factors claim (claim.secrets.third ∷ []))) refl (λ number. refl) end payload later is

goes-factors : (claim : Claim) (got : List (List ℕ)) (asked : List Asked) (written : List (List ℕ)) (end : LoginEnd) (ending : List ℕ) (later : List (List ℕ)) → AreFactors got asked
    → AreGiven claim asked written → IsEnd end ending → Goes IsLate (factors claim (further claim)) (got ++ ending ∷ later) written (Over end)
goes-factors claim _ _ [] end ending later none given is = second-end claim end ending later is
goes-factors claim _ _ (said ∷ written) end ending later none given is = absurd given
goes-factors claim _ _ [] end ending later (one second asks) given is = absurd given
goes-factors claim _ _ (said ∷ []) end ending later (one second asks) given is =
    goes-second claim second said (ending ∷ later) [] (Over end) asks given.0 (third-end claim end ending later is)
goes-factors claim _ _ (said ∷ next ∷ written) end ending later (one second asks) given is = absurd given.1
goes-factors claim _ _ [] end ending later (two second third asks asks') given is = absurd given
goes-factors claim _ _ (said ∷ []) end ending later (two second third asks asks') given is = absurd given.1
goes-factors claim _ _ (said ∷ next ∷ []) end ending later (two second third asks asks') given is =
    goes-second claim second said (third ∷ ending ∷ later) (next ∷ []) (Over end) asks given.0
    (goes-third claim third next (ending ∷ later) [] (Over end) asks' given.1.0 (last-end claim end ending later is))
goes-factors claim _ _ (said ∷ next ∷ other ∷ written) end ending later (two second third asks asks') given is = absurd given.1.1

-- ## 01 03 and 01 04

answered-late : (claim : Claim) (method : Method) (heard : Heard) → IsLate heard → answered claim method heard ≡ factors claim (further claim) heard
unfolding answered cached
answered-late claim Native heard late = refl
answered-late claim Clear heard late = refl
answered-late claim Unknown heard late = refl
answered-late claim CachingSha2 (Asks f) late = refl
answered-late claim CachingSha2 Accepts late = refl
answered-late claim CachingSha2 (Refuses number) late = refl
answered-late claim CachingSha2 heard late = absurd late

late-behind : (heard : Heard) → IsLate heard → IsBehind heard
late-behind (Asks f) late = tt
late-behind Accepts late = tt
late-behind (Refuses number) late = tt
late-behind heard late = absurd late

after-fast : (claim : Claim) → answered claim CachingSha2 Fast ≡ Hears (factors claim (further claim))
unfolding answered cached
after-fast claim = refl

after-full : (claim : Claim) → answered claim CachingSha2 Full ≡ full claim
unfolding answered cached
after-full claim = refl

goes-more : (claim : Claim) (method : Method) (got : List (List ℕ)) (asked : List Asked) (written tail later : List (List ℕ)) (now : Talk) → IsMore method got asked → AreGiven claim asked written
    → Goes IsLate (factors claim (further claim)) tail later now → Goes IsBehind (answered claim method) (got ++ tail) (written ++ later) now
goes-more claim method _ _ [] tail later now (nothing method') given g =
    goes-by IsLate IsBehind (factors claim (further claim)) (answered claim method) tail later now (answered-late claim method) late-behind g
goes-more claim method _ _ (said ∷ written) tail later now (nothing method') given g = absurd given
goes-more claim _ _ _ [] tail later now right given g = record {
  first = 0x01 ∷ 0x03 ∷ [];
  rest = tail;
  heard = Fast;
  is_heard = refl;
  fits = tt;
  got_is = refl;
  leads = subst (λ (t : Talk). Leads t tail later now) (sym (after-fast claim)) (goes-hears IsLate (factors claim (further claim)) tail later now g);
}
goes-more claim _ _ _ (said ∷ written) tail later now right given g = absurd given
goes-more claim _ _ _ [] tail later now unknown given g = absurd given
goes-more claim _ _ _ (said ∷ []) tail later now unknown given g = record {
  first = 0x01 ∷ 0x04 ∷ [];
  rest = tail;
  heard = Full;
  is_heard = refl;
  fits = tt;
  got_is = refl;
  leads = says-on IsLate _ said (factors claim (further claim)) tail later now (after-full claim ∙ full-says claim said given.0) g;
}
goes-more claim _ _ _ (said ∷ next ∷ written) tail later now unknown given g = absurd given.1

-- ## The switch

responded-behind : (claim : Claim) (method : Method) (heard : Heard) → IsBehind heard → responded claim method heard ≡ answered claim method heard
unfolding responded
responded-behind claim method Fast b = refl
responded-behind claim method Full b = refl
responded-behind claim method (Asks f) b = refl
responded-behind claim method Accepts b = refl
responded-behind claim method (Refuses number) b = refl
responded-behind claim method heard b = absurd b

responded-switch : (claim : Claim) (first method : Method) (s : Switch) (at : ℕ) → method_of s.plugin ≡ method → responded claim first (Switches s at) ≡ switched claim method s at
unfolding responded
responded-switch claim first method s at is = ap (λ (m : Method). switched claim m s at) is

nonced-says : (claim : Claim) (method : Method) (found : Option (List ℕ)) (nonce said : List ℕ) (at : ℕ) → found ≡ Some nonce → Gives claim (ForAnswer method nonce) said
    → nonced claim method found at ≡ Says said (answered claim method)
unfolding nonced
nonced-says claim method found nonce said at is given =
    ap (λ (o : Option (List ℕ)). nonced claim method o at) is ∙ ap (λ (l : List ℕ). Says l (answered claim method)) (sym given)

native-switched : (claim : Claim) (s : Switch) (at : ℕ) → switched claim Native s at ≡ nonced claim Native (nonce_of s.body) at
unfolding switched
native-switched claim s at = refl

caching-switched : (claim : Claim) (s : Switch) (at : ℕ) → switched claim CachingSha2 s at ≡ nonced claim CachingSha2 (nonce_of s.body) at
unfolding switched
caching-switched claim s at = refl

clear-switched : (claim : Claim) (s : Switch) (at : ℕ) → switched claim Clear s at ≡ clear claim (secret_of claim First) (answered claim Clear)
unfolding switched
clear-switched claim s at = refl

abbrev pub Anything : Heard → Type 0
Anything heard = Unit {0}

goes-switched : (claim : Claim) (first method : Method) (s : Switch) (payload said : List ℕ) (tail later : List (List ℕ)) (now : Talk) → switch.Spells s payload
    → responded claim first (Switches s (length payload - length s.body)) ≡ Says said (answered claim method) → Goes IsBehind (answered claim method) tail later now
    → Goes Anything (responded claim first) (payload ∷ tail) (said ∷ later) now
goes-switched claim first method s payload said tail later now spelled says g = record {
  first = payload;
  rest = tail;
  heard = Switches s (length payload - length s.body);
  is_heard = (spelled, refl);
  fits = tt;
  got_is = refl;
  leads = says-on IsBehind _ said (answered claim method) tail later now says g;
}

goes-switch : (claim : Claim) (first : Method) (got : List (List ℕ)) (asked : List Asked) (last : Method) (written tail later : List (List ℕ)) (now : Talk) → IsSwitch first got asked last
    → AreGiven claim asked written → Goes IsBehind (answered claim last) tail later now → Goes Anything (responded claim first) (got ++ tail) (written ++ later) now
goes-switch claim first _ _ _ [] tail later now (stays method) given g =
    goes-by IsBehind Anything (answered claim first) (responded claim first) tail later now (responded-behind claim first) (λ heard b. tt) g
goes-switch claim first _ _ _ (said ∷ written) tail later now (stays method) given g = absurd given
goes-switch claim first _ _ _ [] tail later now (to_native method s payload nonce spelled named has) given g = absurd given
goes-switch claim first _ _ _ (said ∷ []) tail later now (to_native method s payload nonce spelled named has) given g =
    goes-switched claim first Native s payload said tail later now spelled
    (responded-switch claim first Native s _ (native-named s.plugin named) ∙ native-switched claim s _ ∙ nonced-says claim Native (nonce_of s.body) nonce said _ (nonce-found s.body nonce has) given.0) g
goes-switch claim first _ _ _ (said ∷ next ∷ written) tail later now (to_native method s payload nonce spelled named has) given g = absurd given.1
goes-switch claim first _ _ _ [] tail later now (to_caching method s payload nonce spelled named has) given g = absurd given
goes-switch claim first _ _ _ (said ∷ []) tail later now (to_caching method s payload nonce spelled named has) given g =
    goes-switched claim first CachingSha2 s payload said tail later now spelled
    (responded-switch claim first CachingSha2 s _ (caching-named s.plugin named) ∙ caching-switched claim s _ ∙ nonced-says claim CachingSha2 (nonce_of s.body) nonce said _ (nonce-found s.body nonce has) given.0) g
goes-switch claim first _ _ _ (said ∷ next ∷ written) tail later now (to_caching method s payload nonce spelled named has) given g = absurd given.1
goes-switch claim first _ _ _ [] tail later now (to_clear method s payload spelled named) given g = absurd given
goes-switch claim first _ _ _ (said ∷ []) tail later now (to_clear method s payload spelled named) given g =
    goes-switched claim first Clear s payload said tail later now spelled
    (responded-switch claim first Clear s _ (clear-named s.plugin named) ∙ clear-switched claim s _ ∙ clear-says claim First said (answered claim Clear) given.0) g
goes-switch claim first _ _ _ (said ∷ next ∷ written) tail later now (to_clear method s payload spelled named) given g = absurd given.1

-- ## The whole

-- what is given for two lists is two lists laid end to end
pub given-split : (claim : Claim) (xs ys : List Asked) (written : List (List ℕ)) → AreGiven claim (xs ++ ys) written
    → (before behind : List (List ℕ)) × (written ≡ before ++ behind) × AreGiven claim xs before × AreGiven claim ys behind
given-split claim [] ys written given = ([], written, refl, tt, given)
given-split claim (x ∷ xs) ys [] given = absurd given
given-split claim (x ∷ xs) ys (said ∷ written) given =
    let more = given-split claim xs ys written given.1 in
    (said ∷ more.0, more.1, ap (λ (l : List (List ℕ)). said ∷ l) more.2, (given.0, more.3), more.4)

greeted-says : (claim : Claim) (hello : Greeting) (method : Method) (said : List ℕ) → first_method (method_of hello.plugin) ≡ method → Gives claim (ForResponse method hello.nonce) said
    → greeted claim (Greets hello) ≡ Says said (responded claim method)
unfolding greeted
greeted-says claim hello method said is given =
    ap (λ (m : Method). opened_by claim m hello.nonce) is ∙ ap (λ (l : List ℕ). Says l (responded claim method)) (sym given)

-- the same payloads in the order in which they are taken apart
pub laid-out : (hello ending : List ℕ) (switches more factors later : List (List ℕ))
    → (hello ∷ [] ++ switches ++ more ++ factors ++ ending ∷ []) ++ later ≡ hello ∷ (switches ++ (more ++ (factors ++ ending ∷ later)))
laid-out hello ending switches more factors later = simp append_assoc refl

login-leads : (claim : Claim) (got later written : List (List ℕ)) (asked : List Asked) (end : LoginEnd) → (login : IsLogin got asked end)
    → AreGiven claim (ForResponse login.first login.hello.nonce ∷ (login.by_switch ++ login.by_more ++ login.by_factors)) written
    → Leads (conversation claim) (login.greeted ∷ (login.switches ++ (login.more ++ (login.factors ++ login.ending ∷ later)))) written (Over end)
login-leads claim got later [] asked end login given = absurd given
login-leads claim got later (said ∷ written) asked end login given =
    let late = given-split claim (login.by_switch ++ login.by_more) login.by_factors written given.1 in
    let early = given-split claim login.by_switch login.by_more late.0 late.3 in
    let factors-part = goes-factors claim login.factors login.by_factors late.1 end login.ending later login.are_factors late.4 login.is_end in
    let more-part = goes-more claim login.last login.more login.by_more early.1 _ late.1 (Over end) login.is_more early.4 factors-part in
    let switch-part = goes-switch claim login.first login.switches login.by_switch login.last early.0 _ _ (Over end) login.is_switch early.3 more-part in
    let says = greeted-says claim login.hello login.first said (first-named login.hello.plugin login.first login.is_first) given.0 in
    let all : written ≡ early.0 ++ (early.1 ++ late.1) = late.2 ∙ ap (λ (l : List (List ℕ)). l ++ late.1) early.2 ∙ append_assoc early.0 early.1 late.1 in (
      Greets login.hello,
      login.is_greeting,
      subst (λ (l : List (List ℕ)). Leads (greeted claim (Greets login.hello)) (login.switches ++ (login.more ++ (login.factors ++ login.ending ∷ later))) (said ∷ l) (Over end)) (sym all)
          (says-on Anything _ said (responded claim login.first) _ _ (Over end) says switch-part),
    )

-- a whole login ends as the server says, whatever it sends behind that
pub login-ends : (claim : Claim) (got later written : List (List ℕ)) (asked : List Asked) (end : LoginEnd) → IsLogin got asked end → AreGiven claim asked written
    → ClientTalk claim (got ++ later) written (Some end)
login-ends claim got later written asked end login given = record {
  now = Over end;
  leads = subst (λ (l : List (List ℕ)). Leads (conversation claim) l written (Over end))
      (sym (ap (λ (l : List (List ℕ)). l ++ later) login.got_is ∙ laid-out login.greeted login.ending login.switches login.more login.factors later))
      (login-leads claim got later written asked end login (subst (λ (l : List Asked). AreGiven claim l written) login.asked_is given));
  result_is = refl;
}

pub whole-talks : (claim : Claim) (got written : List (List ℕ)) (end : LoginEnd) → IsWhole claim got written end → ClientTalk claim got written (Some end)
whole-talks claim got written end w =
    subst (λ (l : List (List ℕ)). ClientTalk claim l written (Some end)) (sym w.got_is) (login-ends claim w.login w.later written w.asked end w.is_login w.are_given)

-- ## What can be given

some-is : (secret : Option (List ℕ)) → is_some secret ≡ true → (s : List ℕ) × (secret ≡ Some s)
some-is None e = absurd (cc)
some-is (Some s) e = (s, refl)

gives : (claim : Claim) (asked : Asked) → claim.local ≡ true → claim.options.clear ≡ true → HasSecret claim asked → (payload : List ℕ) × Gives claim asked payload
gives claim (ForResponse method nonce) local permitted has = (_, refl)
gives claim (ForAnswer method nonce) local permitted has = (_, refl)
gives claim ForPassword local permitted has = (clear_text claim.secrets.first, (local, refl))
gives claim (ForSecret which) local permitted has =
    let found = some-is (secret_of claim which) has in
    (clear_text found.0, (local, permitted, found.0, found.1, refl))

-- on a local link, with leave for the clear method and the secrets, all is given that is asked for
pub all-given : (claim : Claim) (asked : List Asked) → claim.local ≡ true → claim.options.clear ≡ true → AllByRecursion (HasSecret claim) asked → (written : List (List ℕ)) × AreGiven claim asked written
all-given claim [] local permitted has = ([], tt)
all-given claim (x ∷ xs) local permitted has =
    let first = gives claim x local permitted has.0 in
    let more = all-given claim xs local permitted has.1 in
    (first.0 ∷ more.0, (first.1, more.1))

-- an ERR in the greeting's place
pub refused-at-once : (claim : Claim) (payload : List ℕ) (later : List (List ℕ)) (number : ℕ) → IsEnd (Refused number) payload → ClientTalk claim (payload ∷ later) [] (Some (Refused number))
unfolding greeted
refused-at-once claim payload later number is = record {
  now = Over (Refused number);
  leads = (Refuses number, is, (refl, refl));
  result_is = refl;
}
