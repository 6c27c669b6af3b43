-- A talk that comes to an end which the server says was a login of the right parts.
use Rattle.std.proofs.Common.{◌≡◌, ◌⊎◌, inl, inr, ⊎_elim, refl, sym, ap, ◌∙◌, subst, ℕ, List, [], ◌∷◌, ◌++◌, Bool, true, false, Option, Some, None, if◌then◌else◌, append_assoc}
use Rattle.auth_packets.specs.Handshake.{greeting, response_text}
use Rattle.auth_packets.specs.declared.exchange.Switch.{Switch}
use Rattle.auth_packets.specs.declared.handshake.Greeting.{Greeting}
use Rattle.login_client.specs.Conversation.{ClientTalk, answered, asked as asks, cached, clear, ended, factor, factors, full, further, greeted, malformed, nonced, responded, response_to, switched}
use Rattle.login_client.specs.Hearing.{IsHeard}
use Rattle.login_client.specs.Methods.{answer_of, clear_text, first_method, method_of, nonce_of}
use Rattle.login_client.specs.Talk.{Talk, Hears, Says, Over, Leads, result_of}
use Rattle.login_client.specs.Whole.{AreFactors, AreGiven, Asked, Factor, First, Second, Third, ForAnswer, ForPassword, ForResponse, ForSecret, Gives, HasNonce, IsEnd, IsFactor, IsFirst, IsMore, IsSwitch, IsTurnedAway, IsWhole, none, nothing, one, right, secret_of, stays, to_caching, to_clear, to_native, two, unknown}
use Rattle.login_client.specs.declared.claims.Claim.{Claim}
use Rattle.login_client.specs.declared.ends.LoginEnd.{LoginEnd}
use Rattle.login_client.specs.declared.ends.LoginEnd.TheVariants.{Opened, Refused, WontSend}
use Rattle.login_client.specs.declared.ends.Reason.{Reason}
use Rattle.login_client.specs.declared.ends.Reason.TheVariants.{ClearNotPermitted, NotLocal}
use Rattle.login_client.specs.declared.methods.Method.{Method}
use Rattle.login_client.specs.declared.methods.Method.TheVariants.{Native, CachingSha2, Clear, Unknown}
use Rattle.login_client.specs.declared.hearing.Heard.{Heard}
use Rattle.login_client.specs.declared.hearing.Heard.TheVariants.{Greets, Switches, Fast, Full, Asks, Accepts, Refuses, BrokenSwitch, BrokenFactor}
use Rattle.login_client.proofs.Names.{caching-name, clear-name, first-is, native-name, nonce-is}
use Rattle.login_client.proofs.Opening.{Anything, Goes, laid-out, refused-at-once, whole-talks}

-- ## Ends

-- an end that the server says
abbrev IsSaid : LoginEnd → Type 0
IsSaid Opened = Unit {0}
IsSaid (Refused number) = Unit {0}
IsSaid _ = ⊥

-- a talk came to such an end
abbrev Reaches : LoginEnd → Talk → Type 0
Reaches end now = (Some end ≡ result_of now) × IsSaid end

over-is : (said end : LoginEnd) (now : Talk) → now ≡ Over said → Reaches end now → end ≡ said
over-is said end now at r = let e : Some end ≡ Some said = r.0 ∙ ap (λ (t : Talk). result_of t) at in cc

not-malformed : (at : ℕ) (end : LoginEnd) (now : Talk) → now ≡ malformed at → Reaches end now → ⊥
not-malformed at end now is r = subst (λ (e : LoginEnd). IsSaid e) (over-is _ end now is r) r.1

not-unsent : (reason : Reason) (end : LoginEnd) (now : Talk) → now ≡ Over (WontSend reason) → Reaches end now → ⊥
not-unsent reason end now is r = subst (λ (e : LoginEnd). IsSaid e) (over-is _ end now is r) r.1

not-waiting : (k : Heard → Talk) (end : LoginEnd) (now : Talk) → now ≡ Hears k → Reaches end now → ⊥
not-waiting k end now is r = let e : Some end ≡ None = r.0 ∙ ap (λ (t : Talk). result_of t) is in absurd (cc)

-- ## What is heard and said

hears-back : (k : Heard → Talk) (got written : List (List ℕ)) (now : Talk) (end : LoginEnd) → Leads (Hears k) got written now → Reaches end now → Goes Anything k got written now
hears-back k [] written now end l r = absurd (not-waiting k end now l.1 r)
hears-back k (payload ∷ rest) written now end (heard, is-heard, l) r = record {
  first = payload;
  rest = rest;
  heard = heard;
  is_heard = is-heard;
  fits = tt;
  got_is = refl;
  leads = l;
}

-- a payload was written, and the talk went on
record Said (said : List ℕ) (k : Heard → Talk) (got written : List (List ℕ)) (now : Talk) : Type 0 where
  pub more : List (List ℕ)
  pub written_is : written ≡ said ∷ more
  pub goes : Goes Anything k got more now

says-back : (said : List ℕ) (k : Heard → Talk) (got written : List (List ℕ)) (now : Talk) (end : LoginEnd) → Leads (Says said k) got written now → Reaches end now → Said said k got written now
says-back said k [] written now end l r = absurd (not-waiting k end now l.1 r)
says-back said k (payload ∷ rest) written now end (more, is, heard, is-heard, l) r = record {
  more = more;
  written_is = is;
  goes = record {
    first = payload;
    rest = rest;
    heard = heard;
    is_heard = is-heard;
    fits = tt;
    got_is = refl;
    leads = l;
  };
}

ended-back : (payload : List ℕ) (heard : Heard) (rest written : List (List ℕ)) (now : Talk) (end : LoginEnd) → IsHeard payload heard → Leads (ended heard) rest written now → Reaches end now
    → IsEnd end payload × (written ≡ [])
unfolding ended
ended-back payload Accepts rest written now end x l r = (subst (λ (e : LoginEnd). IsEnd e payload) (sym (over-is Opened end now l.1 r)) x, l.0)
ended-back payload (Refuses number) rest written now end x l r = (subst (λ (e : LoginEnd). IsEnd e payload) (sym (over-is (Refused number) end now l.1 r)) x, l.0)
ended-back payload heard rest written now end x l r = absurd (not-malformed _ end now l.1 r)

-- ## Secrets in the clear

said-if-back : (local permitted : Bool) (said : List ℕ) (k : Heard → Talk) (got written : List (List ℕ)) (now : Talk) (end : LoginEnd)
    → Leads (if local then (if permitted then Says said k else Over (WontSend ClearNotPermitted)) else Over (WontSend NotLocal)) got written now → Reaches end now
    → (local ≡ true) × (permitted ≡ true) × Leads (Says said k) got written now
said-if-back true true said k got written now end l r = (refl, refl, l)
said-if-back true false said k got written now end l r = absurd (not-unsent _ end now l.1 r)
said-if-back false permitted said k got written now end l r = absurd (not-unsent _ end now l.1 r)

said-local-back : (local : Bool) (said : List ℕ) (k : Heard → Talk) (got written : List (List ℕ)) (now : Talk) (end : LoginEnd) → Leads (if local then Says said k else Over (WontSend NotLocal)) got written now
    → Reaches end now → (local ≡ true) × Leads (Says said k) got written now
said-local-back true said k got written now end l r = (refl, l)
said-local-back false said k got written now end l r = absurd (not-unsent _ end now l.1 r)

-- a payload that was asked for was written, and the talk went on
record Gave (claim : Claim) (asked : Asked) (k : Heard → Talk) (got written : List (List ℕ)) (now : Talk) : Type 0 where
  pub said : List ℕ
  pub gives : Gives claim asked said
  pub goes_on : Said said k got written now

clear-by : (claim : Claim) (which : Factor) (secret : Option (List ℕ)) (k : Heard → Talk) (got written : List (List ℕ)) (now : Talk) (end : LoginEnd) → secret_of claim which ≡ secret
    → Leads (clear claim secret k) got written now → Reaches end now → Gave claim (ForSecret which) k got written now
unfolding clear
clear-by claim which None k got written now end same l r = absurd (not-unsent _ end now l.1 r)
clear-by claim which (Some secret) k got written now end same l r =
    let may = said-if-back claim.local claim.options.clear (clear_text secret) k got written now end l r in
    record {
      said = clear_text secret;
      gives = (may.0, may.1, secret, same, refl);
      goes_on = says-back (clear_text secret) k got written now end may.2 r;
    }

clear-back : (claim : Claim) (which : Factor) (k : Heard → Talk) (got written : List (List ℕ)) (now : Talk) (end : LoginEnd) → Leads (clear claim (secret_of claim which) k) got written now → Reaches end now
    → Gave claim (ForSecret which) k got written now
clear-back claim which k got written now end l r = clear-by claim which (secret_of claim which) k got written now end refl l r

full-back : (claim : Claim) (got written : List (List ℕ)) (now : Talk) (end : LoginEnd) → Leads (full claim) got written now → Reaches end now
    → Gave claim ForPassword (factors claim (further claim)) got written now
unfolding full
full-back claim got written now end l r =
    let may = said-local-back claim.local (clear_text claim.secrets.first) (factors claim (further claim)) got written now end l r in
    record {
      said = clear_text claim.secrets.first;
      gives = (may.0, refl);
      goes_on = says-back (clear_text claim.secrets.first) (factors claim (further claim)) got written now end may.1 r;
    }

-- ## Factors

asked-back : (claim : Claim) (method : Method) (which : Factor) (k : Heard → Talk) (got written : List (List ℕ)) (now : Talk) (end : LoginEnd) → Leads (asks claim method (secret_of claim which) k) got written now
    → Reaches end now → (method ≡ Clear) × Gave claim (ForSecret which) k got written now
unfolding asks
asked-back claim Native which k got written now end l r = absurd (not-unsent _ end now l.1 r)
asked-back claim CachingSha2 which k got written now end l r = absurd (not-unsent _ end now l.1 r)
asked-back claim Clear which k got written now end l r = (refl, clear-back claim which k got written now end l r)
asked-back claim Unknown which k got written now end l r = absurd (not-unsent _ end now l.1 r)

-- a factor was asked for and its secret given, or the server said the end
abbrev EndsOrAsks : Claim → Factor → (Heard → Talk) → List ℕ → (rest written : List (List ℕ)) → Talk → LoginEnd → Type 0
EndsOrAsks claim which k payload rest written now end =
    (IsEnd end payload × (written ≡ [])) ⊎ (IsFactor payload × Gave claim (ForSecret which) k rest written now)

factor-back : (claim : Claim) (which : Factor) (k : Heard → Talk) (payload : List ℕ) (heard : Heard) (rest written : List (List ℕ)) (now : Talk) (end : LoginEnd) → IsHeard payload heard
    → Leads (factor claim (secret_of claim which) k heard) rest written now → Reaches end now → EndsOrAsks claim which k payload rest written now end
unfolding factor
factor-back claim which k payload (Asks f) rest written now end x l r =
    let gave = asked-back claim (method_of f.plugin) which k rest written now end l r in
    inr ((f, x, clear-name f.plugin gave.0), gave.1)
factor-back claim which k payload (BrokenFactor at) rest written now end x l r = absurd (not-malformed _ end now l.1 r)
factor-back claim which k payload heard rest written now end x l r = inl (ended-back payload heard rest written now end x l r)

last-back : (claim : Claim) (payload : List ℕ) (heard : Heard) (rest written : List (List ℕ)) (now : Talk) (end : LoginEnd) → IsHeard payload heard → Leads (factors claim [] heard) rest written now
    → Reaches end now → IsEnd end payload × (written ≡ [])
unfolding factors
last-back claim payload heard rest written now end x l r = ended-back payload heard rest written now end x l r

third-back : (claim : Claim) (payload : List ℕ) (heard : Heard) (rest written : List (List ℕ)) (now : Talk) (end : LoginEnd) → IsHeard payload heard
    → Leads (factors claim (claim.secrets.third ∷ []) heard) rest written now → Reaches end now → EndsOrAsks claim Third (factors claim []) payload rest written now end
unfolding factors
third-back claim payload heard rest written now end x l r = factor-back claim Third (factors claim []) payload heard rest written now end x l r

second-back : (claim : Claim) (payload : List ℕ) (heard : Heard) (rest written : List (List ℕ)) (now : Talk) (end : LoginEnd) → IsHeard payload heard
    → Leads (factors claim (further claim) heard) rest written now → Reaches end now → EndsOrAsks claim Second (factors claim (claim.secrets.third ∷ [])) payload rest written now end
unfolding factors
second-back claim payload heard rest written now end x l r = factor-back claim Second (factors claim (claim.secrets.third ∷ [])) payload heard rest written now end x l r

-- the payloads are factors and an end
record Factors (claim : Claim) (got written : List (List ℕ)) (end : LoginEnd) : Type 0 where
  pub factors : List (List ℕ)
  pub ending : List ℕ
  pub later : List (List ℕ)
  pub asked : List Asked
  pub are_factors : AreFactors factors asked
  pub given : AreGiven claim asked written
  pub is_end : IsEnd end ending
  pub got_is : got ≡ factors ++ ending ∷ later

no-factor : (claim : Claim) (payload : List ℕ) (rest written : List (List ℕ)) (end : LoginEnd) → IsEnd end payload → written ≡ [] → Factors claim (payload ∷ rest) written end
no-factor claim payload rest written end is-end none-written = record {
  factors = [];
  ending = payload;
  later = rest;
  asked = [];
  are_factors = none;
  given = subst (λ (l : List (List ℕ)). AreGiven claim [] l) (sym none-written) tt;
  is_end = is-end;
  got_is = refl;
}

one-factor : (claim : Claim) (second said ending : List ℕ) (rest later written more : List (List ℕ)) (end : LoginEnd) → IsFactor second → Gives claim (ForSecret Second) said → written ≡ said ∷ more → more ≡ []
    → rest ≡ ending ∷ later → IsEnd end ending → Factors claim (second ∷ rest) written end
one-factor claim second said ending rest later written more end asks-second gives is none-more rest-is is-end = record {
  factors = second ∷ [];
  ending = ending;
  later = later;
  asked = ForSecret Second ∷ [];
  are_factors = one second asks-second;
  given = subst (λ (l : List (List ℕ)). AreGiven claim (ForSecret Second ∷ []) l) (sym (is ∙ ap (λ (l : List (List ℕ)). said ∷ l) none-more)) (gives, tt);
  is_end = is-end;
  got_is = ap (λ (l : List (List ℕ)). second ∷ l) rest-is;
}

two-factors : (claim : Claim) (second third said next ending : List ℕ) (rest behind later written more : List (List ℕ)) (end : LoginEnd) → IsFactor second → IsFactor third
    → Gives claim (ForSecret Second) said → Gives claim (ForSecret Third) next → written ≡ said ∷ more → more ≡ next ∷ [] → rest ≡ third ∷ behind → behind ≡ ending ∷ later → IsEnd end ending
    → Factors claim (second ∷ rest) written end
two-factors claim second third said next ending rest behind later written more end asks-second asks-third gives gives-next is more-is rest-is behind-is is-end = record {
  factors = second ∷ third ∷ [];
  ending = ending;
  later = later;
  asked = ForSecret Second ∷ ForSecret Third ∷ [];
  are_factors = two second third asks-second asks-third;
  given = subst (λ (l : List (List ℕ)). AreGiven claim (ForSecret Second ∷ ForSecret Third ∷ []) l) (sym (is ∙ ap (λ (l : List (List ℕ)). said ∷ l) more-is)) (gives, (gives-next, tt));
  is_end = is-end;
  got_is = ap (λ (l : List (List ℕ)). second ∷ l) (rest-is ∙ ap (λ (l : List (List ℕ)). third ∷ l) behind-is);
}

later-factor : (claim : Claim) (second : List ℕ) (rest written : List (List ℕ)) (now : Talk) (end : LoginEnd) → IsFactor second
    → (gave : Gave claim (ForSecret Second) (factors claim (claim.secrets.third ∷ [])) rest written now) → Reaches end now
    → EndsOrAsks claim Third (factors claim []) gave.goes_on.goes.first gave.goes_on.goes.rest gave.goes_on.more now end → Factors claim (second ∷ rest) written end
later-factor claim second rest written now end asks-second gave r (inl ends) =
    one-factor claim second gave.said gave.goes_on.goes.first rest gave.goes_on.goes.rest written gave.goes_on.more end asks-second gave.gives gave.goes_on.written_is ends.1 gave.goes_on.goes.got_is ends.0
later-factor claim second rest written now end asks-second gave r (inr (asks-third, next)) =
    let g = gave.goes_on.goes in
    let h = next.goes_on.goes in
    let ends = last-back claim h.first h.heard h.rest next.goes_on.more now end h.is_heard h.leads r in
    two-factors claim second g.first gave.said next.said h.first rest g.rest h.rest written gave.goes_on.more end asks-second asks-third gave.gives next.gives gave.goes_on.written_is
    (next.goes_on.written_is ∙ ap (λ (l : List (List ℕ)). next.said ∷ l) ends.1) g.got_is h.got_is ends.0

factors-by : (claim : Claim) (payload : List ℕ) (rest written : List (List ℕ)) (now : Talk) (end : LoginEnd) → Reaches end now
    → EndsOrAsks claim Second (factors claim (claim.secrets.third ∷ [])) payload rest written now end → Factors claim (payload ∷ rest) written end
factors-by claim payload rest written now end r (inl ends) = no-factor claim payload rest written end ends.0 ends.1
factors-by claim payload rest written now end r (inr (asks-second, gave)) =
    let g = gave.goes_on.goes in
    later-factor claim payload rest written now end asks-second gave r (third-back claim g.first g.heard g.rest gave.goes_on.more now end g.is_heard g.leads r)

factors-back : (claim : Claim) (payload : List ℕ) (heard : Heard) (rest written : List (List ℕ)) (now : Talk) (end : LoginEnd) → IsHeard payload heard
    → Leads (factors claim (further claim) heard) rest written now → Reaches end now → Factors claim (payload ∷ rest) written end
factors-back claim payload heard rest written now end x l r = factors-by claim payload rest written now end r (second-back claim payload heard rest written now end x l r)

factors-behind : (claim : Claim) (got written : List (List ℕ)) (now : Talk) (end : LoginEnd) → Goes Anything (factors claim (further claim)) got written now → Reaches end now → Factors claim got written end
factors-behind claim got written now end g r =
    subst (λ (l : List (List ℕ)). Factors claim l written end) (sym g.got_is) (factors-back claim g.first g.heard g.rest written now end g.is_heard g.leads r)

-- ## 01 03 and 01 04

-- the payloads are one of them, if any, and what stands behind
record More (claim : Claim) (method : Method) (got written : List (List ℕ)) (end : LoginEnd) : Type 0 where
  pub more : List (List ℕ)
  pub by_more : List Asked
  pub is_more : IsMore method more by_more
  pub behind : List (List ℕ)
  pub rest : List (List ℕ)
  pub rest_is : Factors claim behind rest end
  pub before : List (List ℕ)
  pub given : AreGiven claim by_more before
  pub written_is : written ≡ before ++ rest
  pub got_is : got ≡ more ++ behind

no-more : (claim : Claim) (method : Method) (got written : List (List ℕ)) (end : LoginEnd) → Factors claim got written end → More claim method got written end
no-more claim method got written end f = record {
  more = [];
  by_more = [];
  is_more = nothing method;
  behind = got;
  rest = written;
  rest_is = f;
  before = [];
  given = tt;
  written_is = refl;
  got_is = refl;
}

cached-back : (claim : Claim) (payload : List ℕ) (heard : Heard) (rest written : List (List ℕ)) (now : Talk) (end : LoginEnd) → IsHeard payload heard → Leads (cached claim heard) rest written now
    → Reaches end now → More claim CachingSha2 (payload ∷ rest) written end
unfolding cached
cached-back claim payload Fast rest written now end x l r = record {
  more = (0x01 ∷ 0x03 ∷ []) ∷ [];
  by_more = [];
  is_more = right;
  behind = rest;
  rest = written;
  rest_is = factors-behind claim rest written now end (hears-back (factors claim (further claim)) rest written now end l r) r;
  before = [];
  given = tt;
  written_is = refl;
  got_is = ap (λ (p : List ℕ). p ∷ rest) x;
}
cached-back claim payload Full rest written now end x l r =
    let gave = full-back claim rest written now end l r in
    record {
      more = (0x01 ∷ 0x04 ∷ []) ∷ [];
      by_more = ForPassword ∷ [];
      is_more = unknown;
      behind = rest;
      rest = gave.goes_on.more;
      rest_is = factors-behind claim rest gave.goes_on.more now end gave.goes_on.goes r;
      before = gave.said ∷ [];
      given = (gave.gives, tt);
      written_is = gave.goes_on.written_is;
      got_is = ap (λ (p : List ℕ). p ∷ rest) x;
    }
cached-back claim payload heard rest written now end x l r = no-more claim CachingSha2 (payload ∷ rest) written end (factors-back claim payload heard rest written now end x l r)

answered-back : (claim : Claim) (method : Method) (payload : List ℕ) (heard : Heard) (rest written : List (List ℕ)) (now : Talk) (end : LoginEnd) → IsHeard payload heard
    → Leads (answered claim method heard) rest written now → Reaches end now → More claim method (payload ∷ rest) written end
unfolding answered
answered-back claim CachingSha2 payload heard rest written now end x l r = cached-back claim payload heard rest written now end x l r
answered-back claim method payload heard rest written now end x l r = no-more claim method (payload ∷ rest) written end (factors-back claim payload heard rest written now end x l r)

answered-behind : (claim : Claim) (method : Method) (got written : List (List ℕ)) (now : Talk) (end : LoginEnd) → Goes Anything (answered claim method) got written now → Reaches end now
    → More claim method got written end
answered-behind claim method got written now end g r =
    subst (λ (l : List (List ℕ)). More claim method l written end) (sym g.got_is) (answered-back claim method g.first g.heard g.rest written now end g.is_heard g.leads r)

-- ## The switch

-- the payloads are a switch, if any, and what stands behind
record Switched (claim : Claim) (first : Method) (got written : List (List ℕ)) (end : LoginEnd) : Type 0 where
  pub last : Method
  pub switches : List (List ℕ)
  pub by_switch : List Asked
  pub is_switch : IsSwitch first switches by_switch last
  pub behind : List (List ℕ)
  pub rest : List (List ℕ)
  pub rest_is : More claim last behind rest end
  pub before : List (List ℕ)
  pub given : AreGiven claim by_switch before
  pub written_is : written ≡ before ++ rest
  pub got_is : got ≡ switches ++ behind

stayed : (claim : Claim) (first : Method) (got written : List (List ℕ)) (end : LoginEnd) → More claim first got written end → Switched claim first got written end
stayed claim first got written end m = record {
  last = first;
  switches = [];
  by_switch = [];
  is_switch = stays first;
  behind = got;
  rest = written;
  rest_is = m;
  before = [];
  given = tt;
  written_is = refl;
  got_is = refl;
}

turned : (claim : Claim) (first last : Method) (payload : List ℕ) (asked : Asked) (rest written : List (List ℕ)) (now : Talk) (end : LoginEnd) → IsSwitch first (payload ∷ []) (asked ∷ []) last
    → Gave claim asked (answered claim last) rest written now → Reaches end now → Switched claim first (payload ∷ rest) written end
turned claim first last payload asked rest written now end is gave r = record {
  last = last;
  switches = payload ∷ [];
  by_switch = asked ∷ [];
  is_switch = is;
  behind = rest;
  rest = gave.goes_on.more;
  rest_is = answered-behind claim last rest gave.goes_on.more now end gave.goes_on.goes r;
  before = gave.said ∷ [];
  given = (gave.gives, tt);
  written_is = gave.goes_on.written_is;
  got_is = refl;
}

nonced-back : (claim : Claim) (method : Method) (body : List ℕ) (found : Option (List ℕ)) (at : ℕ) (rest written : List (List ℕ)) (now : Talk) (end : LoginEnd) → nonce_of body ≡ found
    → Leads (nonced claim method found at) rest written now → Reaches end now → (nonce : List ℕ) × HasNonce body nonce × Gave claim (ForAnswer method nonce) (answered claim method) rest written now
unfolding nonced
nonced-back claim method body None at rest written now end same l r = absurd (not-malformed _ end now l.1 r)
nonced-back claim method body (Some nonce) at rest written now end same l r = (
  nonce,
  nonce-is body nonce same,
  record {
    said = answer_of method claim.secrets.first nonce;
    gives = refl;
    goes_on = says-back (answer_of method claim.secrets.first nonce) (answered claim method) rest written now end l r;
  },
)

switched-back : (claim : Claim) (first method : Method) (s : Switch) (at : ℕ) (payload : List ℕ) (rest written : List (List ℕ)) (now : Talk) (end : LoginEnd) → method_of s.plugin ≡ method
    → IsHeard payload (Switches s at) → Leads (switched claim method s at) rest written now → Reaches end now → Switched claim first (payload ∷ rest) written end
unfolding switched
switched-back claim first Native s at payload rest written now end same x l r =
    let found = nonced-back claim Native s.body (nonce_of s.body) at rest written now end refl l r in
    turned claim first Native payload (ForAnswer Native found.0) rest written now end (to_native first s payload found.0 x.0 (native-name s.plugin same) found.1) found.2 r
switched-back claim first CachingSha2 s at payload rest written now end same x l r =
    let found = nonced-back claim CachingSha2 s.body (nonce_of s.body) at rest written now end refl l r in
    turned claim first CachingSha2 payload (ForAnswer CachingSha2 found.0) rest written now end (to_caching first s payload found.0 x.0 (caching-name s.plugin same) found.1) found.2 r
switched-back claim first Clear s at payload rest written now end same x l r =
    turned claim first Clear payload (ForSecret First) rest written now end (to_clear first s payload x.0 (clear-name s.plugin same)) (clear-back claim First (answered claim Clear) rest written now end l r) r
switched-back claim first Unknown s at payload rest written now end same x l r = absurd (not-unsent _ end now l.1 r)

responded-back : (claim : Claim) (first : Method) (payload : List ℕ) (heard : Heard) (rest written : List (List ℕ)) (now : Talk) (end : LoginEnd) → IsHeard payload heard
    → Leads (responded claim first heard) rest written now → Reaches end now → Switched claim first (payload ∷ rest) written end
unfolding responded
responded-back claim first payload (Switches s at) rest written now end x l r = switched-back claim first (method_of s.plugin) s at payload rest written now end refl x l r
responded-back claim first payload (BrokenSwitch at) rest written now end x l r = absurd (not-malformed _ end now l.1 r)
responded-back claim first payload heard rest written now end x l r = stayed claim first (payload ∷ rest) written end (answered-back claim first payload heard rest written now end x l r)

responded-behind : (claim : Claim) (first : Method) (got written : List (List ℕ)) (now : Talk) (end : LoginEnd) → Goes Anything (responded claim first) got written now → Reaches end now
    → Switched claim first got written end
responded-behind claim first got written now end g r =
    subst (λ (l : List (List ℕ)). Switched claim first l written end) (sym g.got_is) (responded-back claim first g.first g.heard g.rest written now end g.is_heard g.leads r)

-- ## The whole

given-join : (claim : Claim) (xs ys : List Asked) (before behind : List (List ℕ)) → AreGiven claim xs before → AreGiven claim ys behind → AreGiven claim (xs ++ ys) (before ++ behind)
given-join claim [] ys [] behind given more = more
given-join claim [] ys (said ∷ before) behind given more = absurd given
given-join claim (x ∷ xs) ys [] behind given more = absurd given
given-join claim (x ∷ xs) ys (said ∷ before) behind given more = (given.0, given-join claim xs ys before behind given.1 more)

whole-by : (claim : Claim) (hello : Greeting) (first : Method) (payload said : List ℕ) (rest written more : List (List ℕ)) (end : LoginEnd) → greeting.Spells hello payload → IsFirst hello.plugin first
    → Gives claim (ForResponse first hello.nonce) said → written ≡ said ∷ more → Switched claim first rest more end → IsWhole claim (payload ∷ rest) written end
whole-by claim hello first payload said rest written more end spelled named gives is s =
    let m = s.rest_is in
    let f = m.rest_is in
    let laid : rest ≡ s.switches ++ (m.more ++ (f.factors ++ f.ending ∷ f.later)) =
    s.got_is ∙ ap (λ (l : List (List ℕ)). s.switches ++ l) (m.got_is ∙ ap (λ (l : List (List ℕ)). m.more ++ l) f.got_is) in
    let said-all : written ≡ said ∷ (s.before ++ m.before ++ m.rest) =
    is ∙ ap (λ (l : List (List ℕ)). said ∷ l) (s.written_is ∙ ap (λ (l : List (List ℕ)). s.before ++ l) m.written_is ∙ sym (append_assoc s.before m.before m.rest)) in
    record {
      login = payload ∷ [] ++ s.switches ++ m.more ++ f.factors ++ f.ending ∷ [];
      later = f.later;
      asked = ForResponse first hello.nonce ∷ [] ++ s.by_switch ++ m.by_more ++ f.asked;
      is_login = record {
        hello = hello;
        first = first;
        last = s.last;
        greeted = payload;
        switches = s.switches;
        more = m.more;
        factors = f.factors;
        ending = f.ending;
        by_switch = s.by_switch;
        by_more = m.by_more;
        by_factors = f.asked;
        is_greeting = spelled;
        is_first = named;
        is_switch = s.is_switch;
        is_more = m.is_more;
        are_factors = f.are_factors;
        is_end = f.is_end;
        got_is = refl;
        asked_is = refl;
      };
      are_given = subst (λ (l : List (List ℕ)). AreGiven claim (ForResponse first hello.nonce ∷ [] ++ s.by_switch ++ m.by_more ++ f.asked) l) (sym said-all)
          (gives, given-join claim (s.by_switch ++ m.by_more) f.asked (s.before ++ m.before) m.rest (given-join claim s.by_switch m.by_more s.before m.before s.given m.given) f.given);
      got_is = ap (λ (l : List (List ℕ)). payload ∷ l) laid ∙ sym (laid-out payload f.ending s.switches m.more f.factors f.later);
    }

turned-away : (payload : List ℕ) (rest written : List (List ℕ)) (number : ℕ) → IsEnd (Refused number) payload → written ≡ [] → IsTurnedAway (payload ∷ rest) written number
turned-away payload rest written number is-end none-written = record { payload = payload; later = rest; is_end = is-end; got_is = refl; written_is = none-written }

-- the login came to its end behind the greeting, or there was none
abbrev Ended : Claim → (got written : List (List ℕ)) → LoginEnd → Type 0
Ended claim got written end = ((number : ℕ) × (end ≡ Refused number) × IsTurnedAway got written number) ⊎ IsWhole claim got written end

greeted-back : (claim : Claim) (payload : List ℕ) (heard : Heard) (rest written : List (List ℕ)) (now : Talk) (end : LoginEnd) → IsHeard payload heard → Leads (greeted claim heard) rest written now
    → Reaches end now → Ended claim (payload ∷ rest) written end
unfolding greeted
greeted-back claim payload (Greets hello) rest written now end x l r =
    let first = first_method (method_of hello.plugin) in
    let said = response_text (response_to claim first hello.nonce) in
    let s = says-back said (responded claim first) rest written now end l r in
    inr (whole-by claim hello first payload said rest written s.more end x (first-is hello.plugin) refl s.written_is (responded-behind claim first rest s.more now end s.goes r))
greeted-back claim payload (Refuses number) rest written now end x l r = inl (number, over-is (Refused number) end now l.1 r, turned-away payload rest written number x l.0)
greeted-back claim payload heard rest written now end x l r = absurd (not-malformed _ end now l.1 r)

talk-back : (claim : Claim) (got written : List (List ℕ)) (end : LoginEnd) → ClientTalk claim got written (Some end) → IsSaid end → Ended claim got written end
talk-back claim got written end t said =
    let g = hears-back (greeted claim) got written t.now end t.leads (t.result_is, said) in
    subst (λ (l : List (List ℕ)). Ended claim l written end) (sym g.got_is) (greeted-back claim g.first g.heard g.rest written t.now end g.is_heard g.leads (t.result_is, said))

pub opened-whole : (claim : Claim) (got written : List (List ℕ)) → ClientTalk claim got written (Some Opened) → IsWhole claim got written Opened
opened-whole claim got written t =
    ⊎_elim {C = IsWhole claim got written Opened}
    (λ (away : (number : ℕ) × (Opened ≡ Refused number) × IsTurnedAway got written number). let e = away.1 in absurd (cc))
    (λ (whole : IsWhole claim got written Opened). whole)
    (talk-back claim got written Opened t tt)

pub refused-whole : (claim : Claim) (got written : List (List ℕ)) (number : ℕ) → ClientTalk claim got written (Some (Refused number)) → IsTurnedAway got written number ⊎ IsWhole claim got written (Refused number)
refused-whole claim got written number t =
    ⊎_elim {C = IsTurnedAway got written number ⊎ IsWhole claim got written (Refused number)}
    (λ (away : (other : ℕ) × (Refused number ≡ Refused other) × IsTurnedAway got written other).
    let same : number ≡ away.0 = let e = away.1 in cc in inl (subst (λ (n : ℕ). IsTurnedAway got written n) (sym same) away.2))
    (λ (whole : IsWhole claim got written (Refused number)). inr whole)
    (talk-back claim got written (Refused number) t tt)

away-talks : (claim : Claim) (got written : List (List ℕ)) (number : ℕ) → IsTurnedAway got written number → ClientTalk claim got written (Some (Refused number))
away-talks claim got written number a =
    subst (λ (l : List (List ℕ)). ClientTalk claim l written (Some (Refused number))) (sym a.got_is)
    (subst (λ (l : List (List ℕ)). ClientTalk claim (a.payload ∷ a.later) l (Some (Refused number))) (sym a.written_is) (refused-at-once claim a.payload a.later number a.is_end))

pub refused-talks : (claim : Claim) (got written : List (List ℕ)) (number : ℕ) → IsTurnedAway got written number ⊎ IsWhole claim got written (Refused number) → ClientTalk claim got written (Some (Refused number))
refused-talks claim got written number (inl away) = away-talks claim got written number away
refused-talks claim got written number (inr whole) = whole-talks claim got written (Refused number) whole
