-- A client that gets an OK or an ERR is done with it.
use Rattle.std.proofs.Common.{◌≡◌, refl, sym, subst, ◌⊎◌, inl, inr, ℕ, zero, suc, ◌<◌, List, [], ◌∷◌, ◌++◌, length, get_or, Contains, Bool, true, false, Option, Some, None, if◌then◌else◌, arith}
use Rattle.account_history.specs.declared.entries.Reply.{Reply}
use Rattle.auth_packets.specs.declared.exchange.Switch.{Switch}
use Rattle.login_client.specs.Conversation.{ClientTalk, answered, asked, cached, clear, conversation, ended, factor, factors, full, further, greeted, nonced, responded, switched}
use Rattle.login_client.specs.Hearing.{IsHeard}
use Rattle.login_client.specs.Methods.{clear_text, first_method, method_of, nonce_of}
use Rattle.login_client.specs.Talk.{Talk, Hears, Says, Over, Leads}
use Rattle.login_client.specs.declared.claims.Claim.{Claim}
use Rattle.login_client.specs.declared.ends.LoginEnd.{LoginEnd}
use Rattle.login_client.specs.declared.ends.LoginEnd.TheVariants.{WontSend}
use Rattle.login_client.specs.declared.ends.Reason.TheVariants.{ClearNotPermitted, NotLocal}
use Rattle.login_client.specs.declared.methods.Method.{Method}
use Rattle.login_client.specs.declared.methods.Method.TheVariants.{Native, CachingSha2, Clear, Unknown}
use Rattle.login_client.specs.declared.hearing.Heard.{Heard}
use Rattle.login_client.specs.declared.hearing.Heard.TheVariants.{Greets, Switches, Fast, Full, Asks, Accepts, Refuses, BrokenSwitch, BrokenFactor}
use Rattle.login_client.proofs.Meaning.{client-talk-one, one-meaning}
use Rattle.both_ends.specs.Meeting.{EndsBy}
use Rattle.both_ends.proofs.Agreeing.{Ends}

abbrev IsOver : Talk → Type 0
IsOver (Over how) = Unit {0}
IsOver (Hears k) = ⊥
IsOver (Says said k) = ⊥

-- an OK or an ERR
abbrev pub IsLast : Heard → Type 0
IsLast Accepts = Unit {0}
IsLast (Refuses number) = Unit {0}
IsLast _ = ⊥

-- whenever a talk hears one, it is over
abbrev Finishes : Talk → Type 0
Finishes (Hears k) = (heard : Heard) → (IsLast heard → IsOver (k heard)) × Finishes (k heard)
Finishes (Says said k) = (heard : Heard) → (IsLast heard → IsOver (k heard)) × Finishes (k heard)
Finishes (Over how) = Unit {0}

abbrev AllFinish : (Heard → Talk) → Type 0
AllFinish k = (heard : Heard) → (IsLast heard → IsOver (k heard)) × Finishes (k heard)

ended-finishes : AllFinish ended
unfolding ended
ended-finishes Accepts = (λ last. tt, tt)
ended-finishes _ = (λ last. tt, tt)

said-finishes : (local permitted : Bool) (said : List ℕ) (k : Heard → Talk) → AllFinish k
    → Finishes (if local then (if permitted then Says said k else Over (WontSend ClearNotPermitted)) else Over (WontSend NotLocal))
said-finishes true true said k all = all
said-finishes true false said k all = tt
said-finishes false permitted said k all = tt

local-finishes : (local : Bool) (said : List ℕ) (k : Heard → Talk) → AllFinish k → Finishes (if local then Says said k else Over (WontSend NotLocal))
local-finishes true said k all = all
local-finishes false said k all = tt

clear-finishes : (claim : Claim) (secret : Option (List ℕ)) (k : Heard → Talk) → AllFinish k → Finishes (clear claim secret k)
unfolding clear
clear-finishes claim None k all = tt
clear-finishes claim (Some secret) k all = said-finishes claim.local claim.options.clear (clear_text secret) k all

asked-finishes : (claim : Claim) (method : Method) (secret : Option (List ℕ)) (k : Heard → Talk) → AllFinish k → Finishes (asked claim method secret k)
unfolding asked
asked-finishes claim Clear secret k all = clear-finishes claim secret k all
asked-finishes claim _ secret k all = tt

factor-finishes : (claim : Claim) (secret : Option (List ℕ)) (k : Heard → Talk) → AllFinish k → AllFinish (factor claim secret k)
unfolding factor
factor-finishes claim secret k all (Asks f) = (λ last. absurd last, asked-finishes claim (method_of f.plugin) secret k all)
factor-finishes claim secret k all (BrokenFactor at) = (λ last. absurd last, tt)
factor-finishes claim secret k all heard = ended-finishes heard

factors-finish : (claim : Claim) → AllFinish (factors claim (further claim))
unfolding factors
factors-finish claim = factor-finishes claim claim.secrets.second _ (factor-finishes claim claim.secrets.third _ ended-finishes)

full-finishes : (claim : Claim) → Finishes (full claim)
unfolding full
full-finishes claim = local-finishes claim.local (clear_text claim.secrets.first) (factors claim (further claim)) (factors-finish claim)

cached-finishes : (claim : Claim) → AllFinish (cached claim)
unfolding cached
cached-finishes claim Fast = (λ last. absurd last, factors-finish claim)
cached-finishes claim Full = (λ last. absurd last, full-finishes claim)
cached-finishes claim heard = factors-finish claim heard

answered-finishes : (claim : Claim) (method : Method) → AllFinish (answered claim method)
unfolding answered
answered-finishes claim CachingSha2 = cached-finishes claim
answered-finishes claim _ = factors-finish claim

nonced-finishes : (claim : Claim) (method : Method) (nonce : Option (List ℕ)) (at : ℕ) → Finishes (nonced claim method nonce at)
unfolding nonced
nonced-finishes claim method None at = tt
nonced-finishes claim method (Some nonce) at = answered-finishes claim method

switched-finishes : (claim : Claim) (method : Method) (s : Switch) (at : ℕ) → Finishes (switched claim method s at)
unfolding switched
switched-finishes claim Native s at = nonced-finishes claim Native (nonce_of s.body) at
switched-finishes claim CachingSha2 s at = nonced-finishes claim CachingSha2 (nonce_of s.body) at
switched-finishes claim Clear s at = clear-finishes claim (Some claim.secrets.first) (answered claim Clear) (answered-finishes claim Clear)
switched-finishes claim Unknown s at = tt

responded-finishes : (claim : Claim) (method : Method) → AllFinish (responded claim method)
unfolding responded
responded-finishes claim method (Switches s at) = (λ last. absurd last, switched-finishes claim (method_of s.plugin) s at)
responded-finishes claim method (BrokenSwitch at) = (λ last. absurd last, tt)
responded-finishes claim method heard = answered-finishes claim method heard

greeted-finishes : (claim : Claim) → AllFinish (greeted claim)
unfolding greeted
greeted-finishes claim (Greets g) = (λ last. absurd last, responded-finishes claim (first_method (method_of g.plugin)))
greeted-finishes claim _ = (λ last. tt, tt)

-- ## What was got

-- there is an OK or an ERR among the payloads
abbrev pub HasLast : List (List ℕ) → Type 0
HasLast [] = ⊥
HasLast (payload ∷ got) = ((heard : Heard) × IsHeard payload heard × IsLast heard) ⊎ HasLast got

pub has-last : (got : List (List ℕ)) (payload : List ℕ) (heard : Heard) → Contains got payload → IsHeard payload heard → IsLast heard → HasLast got
has-last got payload heard (k, within, is) is-heard last = at got k within is where
  at : (xs : List (List ℕ)) (n : ℕ) → n < length xs → get_or xs n payload ≡ payload → HasLast xs
  at [] n h e = absurd (omega arith)
  at (x ∷ xs) zero h e = inl (heard, subst (λ (p : List ℕ). IsHeard p heard) (sym e) is-heard, last)
  at (x ∷ xs) (suc n) h e = inr (at xs n (omega arith) e)

is-over : (t now : Talk) (got written : List (List ℕ)) → IsOver t → Leads t got written now → IsOver now
is-over (Over how) now got written over leads = subst (λ (s : Talk). IsOver s) (sym leads.1) (tt {0})
is-over (Hears k) now got written over leads = absurd over
is-over (Says said k) now got written over leads = absurd over

same-last : (payload : List ℕ) (heard other : Heard) → IsHeard payload heard → IsHeard payload other → IsLast other → IsLast heard
same-last payload heard other is is' last = subst (λ (h : Heard). IsLast h) (sym (one-meaning payload heard other is is')) last

-- so the talk is over
finished : (t : Talk) (got written : List (List ℕ)) (now : Talk) → Finishes t → Leads t got written now → HasLast got → IsOver now
finished (Hears k) [] written now all leads has = absurd has
finished (Hears k) (payload ∷ got) written now all (heard, is, leads) (inl (other, is', last)) =
    is-over (k heard) now got written ((all heard).0 (same-last payload heard other is is' last)) leads
finished (Hears k) (payload ∷ got) written now all (heard, is, leads) (inr has) = finished (k heard) got written now (all heard).1 leads has
finished (Says said k) [] written now all leads has = absurd has
finished (Says said k) (payload ∷ got) written now all (rest, split, heard, is, leads) (inl (other, is', last)) =
    is-over (k heard) now got rest ((all heard).0 (same-last payload heard other is is' last)) leads
finished (Says said k) (payload ∷ got) written now all (rest, split, heard, is, leads) (inr has) = finished (k heard) got rest now (all heard).1 leads has
finished (Over how) got written now all leads has = is-over (Over how) now got written (tt {0}) leads

-- what follows isn't heard
heard-no-more : (t : Talk) (got more written : List (List ℕ)) (now : Talk) → Leads t got written now → IsOver now → Leads t (got ++ more) written now
heard-no-more (Hears k) [] more written now (none, at) over = absurd (subst (λ (s : Talk). IsOver s) at over)
heard-no-more (Hears k) (payload ∷ got) more written now (heard, is, leads) over = (heard, is, heard-no-more (k heard) got more written now leads over)
heard-no-more (Says said k) [] more written now (one, at) over = absurd (subst (λ (s : Talk). IsOver s) at over)
heard-no-more (Says said k) (payload ∷ got) more written now (rest, split, heard, is, leads) over =
    (rest, split, heard, is, heard-no-more (k heard) got more rest now leads over)
heard-no-more (Over how) got more written now leads over = leads

-- a talk over some payloads is one over the first of them
cut : (t : Talk) (got more written : List (List ℕ)) (now : Talk) → Leads t (got ++ more) written now → (less : List (List ℕ)) × (now' : Talk) × Leads t got less now'
cut (Hears k) [] more written now leads = ([], Hears k, (refl, refl))
cut (Hears k) (payload ∷ got) more written now (heard, is, leads) =
    let c = cut (k heard) got more written now leads in
    (c.0, c.1, (heard, is, c.2))
cut (Says said k) [] more written now leads = (said ∷ [], Hears k, (refl, refl))
cut (Says said k) (payload ∷ got) more written now (rest, split, heard, is, leads) =
    let c = cut (k heard) got more rest now leads in
    (said ∷ c.0, c.1, (c.0, refl, heard, is, c.2))
cut (Over how) got more written now leads = (written, now, leads)

some-is : (a b : LoginEnd) → Some a ≡ Some b → a ≡ b
some-is a b e = cc

-- a client that ends by a reply has ended with the OK or the ERR
pub ends-sooner : (claim : Claim) (reply : Reply) (got more : List (List ℕ)) → HasLast got → Ends claim (conversation claim) reply (got ++ more) → Ends claim (conversation claim) reply got
ends-sooner claim reply got more has (written, how, leads, by) = found (cut (conversation claim) got more written (Over how) leads) where
  at : (now : Talk) (less : List (List ℕ)) → IsOver now → Leads (conversation claim) got less now → Ends claim (conversation claim) reply got
  at (Over how') less over leads' =
      let whole : ClientTalk claim (got ++ more) less (Some how') =
      record { now = Over how'; leads = heard-no-more (conversation claim) got more less (Over how') leads' (tt {0}); result_is = refl } in
      let same = client-talk-one claim (got ++ more) less written (Some how') (Some how) whole (record { now = Over how; leads = leads; result_is = refl }) in
      (less, how', leads', subst (λ (h : LoginEnd). EndsBy claim reply h) (sym (some-is how' how same.1)) by)
  at (Hears k) less over leads' = absurd over
  at (Says said k) less over leads' = absurd over

  found : (less : List (List ℕ)) × (now : Talk) × Leads (conversation claim) got less now → Ends claim (conversation claim) reply got
  found (less, now, leads') = at now less (finished (conversation claim) got less now (greeted-finishes claim) leads' has) leads'
