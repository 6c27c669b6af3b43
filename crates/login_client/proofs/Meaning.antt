-- A payload says one thing.
use Rattle.std.proofs.Common.{◌≡◌, refl, sym, ap, ◌∙◌, subst, ℕ, ◌<◌, ◌-◌, List, [], ◌∷◌, ◌++◌, length, Bool, true, false, ◌⊎◌, inl, inr, ⊎_elim, Option, arith, nat_lt, ltb-true, ltb-false, eqb-true}
use Rattle.std.proofs.lemmas.Bool.{eqb-false}
use Rattle.wire_form.specs.Fields.{mark}
use Rattle.wire_form.specs.Payloads.{IsFaultPlace}
use Rattle.wire_form.proofs.Payloads.{one_value as one}
use Rattle.auth_packets.specs.Handshake.{greeting, opening}
use Rattle.auth_packets.specs.Exchange.{switch, next_factor}
use Rattle.auth_packets.specs.Replies.{ok_packet, err_packet}
use Rattle.auth_packets.proofs.ExchangeLaws.{switch-lawful, next_factor-lawful}
use Rattle.auth_packets.proofs.HandshakeLaws.{greeting-lawful}
use Rattle.auth_packets.proofs.RepliesLaws.{err-lawful}
use Rattle.auth_packets.specs.declared.handshake.Greeting.{Greeting}
use Rattle.auth_packets.specs.declared.exchange.Switch.{Switch}
use Rattle.auth_packets.specs.declared.exchange.NextFactor.{NextFactor}
use Rattle.auth_packets.specs.declared.replies.OkPacket.{OkPacket}
use Rattle.auth_packets.specs.declared.replies.ErrPacket.{ErrPacket}
use Rattle.login_client.specs.Hearing.{IsBroken, IsHeard, IsOther, begins}
use Rattle.login_client.specs.Conversation.{ClientTalk, conversation}
use Rattle.login_client.specs.Talk.{Talk, Hears, Says, Over, Leads, result_of}
use Rattle.login_client.specs.declared.claims.Claim.{Claim}
use Rattle.login_client.specs.declared.ends.LoginEnd.{LoginEnd}
use Rattle.login_client.specs.declared.hearing.Heard.{Heard}
use Rattle.login_client.specs.declared.hearing.Heard.TheVariants.{Greets, Switches, Fast, Full, Asks, Accepts, Refuses, BrokenGreeting, BrokenSwitch, BrokenFactor, BrokenOk, BrokenErr, Other}

-- the payload begins with a byte
abbrev First : ℕ → List ℕ → Type 0
First b payload = (rest : List ℕ) × (payload ≡ b ∷ rest)

mark-first : (b : ℕ) (front : List ℕ) → (mark b).Spells tt front → front ≡ b ∷ []
mark-first b front (x, (is, test), made) = is ∙ ap (λ (y : ℕ). y ∷ []) (eqb-true x b test)

greeting-first : (g : Greeting) (payload : List ℕ) → greeting.Spells g payload → First 0x0a payload
unfolding greeting opening
greeting-first g payload (parts, (front, back, (front', back', marked, more', is'), more, is), made) =
    (back' ++ back, is ∙ ap (λ (l : List ℕ). l ++ back) (is' ∙ ap (λ (l : List ℕ). l ++ back') (mark-first 0x0a front' marked)))

switch-first : (s : Switch) (payload : List ℕ) → switch.Spells s payload → First 0xfe payload
unfolding switch
switch-first s payload (parts, (front, back, marked, more, is), made) = (back, is ∙ ap (λ (l : List ℕ). l ++ back) (mark-first 0xfe front marked))

factor-first : (f : NextFactor) (payload : List ℕ) → next_factor.Spells f payload → First 0x02 payload
unfolding next_factor
factor-first f payload (parts, (front, back, marked, more, is), made) = (back, is ∙ ap (λ (l : List ℕ). l ++ back) (mark-first 0x02 front marked))

ok-first : (o : OkPacket) (payload : List ℕ) → ok_packet.Spells o payload → First 0x00 payload
unfolding ok_packet
ok-first o payload (parts, (front, back, (front', back', marked, more', is'), more, is), made) =
    (back' ++ back, is ∙ ap (λ (l : List ℕ). l ++ back) (is' ∙ ap (λ (l : List ℕ). l ++ back') (mark-first 0x00 front' marked)))

err-first : (e : ErrPacket) (payload : List ℕ) → err_packet.Spells e payload → First 0xff payload
unfolding err_packet
err-first e payload (parts, (front, back, (front', back', marked, more', is'), more, is), made) =
    (back' ++ back, is ∙ ap (λ (l : List ℕ). l ++ back) (is' ∙ ap (λ (l : List ℕ). l ++ back') (mark-first 0xff front' marked)))

broken-first : {A : Type 0} (b : ℕ) (Spells : A → List ℕ → Type 0) (payload : List ℕ) (at : ℕ) → IsBroken b Spells payload at → First b payload
broken-first b Spells payload at broken = at-first payload broken.begun where
  at-first : (l : List ℕ) → begins b l ≡ true → First b l
  at-first [] e = absurd (cc)
  at-first (x ∷ xs) e = (xs, ap (λ (y : ℕ). y ∷ xs) (eqb-true x b e))

-- the byte that tells what is heard
abbrev FirstIf : Heard → List ℕ → Type 0
FirstIf (Greets g) payload = First 0x0a payload
FirstIf (Switches s at) payload = First 0xfe payload
FirstIf Fast payload = First 0x01 payload
FirstIf Full payload = First 0x01 payload
FirstIf (Asks f) payload = First 0x02 payload
FirstIf Accepts payload = First 0x00 payload
FirstIf (Refuses number) payload = First 0xff payload
FirstIf (BrokenGreeting at) payload = First 0x0a payload
FirstIf (BrokenSwitch at) payload = First 0xfe payload
FirstIf (BrokenFactor at) payload = First 0x02 payload
FirstIf (BrokenOk at) payload = First 0x00 payload
FirstIf (BrokenErr at) payload = First 0xff payload
FirstIf Other payload = Unit {0}

first-of : (payload : List ℕ) (heard : Heard) → IsHeard payload heard → FirstIf heard payload
first-of payload (Greets g) x = greeting-first g payload x
first-of payload (Switches s at) x = switch-first s payload x.0
first-of payload Fast x = (0x03 ∷ [], x)
first-of payload Full x = (0x04 ∷ [], x)
first-of payload (Asks f) x = factor-first f payload x
first-of payload Accepts x = ok-first x.0 payload x.1
first-of payload (Refuses number) x = err-first x.0 payload x.1
first-of payload (BrokenGreeting at) x = broken-first 0x0a greeting.Spells payload at x
first-of payload (BrokenSwitch at) x = broken-first 0xfe switch.Spells payload at x
first-of payload (BrokenFactor at) x = broken-first 0x02 next_factor.Spells payload at x
first-of payload (BrokenOk at) x = broken-first 0x00 ok_packet.Spells payload at x
first-of payload (BrokenErr at) x = broken-first 0xff err_packet.Spells payload at x
first-of payload Other x = tt {0}

same-first : (a b : ℕ) (payload : List ℕ) → First a payload → First b payload → a ≡ b
same-first a b payload (rest, is) (rest', is') = cc

begins-first : (b : ℕ) (payload : List ℕ) → First b payload → begins b payload ≡ false → ⊥
begins-first b payload (rest, is) none = eqb-false b b (sym (ap (λ (l : List ℕ). begins b l) is) ∙ none) refl

-- a payload that is none of them says nothing else
other-none : (payload : List ℕ) (heard : Heard) → IsOther payload → IsHeard payload heard → (heard ≡ Other → ⊥) → ⊥
other-none payload (Greets g) o x n = begins-first 0x0a payload (greeting-first g payload x) o.no_greeting
other-none payload (Switches s at) o x n = begins-first 0xfe payload (switch-first s payload x.0) o.no_switch
other-none payload Fast o x n = o.no_fast x
other-none payload Full o x n = o.no_full x
other-none payload (Asks f) o x n = begins-first 0x02 payload (factor-first f payload x) o.no_factor
other-none payload Accepts o x n = begins-first 0x00 payload (ok-first x.0 payload x.1) o.no_ok
other-none payload (Refuses number) o x n = begins-first 0xff payload (err-first x.0 payload x.1) o.no_err
other-none payload (BrokenGreeting at) o x n = begins-first 0x0a payload (broken-first 0x0a greeting.Spells payload at x) o.no_greeting
other-none payload (BrokenSwitch at) o x n = begins-first 0xfe payload (broken-first 0xfe switch.Spells payload at x) o.no_switch
other-none payload (BrokenFactor at) o x n = begins-first 0x02 payload (broken-first 0x02 next_factor.Spells payload at x) o.no_factor
other-none payload (BrokenOk at) o x n = begins-first 0x00 payload (broken-first 0x00 ok_packet.Spells payload at x) o.no_ok
other-none payload (BrokenErr at) o x n = begins-first 0xff payload (broken-first 0xff err_packet.Spells payload at x) o.no_err
other-none payload Other o x n = n refl

compare : (a b : ℕ) → (a ≡ b) ⊎ ((a < b) ⊎ (b < a))
compare a b = first (nat_lt a b) refl where
  first : (t : Bool) → nat_lt a b ≡ t → (a ≡ b) ⊎ ((a < b) ⊎ (b < a))
  first true e = inr (inl (ltb-true a b e))
  first false e = second (nat_lt b a) refl where
    second : (t : Bool) → nat_lt b a ≡ t → (a ≡ b) ⊎ ((a < b) ⊎ (b < a))
    second true f = inr (inr (ltb-true b a f))
    second false f = inl (let up = ltb-false a b e in let down = ltb-false b a f in omega arith)

-- a fault has one place
one-place : {A : Type 0} (Spells : A → List ℕ → Type 0) (payload : List ℕ) (a b : ℕ) → IsFaultPlace Spells payload a → IsFaultPlace Spells payload b → a ≡ b
one-place Spells payload a b f g = ⊎_elim {C = a ≡ b}
    (λ (e : a ≡ b). e)
    (λ (h : (a < b) ⊎ (b < a)). ⊎_elim {C = a ≡ b}
    (λ (less : a < b). absurd (f.longest b less g.within g.begins))
    (λ (more : b < a). absurd (g.longest a more f.within f.begins)) h)
    (compare a b)

-- a payload says one thing
pub one-meaning : (payload : List ℕ) (heard other : Heard) → IsHeard payload heard → IsHeard payload other → heard ≡ other
one-meaning payload Other Other x y = refl
one-meaning payload (Greets g) (Greets g') x y = ap Greets (one greeting greeting-lawful payload g g' x y)
one-meaning payload (Greets g) (BrokenGreeting at) x y = absurd (y.place.none g x)
one-meaning payload (BrokenGreeting at) (Greets g) x y = absurd (x.place.none g y)
one-meaning payload (BrokenGreeting at) (BrokenGreeting at') x y = ap BrokenGreeting (one-place greeting.Spells payload at at' x.place y.place)
one-meaning payload (Switches s at) (Switches s' at') x y =
    let same : s ≡ s' = one switch switch-lawful payload s s' x.0 y.0 in
    ap (λ (t : Switch). Switches t at) same
    ∙ ap (λ (n : ℕ). Switches s' n) (x.1 ∙ ap (λ (t : Switch). length payload - length t.body) same ∙ sym y.1)
one-meaning payload (Switches s at) (BrokenSwitch at') x y = absurd (y.place.none s x.0)
one-meaning payload (BrokenSwitch at) (Switches s at') x y = absurd (x.place.none s y.0)
one-meaning payload (BrokenSwitch at) (BrokenSwitch at') x y = ap BrokenSwitch (one-place switch.Spells payload at at' x.place y.place)
one-meaning payload (Asks f) (Asks f') x y = ap Asks (one next_factor next_factor-lawful payload f f' x y)
one-meaning payload (Asks f) (BrokenFactor at) x y = absurd (y.place.none f x)
one-meaning payload (BrokenFactor at) (Asks f) x y = absurd (x.place.none f y)
one-meaning payload (BrokenFactor at) (BrokenFactor at') x y = ap BrokenFactor (one-place next_factor.Spells payload at at' x.place y.place)
one-meaning payload Accepts Accepts x y = refl
one-meaning payload Accepts (BrokenOk at) x y = absurd (y.place.none x.0 x.1)
one-meaning payload (BrokenOk at) Accepts x y = absurd (x.place.none y.0 y.1)
one-meaning payload (BrokenOk at) (BrokenOk at') x y = ap BrokenOk (one-place ok_packet.Spells payload at at' x.place y.place)
one-meaning payload (Refuses n) (Refuses n') x y =
    ap Refuses (x.2 ∙ ap (λ (e : ErrPacket). e.number) (one err_packet err-lawful payload x.0 y.0 x.1 y.1) ∙ sym y.2)
one-meaning payload (Refuses n) (BrokenErr at) x y = absurd (y.place.none x.0 x.1)
one-meaning payload (BrokenErr at) (Refuses n) x y = absurd (x.place.none y.0 y.1)
one-meaning payload (BrokenErr at) (BrokenErr at') x y = ap BrokenErr (one-place err_packet.Spells payload at at' x.place y.place)
one-meaning payload Fast Fast x y = refl
one-meaning payload Full Full x y = refl
one-meaning payload Fast Full x y = absurd (cc)
one-meaning payload Full Fast x y = absurd (cc)
one-meaning payload Other h x y = absurd (other-none payload h x y (λ e. cc))
one-meaning payload h Other x y = absurd (other-none payload h y x (λ e. cc))
one-meaning payload h k x y = absurd (let e = same-first _ _ payload (first-of payload h x) (first-of payload k y) in omega (arith, e))

-- a talk comes to one thing by the payloads that it hears
pub leads-one : (start : Talk) (got written : List (List ℕ)) (now : Talk) (written' : List (List ℕ)) (now' : Talk) → Leads start got written now → Leads start got written' now'
    → (written ≡ written') × (now ≡ now')
leads-one (Hears k) [] written now written' now' (none, at) (none', at') = (none ∙ sym none', at ∙ sym at')
leads-one (Hears k) (payload ∷ got) written now written' now' (h, x, leads) (h', x', leads') =
    leads-one (k h) got written now written' now' leads (subst (λ (i : Heard). Leads (k i) got written' now') (sym (one-meaning payload h h' x x')) leads')
leads-one (Says said k) [] written now written' now' (one, at) (one', at') = (one ∙ sym one', at ∙ sym at')
leads-one (Says said k) (payload ∷ got) written now written' now' (rest, is, h, x, leads) (rest', is', h', x', leads') =
    let same = leads-one (k h) got rest now rest' now' leads (subst (λ (i : Heard). Leads (k i) got rest' now') (sym (one-meaning payload h h' x x')) leads') in
    (is ∙ ap (λ (r : List (List ℕ)). said ∷ r) same.0 ∙ sym is', same.1)
leads-one (Over end) got written now written' now' (none, at) (none', at') = (none ∙ sym none', at ∙ sym at')

pub client-talk-one : (claim : Claim) (got written written' : List (List ℕ)) (result result' : Option LoginEnd) → ClientTalk claim got written result → ClientTalk claim got written' result'
    → (written ≡ written') × (result ≡ result')
client-talk-one claim got written written' result result' t t' =
    let same = leads-one (conversation claim) got written t.now written' t'.now t.leads t'.leads in
    (same.0, t.result_is ∙ ap (λ (talk : Talk). result_of talk) same.1 ∙ sym t'.result_is)
