-- The tokens of a text that is written piece by piece: where a piece ends what stands before it, its
-- tokens follow those of what stands before.
use Rattle.std.proofs.Common.{◌≡◌, ℕ, ◌+◌, ◌==◌, Bool, true, false, List, [], ◌∷◌, ◌++◌, length, map, if◌then◌else◌, refl, sym, ap, ◌∙◌, append_assoc, arith}
use Rattle.std.proofs.lemmas.List.{append-nil, map-append}
use Rattle.stmt_tokens.specs.Tokens.{Scanned, escape_of, finished, finished_in, grown, inside, is_blank, is_quote, is_sign, is_word_byte, kind_within, opened, scan, start_of_scan, stepped, stepped_in, unplaced, with_token}
use Rattle.stmt_tokens.specs.declared.token.Kind.{Kind}
use Rattle.stmt_tokens.specs.declared.token.Kind.TheVariants as kind
use Rattle.stmt_tokens.specs.declared.token.Mode.{Mode}
use Rattle.stmt_tokens.specs.declared.token.Mode.TheVariants as mode
use Rattle.stmt_tokens.specs.declared.token.Token.{Token}

abbrev pub scanned : List ℕ → Scanned
scanned x = scan 0 x start_of_scan

-- the tokens of what was scanned, without their places
abbrev pub shapes_in : Scanned → List Token
shapes_in s = map unplaced (finished s).made

abbrev pub shapes : List ℕ → List Token
shapes x = shapes_in (scanned x)

-- Two scans stand alike, where the one has made so many tokens before.
pub record Alike (before : List Token) (s t : Scanned) : Type 0 where
  pub modes : s.mode ≡ t.mode
  pub helds : s.held ≡ t.held
  pub mades : map unplaced s.made ≡ before ++ map unplaced t.made

alike_if : (before : List Token) (b : Bool) (s t u v : Scanned) → Alike before s t → Alike before u v
    → Alike before (if b then s else u) (if b then t else v)
alike_if before true s t u v h k = h
alike_if before false s t u v h k = k

alike_token : (before : List Token) (p q : ℕ) (k : Kind) (s t : Scanned) → Alike before s t → Alike before (with_token p k s) (with_token q k t)
alike_token before p q k s t h =
    let one : List Token = record { place = 0; kind = k; text = t.held } ∷ [] in
    let left : map unplaced (with_token p k s).made ≡ map unplaced s.made ++ record { place = 0; kind = k; text = s.held } ∷ [] =
    map-append unplaced s.made (record { place = p; kind = k; text = s.held } ∷ []) in
    let right : map unplaced (with_token q k t).made ≡ map unplaced t.made ++ one =
    map-append unplaced t.made (record { place = q; kind = k; text = t.held } ∷ []) in
    record {
      modes = refl;
      helds = refl;
      mades =
          left ∙ ap (λ (x : List ℕ). map unplaced s.made ++ record { place = 0; kind = k; text = x } ∷ []) h.helds
          ∙ ap (λ (xs : List Token). xs ++ one) h.mades ∙ append_assoc before (map unplaced t.made) one
          ∙ ap (λ (xs : List Token). before ++ xs) (sym right);
    }

-- both go on in one mode, or with the same bytes
alike_mode : (before : List Token) (m : Mode) (p q : ℕ) (x : List ℕ) (s t : Scanned) → Alike before s t
    → Alike before (record { made = s.made; mode = m; start = p; held = s.held ++ x }) (record { made = t.made; mode = m; start = q; held = t.held ++ x })
alike_mode before m p q x s t h = record { modes = refl; helds = ap (λ (y : List ℕ). y ++ x) h.helds; mades = h.mades }

alike_in : (before : List Token) (m : Mode) (p q : ℕ) (s t : Scanned) → Alike before s t
    → Alike before (record { made = s.made; mode = m; start = p; held = s.held }) (record { made = t.made; mode = m; start = q; held = t.held })
alike_in before m p q s t h = record { modes = refl; helds = h.helds; mades = h.mades }

alike_grown : (before : List Token) (b : ℕ) (s t : Scanned) → Alike before s t → Alike before (grown b s) (grown b t)
alike_grown before b s t h = record { modes = h.modes; helds = ap (λ (y : List ℕ). y ++ b ∷ []) h.helds; mades = h.mades }

pub alike_opened : (before : List Token) (p q b : ℕ) (s t : Scanned) → Alike before s t → Alike before (opened p b s) (opened q b t)
unfolding opened
alike_opened before p q b s t h =
    alike_if before (is_blank b) _ _ _ _ h
    (alike_if before (is_word_byte b) _ _ _ _ (alike_mode before mode.Word p q (b ∷ []) s t h)
    (alike_if before (is_quote b) _ _ _ _ (alike_in before (mode.Inside b) p q s t h)
    (alike_if before (is_sign b) _ _ _ _
    (alike_token before p q kind.Sign (grown b (record s { start = p })) (grown b (record t { start = q }))
    (record { modes = h.modes; helds = ap (λ (y : List ℕ). y ++ b ∷ []) h.helds; mades = h.mades }))
    (let one = alike_token before p q kind.Bad (record s { start = p }) (record t { start = q }) (record { modes = h.modes; helds = h.helds; mades = h.mades }) in
    record { modes = refl; helds = one.helds; mades = one.mades }))))

alike_inside : (before : List Token) (quote b : ℕ) (s t : Scanned) → Alike before s t → Alike before (inside quote b s) (inside quote b t)
alike_inside before quote b s t h =
    alike_if before (b == quote) _ _ _ _ (alike_in before (mode.Closing quote) s.start t.start s t h)
    (alike_if before _ _ _ _ _ (alike_in before (mode.Escaped quote) s.start t.start s t h) (alike_grown before b s t h))

alike_stepped_in : (before : List Token) (m : Mode) (p q b : ℕ) (s t : Scanned) → Alike before s t
    → Alike before (stepped_in m p b s) (stepped_in m q b t)
alike_stepped_in before mode.Between p q b s t h = alike_opened before p q b s t h
alike_stepped_in before mode.Word p q b s t h =
    alike_if before (is_word_byte b) _ _ _ _ (alike_grown before b s t h)
    (alike_opened before p q b (with_token s.start kind.Word s) (with_token t.start kind.Word t) (alike_token before s.start t.start kind.Word s t h))
alike_stepped_in before (mode.Inside quote) p q b s t h = alike_inside before quote b s t h
alike_stepped_in before (mode.Escaped quote) p q b s t h = alike_mode before (mode.Inside quote) s.start t.start (escape_of b) s t h
alike_stepped_in before (mode.Closing quote) p q b s t h =
    alike_if before (b == quote) _ _ _ _ (alike_mode before (mode.Inside quote) s.start t.start (b ∷ []) s t h)
    (alike_opened before p q b (with_token s.start (kind_within quote) s) (with_token t.start (kind_within quote) t)
    (alike_token before s.start t.start (kind_within quote) s t h))
alike_stepped_in before mode.Stopped p q b s t h = h

alike_stepped : (before : List Token) (p q b : ℕ) (s t : Scanned) → Alike before s t → Alike before (stepped p b s) (stepped q b t)
unfolding stepped
alike_stepped before p q b s t h =
    let e : stepped_in s.mode p b s ≡ stepped_in t.mode p b s = ap (λ (m : Mode). stepped_in m p b s) h.modes in
    rw e (alike_stepped_in before t.mode p q b s t h)

pub alike_scan : (before : List Token) (x : List ℕ) (p q : ℕ) (s t : Scanned) → Alike before s t → Alike before (scan p x s) (scan q x t)
alike_scan before [] p q s t h = h
alike_scan before (b ∷ x) p q s t h = alike_scan before x (p + 1) (q + 1) (stepped p b s) (stepped q b t) (alike_stepped before p q b s t h)

alike_finished_in : (before : List Token) (m : Mode) (s t : Scanned) → Alike before s t → Alike before (finished_in m s) (finished_in m t)
alike_finished_in before mode.Between s t h = h
alike_finished_in before mode.Word s t h = alike_token before s.start t.start kind.Word s t h
alike_finished_in before (mode.Inside quote) s t h = alike_token before s.start t.start kind.Bad s t h
alike_finished_in before (mode.Escaped quote) s t h = alike_token before s.start t.start kind.Bad s t h
alike_finished_in before (mode.Closing quote) s t h = alike_token before s.start t.start (kind_within quote) s t h
alike_finished_in before mode.Stopped s t h = h

pub alike_finished : (before : List Token) (s t : Scanned) → Alike before s t → Alike before (finished s) (finished t)
unfolding finished
alike_finished before s t h =
    let e : finished_in s.mode s ≡ finished_in t.mode s = ap (λ (m : Mode). finished_in m s) h.modes in
    rw e (alike_finished_in before t.mode s t h)

-- a scan of one text behind another
pub scan_append : (x y : List ℕ) (p : ℕ) (s : Scanned) → scan p (x ++ y) s ≡ scan (p + length x) y (scan p x s)
scan_append [] y p s = ap (λ (n : ℕ). scan n y s) (omega arith)
scan_append (b ∷ x) y p s =
    scan_append x y (p + 1) (stepped p b s)
    ∙ ap (λ (n : ℕ). scan n y (scan (p + 1) x (stepped p b s))) (omega arith)

-- no token is open
pub record IsFresh (s : Scanned) : Type 0 where
  pub modes : s.mode ≡ mode.Between
  pub helds : s.held ≡ []

-- what is open ends at a blank or a @
abbrev pub Rests : Mode → List ℕ → Type 0
Rests mode.Between held = held ≡ []
Rests mode.Word held = Unit {0}
Rests (mode.Closing quote) held = ((32 == quote) ≡ false) × ((64 == quote) ≡ false)
Rests (mode.Inside quote) held = ⊥
Rests (mode.Escaped quote) held = ⊥
Rests mode.Stopped held = ⊥

pub record IsResting (s : Scanned) : Type 0 where
  pub rests : Rests s.mode s.held

pub resting_alike : (before : List Token) (s t : Scanned) → Alike before s t → IsResting t → IsResting s
resting_alike before s t h r = record { rests = rw (h.modes, h.helds) (r.rests) }

pub fresh_rests : (s : Scanned) → IsFresh s → IsResting s
fresh_rests s h = record { rests = rw (h.modes) (h.helds) }

-- the bytes that a piece behind another may begin with: a blank or a @
abbrev pub Parts : ℕ → Type 0
Parts b = (is_word_byte b ≡ false) × ((quote : ℕ) → (32 == quote) ≡ false → (64 == quote) ≡ false → (b == quote) ≡ false)

pub blank_parts : Parts 32
blank_parts = (refl, λ quote e f. e)

pub at_parts : Parts 64
at_parts = (refl, λ quote e f. f)

parts_in : (m : Mode) (p b : ℕ) (s : Scanned) → Rests m s.held → Parts b → stepped_in m p b s ≡ opened p b (finished_in m s)
parts_in mode.Between p b s r (w, e) = refl
parts_in mode.Word p b s r (w, e) = rw w refl
parts_in (mode.Inside quote) p b s r (w, e) = absurd r
parts_in (mode.Escaped quote) p b s r (w, e) = absurd r
parts_in (mode.Closing quote) p b s (r, t) (w, e) = rw (e quote r t) refl
parts_in mode.Stopped p b s r (w, e) = absurd r

parts : (p b : ℕ) (s : Scanned) → IsResting s → Parts b → stepped p b s ≡ opened p b (finished s)
unfolding stepped finished
parts p b s r h = parts_in s.mode p b s r.rests h

finished_fresh_in : (m : Mode) (s : Scanned) → s.mode ≡ m → Rests m s.held → IsFresh (finished_in m s)
finished_fresh_in mode.Between s e r = record { modes = e; helds = r }
finished_fresh_in mode.Word s e r = record { modes = refl; helds = refl }
finished_fresh_in (mode.Inside quote) s e r = absurd r
finished_fresh_in (mode.Escaped quote) s e r = absurd r
finished_fresh_in (mode.Closing quote) s e r = record { modes = refl; helds = refl }
finished_fresh_in mode.Stopped s e r = absurd r

finished_fresh : (s : Scanned) → IsResting s → IsFresh (finished s)
unfolding finished
finished_fresh s r = finished_fresh_in s.mode s refl r.rests

fresh_alike : (s : Scanned) → IsFresh s → Alike (map unplaced s.made) s start_of_scan
fresh_alike s h = record { modes = h.modes; helds = h.helds; mades = sym (append-nil (map unplaced s.made)) }

fresh_shapes : (s : Scanned) → IsFresh s → shapes_in s ≡ map unplaced s.made
unfolding finished
fresh_shapes s h = rw (h.modes) refl

-- what a piece behind a text makes of it
pub record Grows (w x : List ℕ) (ts : List Token) : Type 0 where
  pub resting : IsResting (scanned (w ++ x))
  pub tokens : shapes (w ++ x) ≡ shapes w ++ ts

pub record Leads (w x : List ℕ) (ts : List Token) : Type 0 where
  pub fresh : IsFresh (scanned (w ++ x))
  pub tokens : shapes (w ++ x) ≡ shapes w ++ ts

-- Pieces by what may stand before and behind them: a tail ends what stands before it, a body wants no token
-- to be open; and behind a lead none is.
abbrev pub Tail : List ℕ → List Token → Type 0
Tail x ts = (w : List ℕ) → IsResting (scanned w) → Grows w x ts

abbrev pub Body : List ℕ → List Token → Type 0
Body x ts = (w : List ℕ) → IsFresh (scanned w) → Grows w x ts

abbrev pub Lead : List ℕ → List Token → Type 0
Lead x ts = (w : List ℕ) → IsResting (scanned w) → Leads w x ts

start_steps : (b : ℕ) → stepped 0 b start_of_scan ≡ opened 0 b start_of_scan
unfolding stepped
start_steps b = refl

behind_resting : (w : List ℕ) (b : ℕ) (bs : List ℕ) → Parts b → IsResting (scanned w)
    → Alike (shapes w) (scanned (w ++ b ∷ bs)) (scanned (b ∷ bs))
behind_resting w b bs h r =
    let s : Scanned = scanned w in
    let begun : IsResting start_of_scan = record { rests = refl } in
    let first : Alike (shapes w) (finished s) start_of_scan = fresh_alike (finished s) (finished_fresh s r) in
    let opens = alike_opened (shapes w) (0 + length w) 0 b (finished s) start_of_scan first in
    let left : stepped (0 + length w) b s ≡ opened (0 + length w) b (finished s) = parts (0 + length w) b s r h in
    let right : stepped 0 b start_of_scan ≡ opened 0 b start_of_scan = start_steps b in
    let steps : Alike (shapes w) (stepped (0 + length w) b s) (stepped 0 b start_of_scan) = rw (left, right) opens in
    let all = alike_scan (shapes w) bs (0 + length w + 1) (0 + 1) (stepped (0 + length w) b s) (stepped 0 b start_of_scan) steps in
    rw (scan_append w (b ∷ bs) 0 start_of_scan) all

behind_fresh : (w x : List ℕ) → IsFresh (scanned w) → Alike (shapes w) (scanned (w ++ x)) (scanned x)
behind_fresh w x h =
    let first : Alike (map unplaced (scanned w).made) (scanned w) start_of_scan = fresh_alike (scanned w) h in
    let all = alike_scan (map unplaced (scanned w).made) x (0 + length w) 0 (scanned w) start_of_scan first in
    rw (scan_append w x 0 start_of_scan, fresh_shapes (scanned w) h) all

pub tail_of : (b : ℕ) (bs : List ℕ) → Parts b → IsResting (scanned (b ∷ bs)) → Tail (b ∷ bs) (shapes (b ∷ bs))
tail_of b bs h r w q =
    let all = behind_resting w b bs h q in
    record {
      resting = resting_alike (shapes w) (scanned (w ++ b ∷ bs)) (scanned (b ∷ bs)) all r;
      tokens = (alike_finished (shapes w) (scanned (w ++ b ∷ bs)) (scanned (b ∷ bs)) all).mades;
    }

pub lead_of : (b : ℕ) (bs : List ℕ) → Parts b → IsFresh (scanned (b ∷ bs)) → Lead (b ∷ bs) (shapes (b ∷ bs))
lead_of b bs h f w r =
    let all = behind_resting w b bs h r in
    record {
      fresh = record { modes = all.modes ∙ f.modes; helds = all.helds ∙ f.helds };
      tokens = (alike_finished (shapes w) (scanned (w ++ b ∷ bs)) (scanned (b ∷ bs)) all).mades;
    }

pub body_of : (x : List ℕ) → IsResting (scanned x) → Body x (shapes x)
body_of x r w f =
    let all = behind_fresh w x f in
    record {
      resting = resting_alike (shapes w) (scanned (w ++ x)) (scanned x) all r;
      tokens = (alike_finished (shapes w) (scanned (w ++ x)) (scanned x) all).mades;
    }

grows_then : (w x y : List ℕ) (ts us : List Token) → Grows w x ts → Grows (w ++ x) y us → Grows w (x ++ y) (ts ++ us)
grows_then w x y ts us h k =
    let same : (w ++ x) ++ y ≡ w ++ (x ++ y) = append_assoc w x y in
    record {
      resting = rw (← same) (k.resting);
      tokens = rw (← same) (k.tokens ∙ ap (λ (zs : List Token). zs ++ us) h.tokens ∙ append_assoc (shapes w) ts us);
    }

pub tail_none : Tail [] []
tail_none w r = record { resting = rw (append-nil w) r; tokens = rw (append-nil w) (sym (append-nil (shapes w))) }

pub tail_then : (x y : List ℕ) (ts us : List Token) → Tail x ts → Tail y us → Tail (x ++ y) (ts ++ us)
tail_then x y ts us h k w r = grows_then w x y ts us (h w r) (k (w ++ x) (h w r).resting)

pub body_then : (x y : List ℕ) (ts us : List Token) → Body x ts → Tail y us → Body (x ++ y) (ts ++ us)
body_then x y ts us h k w r = grows_then w x y ts us (h w r) (k (w ++ x) (h w r).resting)

pub lead_then : (x y : List ℕ) (ts us : List Token) → Lead x ts → Body y us → Tail (x ++ y) (ts ++ us)
lead_then x y ts us h k w r =
    let first : Leads w x ts = h w r in
    let second : Grows (w ++ x) y us = k (w ++ x) first.fresh in
    grows_then w x y ts us (record { resting = fresh_rests (scanned (w ++ x)) first.fresh; tokens = first.tokens }) second

pub lead_after : (x y : List ℕ) (ts us : List Token) → Tail x ts → Lead y us → Lead (x ++ y) (ts ++ us)
lead_after x y ts us h k w r =
    let first : Grows w x ts = h w r in
    let second : Leads (w ++ x) y us = k (w ++ x) first.resting in
    let same : (w ++ x) ++ y ≡ w ++ (x ++ y) = append_assoc w x y in
    record {
      fresh = rw (← same) (second.fresh);
      tokens = rw (← same) (second.tokens ∙ ap (λ (zs : List Token). zs ++ us) first.tokens ∙ append_assoc (shapes w) ts us);
    }

-- a text by its tokens
pub record Whole (x : List ℕ) (ts : List Token) : Type 0 where
  pub resting : IsResting (scanned x)
  pub tokens : shapes x ≡ ts

pub whole_of : (w x : List ℕ) (ts : List Token) → IsFresh (scanned w) → Body x ts → Whole (w ++ x) (shapes w ++ ts)
whole_of w x ts h k = record { resting = (k w h).resting; tokens = (k w h).tokens }

pub whole_then : (x y : List ℕ) (ts us : List Token) → Whole x ts → Tail y us → Whole (x ++ y) (ts ++ us)
whole_then x y ts us h k =
    let more : Grows x y us = k x h.resting in
    record { resting = more.resting; tokens = more.tokens ∙ ap (λ (zs : List Token). zs ++ us) h.tokens }

pub whole_lead : (x y z : List ℕ) (ts us vs : List Token) → Whole x ts → Lead y us → Body z vs → Whole (x ++ y ++ z) (ts ++ us ++ vs)
whole_lead x y z ts us vs h k b =
    let first : Leads x y us = k x h.resting in
    let more : Grows (x ++ y) z vs = b (x ++ y) first.fresh in
    record {
      resting = more.resting;
      tokens = more.tokens ∙ ap (λ (zs : List Token). zs ++ vs) (first.tokens ∙ ap (λ (zs : List Token). zs ++ us) h.tokens);
    }

-- tokens without places
abbrev pub word : List ℕ → Token
word x = record { place = 0; kind = kind.Word; text = x }

abbrev pub text : List ℕ → Token
text x = record { place = 0; kind = kind.Text; text = x }

abbrev pub sign : ℕ → Token
sign b = record { place = 0; kind = kind.Sign; text = b ∷ [] }
