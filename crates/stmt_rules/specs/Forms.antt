-- Rules of a grammar over tokens. A form says which tokens, up to which rest, spell which value; and how
-- they are read: the value and the rest, or the tokens from the first one on that doesn't fit. It carries
-- the proof that what is spelled is what is read.
use Rattle.std.specs.Prelude.{◌≡◌, ℕ, zero, suc, ◌+◌, ◌<◌, ◌≤◌, Bool, true, false, List, [], ◌∷◌, ◌++◌, length, drop, map, if◌then◌else◌, Option, Some, None, Result, Ok, Err, ◌⊎◌, refl}
use Rattle.std.proofs.Common.{inl, inr, arith, ap, sym, ◌∙◌, append_assoc, length-append}
use Rattle.std.proofs.lemmas.List.{append_cancel_right, length-map}
use Rattle.stmt_tokens.specs.Patterns.{Pattern, Word, Sign, Part, PartLike, InQuotes, Text, Number, fits}
use Rattle.stmt_tokens.specs.Tokens.{unplaced}
use Rattle.stmt_tokens.specs.declared.token.Token.{Token}

-- what is read: a value and the tokens behind it, or the tokens from the fault on
abbrev pub Read : Type 0 → Type 0
Read A = Result (A × List Token) (List Token)

-- whether the first token fits
abbrev pub begins : Pattern → List Token → Bool
begins p [] = false
begins p (t ∷ ts) = fits p t

abbrev pub first_text : List Token → List ℕ
first_text [] = []
first_text (t ∷ ts) = t.text

-- goes on behind what was read
abbrev pub and_then : {A B : Type 0} → (A → List Token → Read B) → Read A → Read B
and_then f (Ok (a, rest)) = f a rest
and_then f (Err rest) = Err rest

abbrev pub read_ok : {A : Type 0} → A → List Token → Read A
read_ok a rest = Ok (a, rest)

abbrev pub read_err : {A : Type 0} → List Token → Read A
read_err rest = Err rest

abbrev pub at_end : {A : Type 0} → A → List Token → Read A
at_end a [] = Ok (a, [])
at_end a (t ∷ rest) = Err (t ∷ rest)

-- where a reading ends or stops, and that reading with another rest
abbrev pub rest_of : {A : Type 0} → Read A → List Token
rest_of (Ok (a, rest)) = rest
rest_of (Err rest) = rest

abbrev pub with_rest : {A : Type 0} → List Token → Read A → Read A
with_rest more (Ok (a, rest)) = Ok (a, more)
with_rest more (Err rest) = Err more

-- what is read of tokens without their places
abbrev pub read_unplaced : {A : Type 0} → Read A → Read A
read_unplaced (Ok (a, rest)) = Ok (a, map unplaced rest)
read_unplaced (Err rest) = Err (map unplaced rest)

-- A reader leaves an end of what it reads, looks no further than at the first token that it leaves, and
-- at no token's place.
pub record Local {A : Type 0} (read : List Token → Read A) : Type 0 where
  pub suffix : (ts : List Token) → (before : List Token) × (ts ≡ before ++ rest_of (read ts))
  pub stops : (before : List Token) (t : Token) (rest more : List Token) → rest_of (read (before ++ t ∷ rest)) ≡ t ∷ rest
      → read (before ++ t ∷ more) ≡ with_rest (t ∷ more) (read (before ++ t ∷ rest))
  pub blind : (ts : List Token) → read (map unplaced ts) ≡ read_unplaced (read ts)

no_more : (before : List Token) (t : Token) (rest : List Token) → before ++ t ∷ rest ≡ t ∷ rest → before ≡ []
no_more before t rest h = append_cancel_right before [] (t ∷ rest) h

not_longer : {C : Type 0} (before : List Token) (t : Token) (rest : List Token) → rest ≡ before ++ t ∷ rest → C
not_longer before t rest h = absurd (omega (arith, ap length h, length-append before (t ∷ rest)))

gives_stops : {A : Type 0} (a : A) (before : List Token) (t : Token) (rest more : List Token) → before ++ t ∷ rest ≡ t ∷ rest
    → read_ok a (before ++ t ∷ more) ≡ read_ok a (t ∷ more)
gives_stops a before t rest more h = let e = no_more before t rest h in rw e refl

refused_stops : {A : Type 0} (before : List Token) (t : Token) (rest more : List Token) → before ++ t ∷ rest ≡ t ∷ rest
    → read_err {A = A} (before ++ t ∷ more) ≡ read_err (t ∷ more)
refused_stops before t rest more h = let e = no_more before t rest h in rw e refl

pub gives_local : {A : Type 0} (a : A) → Local (λ ts. read_ok a ts)
gives_local a = record { suffix = λ ts. ([], refl); stops = gives_stops a; blind = λ ts. refl }

pub refused_local : {A : Type 0} → Local (λ ts. read_err {A = A} ts)
refused_local = record { suffix = λ ts. ([], refl); stops = refused_stops; blind = λ ts. refl }

ends_suffix : {A : Type 0} (a : A) (ts : List Token) → (before : List Token) × (ts ≡ before ++ rest_of (at_end a ts))
ends_suffix a [] = ([], refl)
ends_suffix a (t ∷ ts) = ([], refl)

ends_stops : {A : Type 0} (a : A) (before : List Token) (t : Token) (rest more : List Token) → rest_of (at_end a (before ++ t ∷ rest)) ≡ t ∷ rest
    → at_end a (before ++ t ∷ more) ≡ with_rest (t ∷ more) (at_end a (before ++ t ∷ rest))
ends_stops a [] t rest more h = refl
ends_stops a (u ∷ us) t rest more h = let e = no_more (u ∷ us) t rest h in cc

ends_blind : {A : Type 0} (a : A) (ts : List Token) → at_end a (map unplaced ts) ≡ read_unplaced (at_end a ts)
ends_blind a [] = refl
ends_blind a (t ∷ ts) = refl

pub ends_local : {A : Type 0} (a : A) → Local (at_end a)
ends_local a = record { suffix = ends_suffix a; stops = ends_stops a; blind = ends_blind a }

-- a reader of a token and what follows it, or else another
abbrev pub read_next : {A : Type 0} → Pattern → (List ℕ → List Token → Read A) → (List Token → Read A) → List Token → Read A
read_next p goes otherwise ts = if begins p ts then goes (first_text ts) (drop 1 ts) else otherwise ts

next_suffix_at : {A : Type 0} (p : Pattern) (goes : List ℕ → List Token → Read A) (otherwise : List Token → Read A)
    → ((x : List ℕ) → Local (goes x)) → Local otherwise → (ts : List Token) (b : Bool) → begins p ts ≡ b
    → (before : List Token) × (ts ≡ before ++ rest_of (if b then goes (first_text ts) (drop 1 ts) else otherwise ts))
next_suffix_at p goes otherwise lg lo [] true e = cc
next_suffix_at p goes otherwise lg lo (t ∷ ts) true e = let s = (lg t.text).suffix ts in (t ∷ s.0, ap (λ (xs : List Token). t ∷ xs) s.1)
next_suffix_at p goes otherwise lg lo ts false e = lo.suffix ts

next_stops_at : {A : Type 0} (p : Pattern) (goes : List ℕ → List Token → Read A) (otherwise : List Token → Read A)
    → ((x : List ℕ) → Local (goes x)) → Local otherwise → (before : List Token) (t : Token) (rest more : List Token) (b : Bool)
    → begins p (before ++ t ∷ rest) ≡ b
    → rest_of (if b then goes (first_text (before ++ t ∷ rest)) (drop 1 (before ++ t ∷ rest)) else otherwise (before ++ t ∷ rest)) ≡ t ∷ rest
    → read_next p goes otherwise (before ++ t ∷ more)
    ≡ with_rest (t ∷ more) (if b then goes (first_text (before ++ t ∷ rest)) (drop 1 (before ++ t ∷ rest)) else otherwise (before ++ t ∷ rest))
next_stops_at p goes otherwise lg lo [] t rest more true e h =
    let s = (lg t.text).suffix rest in
    let same : rest ≡ s.0 ++ t ∷ rest = s.1 ∙ ap (λ (xs : List Token). s.0 ++ xs) h in
    not_longer s.0 t rest same
next_stops_at p goes otherwise lg lo [] t rest more false e h = rw e (lo.stops [] t rest more h)
next_stops_at p goes otherwise lg lo (u ∷ us) t rest more true e h = rw e ((lg u.text).stops us t rest more h)
next_stops_at p goes otherwise lg lo (u ∷ us) t rest more false e h = rw e (lo.stops (u ∷ us) t rest more h)

fits_blind : (p : Pattern) (t : Token) → fits p (unplaced t) ≡ fits p t
fits_blind (Word w) t = refl
fits_blind (Sign b) t = refl
fits_blind Part t = refl
fits_blind (PartLike w) t = refl
fits_blind (InQuotes x) t = refl
fits_blind Text t = refl
fits_blind Number t = refl

next_blind_at : {A : Type 0} (p : Pattern) (goes : List ℕ → List Token → Read A) (otherwise : List Token → Read A)
    → ((x : List ℕ) → Local (goes x)) → Local otherwise → (ts : List Token) (b : Bool) → begins p ts ≡ b
    → read_next p goes otherwise (map unplaced ts) ≡ read_unplaced (if b then goes (first_text ts) (drop 1 ts) else otherwise ts)
next_blind_at p goes otherwise lg lo [] true e = cc
next_blind_at p goes otherwise lg lo [] false e = lo.blind []
next_blind_at p goes otherwise lg lo (t ∷ ts) true e = rw (fits_blind p t, e) ((lg t.text).blind ts)
next_blind_at p goes otherwise lg lo (t ∷ ts) false e = rw (fits_blind p t, e) (lo.blind (t ∷ ts))

pub next_local : {A : Type 0} (p : Pattern) (goes : List ℕ → List Token → Read A) (otherwise : List Token → Read A)
    → ((x : List ℕ) → Local (goes x)) → Local otherwise → Local (read_next p goes otherwise)
next_local p goes otherwise lg lo = record {
  suffix = λ ts. next_suffix_at p goes otherwise lg lo ts (begins p ts) refl;
  stops = λ before t rest more h. next_stops_at p goes otherwise lg lo before t rest more (begins p (before ++ t ∷ rest)) refl h;
  blind = λ ts. next_blind_at p goes otherwise lg lo ts (begins p ts) refl;
}

seq_suffix_at : {A B : Type 0} (g : A → List Token → Read B) → ((a : A) → Local (g a)) → (ts : List Token) (r : Read A)
    → (before : List Token) × (ts ≡ before ++ rest_of r) → (before : List Token) × (ts ≡ before ++ rest_of (and_then g r))
seq_suffix_at g lg ts (Ok (a, mid)) (before, e) =
    let s = (lg a).suffix mid in
    (before ++ s.0, e ∙ ap (λ (xs : List Token). before ++ xs) s.1 ∙ sym (append_assoc before s.0 (rest_of (g a mid))))
seq_suffix_at g lg ts (Err mid) (before, e) = (before, e)

seq_stops_behind : {A B : Type 0} (f : List Token → Read A) (g : A → List Token → Read B) → Local f → ((a : A) → Local (g a))
    → (before : List Token) (t : Token) (rest more : List Token) (a : A) (b1 b2 : List Token)
    → before ≡ b1 ++ b2 → f (before ++ t ∷ rest) ≡ read_ok a (b2 ++ t ∷ rest)
    → f (before ++ t ∷ more) ≡ read_ok a (b2 ++ t ∷ more)
seq_stops_behind f g lf lg before t rest more a b1 [] eb er =
    let h : rest_of (f (before ++ t ∷ rest)) ≡ t ∷ rest = ap rest_of er in
    lf.stops before t rest more h ∙ ap (with_rest (t ∷ more)) er
seq_stops_behind f g lf lg before t rest more a b1 (u ∷ us) eb er =
    let e1 : before ++ t ∷ rest ≡ b1 ++ (u ∷ (us ++ t ∷ rest)) = rw eb (append_assoc b1 (u ∷ us) (t ∷ rest)) in
    let e2 : before ++ t ∷ more ≡ b1 ++ (u ∷ (us ++ t ∷ more)) = rw eb (append_assoc b1 (u ∷ us) (t ∷ more)) in
    let er2 : f (b1 ++ (u ∷ (us ++ t ∷ rest))) ≡ read_ok a (u ∷ (us ++ t ∷ rest)) = rw (← e1) er in
    rw e2 (lf.stops b1 u (us ++ t ∷ rest) (us ++ t ∷ more) (ap rest_of er2) ∙ ap (with_rest (u ∷ (us ++ t ∷ more))) er2)

seq_stops_at : {A B : Type 0} (f : List Token → Read A) (g : A → List Token → Read B) → Local f → ((a : A) → Local (g a))
    → (before : List Token) (t : Token) (rest more : List Token) (r : Read A) → f (before ++ t ∷ rest) ≡ r
    → rest_of (and_then g r) ≡ t ∷ rest → and_then g (f (before ++ t ∷ more)) ≡ with_rest (t ∷ more) (and_then g r)
seq_stops_at f g lf lg before t rest more (Err mid) e h =
    let hr : rest_of (f (before ++ t ∷ rest)) ≡ t ∷ rest = ap rest_of e ∙ h in
    ap (and_then g) (lf.stops before t rest more hr ∙ ap (with_rest (t ∷ more)) e)
seq_stops_at f g lf lg before t rest more (Ok (a, mid)) e h =
    let s1 = lf.suffix (before ++ t ∷ rest) in
    let s2 = (lg a).suffix mid in
    let em : mid ≡ s2.0 ++ t ∷ rest = s2.1 ∙ ap (λ (xs : List Token). s2.0 ++ xs) h in
    let eb0 : before ++ t ∷ rest ≡ s1.0 ++ mid = s1.1 ∙ ap (λ (r : Read _). s1.0 ++ rest_of r) e in
    let eb1 : before ++ t ∷ rest ≡ (s1.0 ++ s2.0) ++ t ∷ rest =
    eb0 ∙ ap (λ (xs : List Token). s1.0 ++ xs) em ∙ sym (append_assoc s1.0 s2.0 (t ∷ rest)) in
    let eb : before ≡ s1.0 ++ s2.0 = append_cancel_right before (s1.0 ++ s2.0) (t ∷ rest) eb1 in
    let ef : f (before ++ t ∷ rest) ≡ read_ok a (s2.0 ++ t ∷ rest) = e ∙ ap (read_ok a) em in
    let moved : f (before ++ t ∷ more) ≡ read_ok a (s2.0 ++ t ∷ more) = seq_stops_behind f g lf lg before t rest more a s1.0 s2.0 eb ef in
    let hg : rest_of (g a (s2.0 ++ t ∷ rest)) ≡ t ∷ rest = rw (← em) h in
    ap (and_then g) moved ∙ (lg a).stops s2.0 t rest more hg ∙ ap (λ (xs : List Token). with_rest (t ∷ more) (g a xs)) (sym em)

seq_blind_at : {A B : Type 0} (g : A → List Token → Read B) → ((a : A) → Local (g a)) → (r : Read A)
    → and_then g (read_unplaced r) ≡ read_unplaced (and_then g r)
seq_blind_at g lg (Ok (a, mid)) = (lg a).blind mid
seq_blind_at g lg (Err mid) = refl

pub seq_local : {A B : Type 0} (f : List Token → Read A) (g : A → List Token → Read B) → Local f → ((a : A) → Local (g a))
    → Local (λ ts. and_then g (f ts))
seq_local f g lf lg = record {
  suffix = λ ts. seq_suffix_at g lg ts (f ts) (lf.suffix ts);
  stops = λ before t rest more h. seq_stops_at f g lf lg before t rest more (f (before ++ t ∷ rest)) refl h;
  blind = λ ts. rw (lf.blind ts) (seq_blind_at g lg (f ts));
}

pub record Form (A : Type 0) : Type 1 where
  -- the tokens spell the value, up to the rest
  pub spells : A → List Token → List Token → Type 0
  pub read : List Token → Read A
  pub sound : (v : A) (ts rest : List Token) → read ts ≡ Ok (v, rest) → spells v ts rest
  pub complete : (v : A) (ts rest : List Token) → spells v ts rest → read ts ≡ Ok (v, rest)
  pub local : Local read

pub gives_sound : {A : Type 0} (a v : A) (ts rest : List Token) → read_ok a ts ≡ read_ok v rest → (v ≡ a) × (rest ≡ ts)
gives_sound {A} a v ts rest h =
    let e : (a, ts) ≡ (v, rest) = cc in
    (sym (ap (λ (p : A × List Token). p.0) e), sym (ap (λ (p : A × List Token). p.1) e))

pub gives_complete : {A : Type 0} (a v : A) (ts rest : List Token) → (v ≡ a) × (rest ≡ ts) → read_ok a ts ≡ read_ok v rest
gives_complete a v ts rest (e, d) = cc

-- a value, of no tokens
abbrev pub gives : {A : Type 0} → A → Form A
gives a = record {
  spells = λ v ts rest. (v ≡ a) × (rest ≡ ts);
  read = λ ts. Ok (a, ts);
  sound = gives_sound a;
  complete = gives_complete a;
  local = gives_local a;
}

pub refused_sound : {A : Type 0} (v : A) (ts rest : List Token) → read_err {A = A} ts ≡ read_ok v rest → ⊥
refused_sound v ts rest h = cc

pub refused_complete : {A : Type 0} (v : A) (ts rest : List Token) → ⊥ → read_err {A = A} ts ≡ read_ok v rest
refused_complete v ts rest h = absurd h

-- nothing
abbrev pub refused : {A : Type 0} → Form A
refused = record {
  spells = λ v ts rest. ⊥;
  read = λ ts. Err ts;
  sound = refused_sound;
  complete = refused_complete;
  local = refused_local;
}

pub ends_sound : {A : Type 0} (a v : A) (ts rest : List Token) → at_end a ts ≡ Ok (v, rest) → (v ≡ a) × (ts ≡ []) × (rest ≡ [])
ends_sound a v [] rest h = let e = gives_sound a v [] rest h in (e.0, refl, e.1)
ends_sound a v (t ∷ ts) rest h = cc

pub ends_complete : {A : Type 0} (a v : A) (ts rest : List Token) → (v ≡ a) × (ts ≡ []) × (rest ≡ []) → at_end a ts ≡ Ok (v, rest)
ends_complete a v [] rest (e, f, g) = cc
ends_complete a v (t ∷ ts) rest (e, f, g) = cc

-- a value, at the end of the tokens
abbrev pub ends : {A : Type 0} → A → Form A
ends a = record {
  spells = λ v ts rest. (v ≡ a) × (ts ≡ []) × (rest ≡ []);
  read = at_end a;
  sound = ends_sound a;
  complete = ends_complete a;
  local = ends_local a;
}

-- a token that fits comes first, and what goes on from its text; or else none does, and the last form says what
abbrev pub NextSpells : {A : Type 0} → Pattern → (List ℕ → Form A) → Form A → A → List Token → List Token → Type 0
NextSpells p goes otherwise v ts rest =
    ((begins p ts ≡ true) × (goes (first_text ts)).spells v (drop 1 ts) rest)
    ⊎ ((begins p ts ≡ false) × otherwise.spells v ts rest)

next_sound_at : {A : Type 0} (p : Pattern) (goes : List ℕ → Form A) (otherwise : Form A) (v : A) (ts rest : List Token) (b : Bool)
    → begins p ts ≡ b → (if b then (goes (first_text ts)).read (drop 1 ts) else otherwise.read ts) ≡ Ok (v, rest)
    → NextSpells p goes otherwise v ts rest
next_sound_at p goes otherwise v ts rest true e h = inl (e, (goes (first_text ts)).sound v (drop 1 ts) rest h)
next_sound_at p goes otherwise v ts rest false e h = inr (e, otherwise.sound v ts rest h)

pub next_sound : {A : Type 0} (p : Pattern) (goes : List ℕ → Form A) (otherwise : Form A) (v : A) (ts rest : List Token)
    → (if begins p ts then (goes (first_text ts)).read (drop 1 ts) else otherwise.read ts) ≡ Ok (v, rest)
    → NextSpells p goes otherwise v ts rest
next_sound p goes otherwise v ts rest h = next_sound_at p goes otherwise v ts rest (begins p ts) refl h

pub next_complete : {A : Type 0} (p : Pattern) (goes : List ℕ → Form A) (otherwise : Form A) (v : A) (ts rest : List Token)
    → NextSpells p goes otherwise v ts rest
    → (if begins p ts then (goes (first_text ts)).read (drop 1 ts) else otherwise.read ts) ≡ Ok (v, rest)
next_complete p goes otherwise v ts rest (inl (e, s)) = rw e ((goes (first_text ts)).complete v (drop 1 ts) rest s)
next_complete p goes otherwise v ts rest (inr (e, s)) = rw e (otherwise.complete v ts rest s)

abbrev pub next : {A : Type 0} → Pattern → (List ℕ → Form A) → Form A → Form A
next p goes otherwise = record {
  spells = NextSpells p goes otherwise;
  read = λ ts. if begins p ts then (goes (first_text ts)).read (drop 1 ts) else otherwise.read ts;
  sound = next_sound p goes otherwise;
  complete = next_complete p goes otherwise;
  local = next_local p (λ x. (goes x).read) otherwise.read (λ x. (goes x).local) otherwise.local;
}

-- one form, and behind it the form that goes on from its value
abbrev pub SeqSpells : {A B : Type 0} → Form A → (A → Form B) → B → List Token → List Token → Type 0
SeqSpells {A} {B} f g v ts rest = (a : A) × (mid : List Token) × f.spells a ts mid × (g a).spells v mid rest

seq_sound_at : {A B : Type 0} (f : Form A) (g : A → Form B) (v : B) (ts rest : List Token) (r : Read A)
    → f.read ts ≡ r → and_then (λ a mid. (g a).read mid) r ≡ Ok (v, rest) → SeqSpells f g v ts rest
seq_sound_at f g v ts rest (Ok (a, mid)) e h = (a, mid, f.sound a ts mid e, (g a).sound v mid rest h)
seq_sound_at f g v ts rest (Err mid) e h = absurd (refused_sound v mid rest h)

pub seq_sound : {A B : Type 0} (f : Form A) (g : A → Form B) (v : B) (ts rest : List Token)
    → and_then (λ a mid. (g a).read mid) (f.read ts) ≡ Ok (v, rest) → SeqSpells f g v ts rest
seq_sound f g v ts rest h = seq_sound_at f g v ts rest (f.read ts) refl h

pub seq_complete : {A B : Type 0} (f : Form A) (g : A → Form B) (v : B) (ts rest : List Token)
    → SeqSpells f g v ts rest → and_then (λ a mid. (g a).read mid) (f.read ts) ≡ Ok (v, rest)
seq_complete f g v ts rest (a, mid, s, more) = rw (f.complete a ts mid s) ((g a).complete v mid rest more)

abbrev pub seq : {A B : Type 0} → Form A → (A → Form B) → Form B
seq f g = record {
  spells = SeqSpells f g;
  read = λ ts. and_then (λ a rest. (g a).read rest) (f.read ts);
  sound = seq_sound f g;
  complete = seq_complete f g;
  local = seq_local f.read (λ a. (g a).read) f.local (λ a. (g a).local);
}

-- so many times a form that goes on from a state, and then it gives none
abbrev pub TimesSpell : {S : Type 0} → (S → Form (Option S)) → ℕ → S → S → List Token → List Token → Type 0
TimesSpell {S} f zero s v ts rest = (v ≡ s) × (f s).spells None ts rest
TimesSpell {S} f (suc n) s v ts rest =
    (further : S) × (mid : List Token) × (f s).spells (Some further) ts mid × TimesSpell f n further v mid rest

abbrev pub read_further : {S : Type 0} → (S → List Token → Read S) → S → Option S → List Token → Read S
read_further go s None rest = Ok (s, rest)
read_further go s (Some further) rest = go further rest

abbrev pub read_times : {S : Type 0} → (S → Form (Option S)) → ℕ → S → List Token → Read S
read_times f zero s ts = Ok (s, ts)
read_times f (suc n) s ts =
    and_then (read_further (read_times f n) s) ((f s).read ts)

-- what may be repeated: at the end it gives none, and else it takes a token at least
pub record Repeats {S : Type 0} (f : S → Form (Option S)) : Type 0 where
  pub at_the_end : (s : S) → (f s).read [] ≡ Ok (None, [])
  pub shorter : (s further : S) (ts mid : List Token) → (f s).read ts ≡ Ok (Some further, mid) → length mid < length ts

empty_of : (ts : List Token) → length ts ≤ 0 → ts ≡ []
empty_of [] h = refl
empty_of (t ∷ ts) h = absurd (omega arith)

times_sound_at : {S : Type 0} (f : S → Form (Option S)) → Repeats f → (n : ℕ) (s v : S) (ts rest : List Token) → length ts ≤ suc n
    → ((further : S) (mid : List Token) → length mid ≤ n → read_times f n further mid ≡ Ok (v, rest) → (m : ℕ) × TimesSpell f m further v mid rest)
    → (r : Read (Option S)) → (f s).read ts ≡ r → and_then (read_further (read_times f n) s) r ≡ Ok (v, rest)
    → (m : ℕ) × TimesSpell f m s v ts rest
times_sound_at f ok n s v ts rest le again (Ok (None, mid)) e h =
    let d = gives_sound s v mid rest h in
    let mids : mid ≡ rest = sym d.1 in
    let er : (f s).read ts ≡ read_ok None rest = cc in
    (0, (d.0, (f s).sound None ts rest er))
times_sound_at f ok n s v ts rest le again (Ok (Some further, mid)) e h =
    let lt : length mid < length ts = ok.shorter s further ts mid e in
    let more = again further mid (omega arith) h in
    (suc more.0, (further, mid, (f s).sound (Some further) ts mid e, more.1))
times_sound_at f ok n s v ts rest le again (Err mid) e h = absurd (refused_sound v mid rest h)

times_sound : {S : Type 0} (f : S → Form (Option S)) → Repeats f → (n : ℕ) (s v : S) (ts rest : List Token) → length ts ≤ n
    → read_times f n s ts ≡ Ok (v, rest) → (m : ℕ) × TimesSpell f m s v ts rest
times_sound f ok zero s v ts rest le h =
    let et : ts ≡ [] = empty_of ts le in
    let d = gives_sound s v ts rest h in
    let dr : rest ≡ ts = d.1 in
    let end : (f s).read [] ≡ read_ok None [] = ok.at_the_end s in
    let er : (f s).read ts ≡ read_ok None rest = cc in
    (0, (d.0, (f s).sound None ts rest er))
times_sound f ok (suc n) s v ts rest le h =
    times_sound_at f ok n s v ts rest le (λ further mid short read. times_sound f ok n further v mid rest short read) ((f s).read ts) refl h

times_complete : {S : Type 0} (f : S → Form (Option S)) → Repeats f → (m n : ℕ) (s v : S) (ts rest : List Token) → length ts ≤ n
    → TimesSpell f m s v ts rest → read_times f n s ts ≡ Ok (v, rest)
times_complete {S} f ok zero zero s v ts rest le (e, none) =
    let et : ts ≡ [] = empty_of ts le in
    let end : (f s).read [] ≡ read_ok None [] = ok.at_the_end s in
    let er : (f s).read ts ≡ read_ok None rest = (f s).complete None ts rest none in
    let both : read_ok {A = Option S} None [] ≡ read_ok None rest = cc in
    let er2 : rest ≡ [] = (gives_sound None None [] rest both).1 in
    cc
times_complete f ok zero (suc n) s v ts rest le (e, none) = rw ((f s).complete None ts rest none) (cc)
times_complete f ok (suc m) zero s v ts rest le (further, mid, one, more) =
    let lt = ok.shorter s further ts mid ((f s).complete (Some further) ts mid one) in absurd (omega arith)
times_complete f ok (suc m) (suc n) s v ts rest le (further, mid, one, more) =
    let read = (f s).complete (Some further) ts mid one in
    let lt = ok.shorter s further ts mid read in
    rw read (times_complete f ok m n further v mid rest (omega arith) more)

pub many_sound : {S : Type 0} (f : S → Form (Option S)) → Repeats f → (s v : S) (ts rest : List Token)
    → read_times f (length ts) s ts ≡ Ok (v, rest) → (m : ℕ) × TimesSpell f m s v ts rest
many_sound f ok s v ts rest h = times_sound f ok (length ts) s v ts rest (omega arith) h

pub many_complete : {S : Type 0} (f : S → Form (Option S)) → Repeats f → (s v : S) (ts rest : List Token)
    → (m : ℕ) × TimesSpell f m s v ts rest → read_times f (length ts) s ts ≡ Ok (v, rest)
many_complete f ok s v ts rest (m, h) = times_complete f ok m (length ts) s v ts rest (omega arith) h

further_local : {S : Type 0} (go : S → List Token → Read S) → ((s : S) → Local (go s)) → (s : S) (found : Option S)
    → Local (read_further go s found)
further_local go lg s None = gives_local s
further_local go lg s (Some further) = lg further

pub times_local : {S : Type 0} (f : S → Form (Option S)) (n : ℕ) (s : S) → Local (read_times f n s)
times_local f zero s = gives_local s
times_local f (suc n) s =
    seq_local (f s).read (read_further (read_times f n) s) (f s).local (further_local (read_times f n) (times_local f n) s)

-- a loop that may go on as often as there are tokens may go on often enough
enough_at : {S : Type 0} (f : S → Form (Option S)) → Repeats f → (n m : ℕ) (s : S) (ts : List Token) → length ts ≤ suc n → length ts ≤ suc m
    → ((further : S) (mid : List Token) → length mid ≤ n → length mid ≤ m → read_times f n further mid ≡ read_times f m further mid)
    → (r : Read (Option S)) → (f s).read ts ≡ r → and_then (read_further (read_times f n) s) r ≡ and_then (read_further (read_times f m) s) r
enough_at f ok n m s ts ln lm again (Ok (None, mid)) e = refl
enough_at f ok n m s ts ln lm again (Ok (Some further, mid)) e =
    let lt = ok.shorter s further ts mid e in again further mid (omega arith) (omega arith)
enough_at f ok n m s ts ln lm again (Err mid) e = refl

none_left : {S : Type 0} (f : S → Form (Option S)) → Repeats f → (n : ℕ) (s : S) → read_times f n s [] ≡ read_ok s []
none_left f ok zero s = refl
none_left f ok (suc n) s = rw (ok.at_the_end s) refl

enough : {S : Type 0} (f : S → Form (Option S)) → Repeats f → (n m : ℕ) (s : S) (ts : List Token) → length ts ≤ n → length ts ≤ m
    → read_times f n s ts ≡ read_times f m s ts
enough f ok zero m s ts ln lm =
    let e : ts ≡ [] = empty_of ts ln in rw e (sym (none_left f ok m s))
enough f ok (suc n) zero s ts ln lm =
    let e : ts ≡ [] = empty_of ts lm in rw e (none_left f ok (suc n) s)
enough f ok (suc n) (suc m) s ts ln lm =
    enough_at f ok n m s ts ln lm (λ further mid a b. enough f ok n m further mid a b) ((f s).read ts) refl

many_stops : {S : Type 0} (f : S → Form (Option S)) → Repeats f → (s : S) (before : List Token) (t : Token) (rest more : List Token)
    → rest_of (read_times f (length (before ++ t ∷ rest)) s (before ++ t ∷ rest)) ≡ t ∷ rest
    → read_times f (length (before ++ t ∷ more)) s (before ++ t ∷ more)
    ≡ with_rest (t ∷ more) (read_times f (length (before ++ t ∷ rest)) s (before ++ t ∷ rest))
many_stops f ok s before t rest more h =
    let n : ℕ = length (before ++ t ∷ rest) + length (before ++ t ∷ more) in
    let old = enough f ok n (length (before ++ t ∷ rest)) s (before ++ t ∷ rest) (omega arith) (omega arith) in
    let new = enough f ok (length (before ++ t ∷ more)) n s (before ++ t ∷ more) (omega arith) (omega arith) in
    new ∙ (times_local f n s).stops before t rest more (ap rest_of old ∙ h) ∙ ap (with_rest (t ∷ more)) old

pub many_local : {S : Type 0} (f : S → Form (Option S)) → Repeats f → (s : S) → Local (λ ts. read_times f (length ts) s ts)
many_local f ok s = record {
  suffix = λ ts. (times_local f (length ts) s).suffix ts;
  stops = many_stops f ok s;
  blind = λ ts. rw (length-map ts unplaced) ((times_local f (length ts) s).blind ts);
}

-- a form that takes a token at least wherever it gives something
abbrev pub Shortens : {S : Type 0} → Form (Option S) → Type 0
Shortens {S} f = (further : S) (ts mid : List Token) → f.read ts ≡ Ok (Some further, mid) → length mid < length ts

pub none_shortens : {S : Type 0} → Shortens (gives {A = Option S} None)
none_shortens {S} further ts mid h = let e = (gives_sound None (Some further) ts mid h).0 in absurd (cc)

next_shortens_at : {S : Type 0} (p : Pattern) (goes : List ℕ → Form (Option S)) (otherwise : Form (Option S)) → Shortens otherwise
    → (further : S) (ts mid : List Token) (b : Bool) → begins p ts ≡ b
    → (if b then (goes (first_text ts)).read (drop 1 ts) else otherwise.read ts) ≡ Ok (Some further, mid) → length mid < length ts
next_shortens_at p goes otherwise so further [] mid true e h = cc
next_shortens_at p goes otherwise so further (t ∷ ts) mid true e h =
    let s = (goes t.text).local.suffix ts in
    let same : ts ≡ s.0 ++ mid = s.1 ∙ ap (λ (r : Read _). s.0 ++ rest_of r) h in
    omega (arith, ap length same, length-append s.0 mid)
next_shortens_at p goes otherwise so further ts mid false e h = so further ts mid h

pub next_shortens : {S : Type 0} (p : Pattern) (goes : List ℕ → Form (Option S)) (otherwise : Form (Option S)) → Shortens otherwise
    → Shortens (next p goes otherwise)
next_shortens p goes otherwise so further ts mid h = next_shortens_at p goes otherwise so further ts mid (begins p ts) refl h

-- any number of times; each takes a token at least, so there are no more than tokens
abbrev pub many : {S : Type 0} → (f : S → Form (Option S)) → Repeats f → S → Form S
many f ok s = record {
  spells = λ v ts rest. (n : ℕ) × TimesSpell f n s v ts rest;
  read = λ ts. read_times f (length ts) s ts;
  sound = many_sound f ok s;
  complete = many_complete f ok s;
  local = many_local f ok s;
}

-- the one form or the other, as a rule is told
abbrev pub either : {A : Type 0} → Bool → Form A → Form A → Form A
either true f g = f
either false f g = g
