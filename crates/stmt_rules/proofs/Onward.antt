-- Forms of which every beginning that they read goes on: what stands before the end or the fault of a
-- reading can be completed to tokens that the form reads to a value, whatever of some kind stands behind.
use Rattle.std.proofs.Common.{◌≡◌, ℕ, zero, suc, Bool, true, false, List, [], ◌∷◌, ◌++◌, length, if◌then◌else◌, Option, Some, None, Ok, Err, refl, sym, ap, ◌∙◌, append_assoc, length-append, arith}
use Rattle.std.proofs.lemmas.List.{append_cancel_right}
use Rattle.stmt_tokens.proofs.Standing.{Stands}
use Rattle.stmt_rules.specs.Forms.{Form, Read, Repeats, and_then, at_end, ends, gives, many, many_complete, many_sound, next, read_further, read_ok, read_times, refused, rest_of, seq, times_local, with_rest}
use Rattle.stmt_rules.specs.Grammar.{just}
use Rattle.stmt_tokens.specs.Patterns.{Pattern, fits}
use Rattle.stmt_tokens.specs.declared.token.Token.{Token}

abbrev pub AllStand : List Token → Type 0
AllStand [] = Unit {0}
AllStand (t ∷ ts) = Stands t × AllStand ts

all_stand : (ts us : List Token) → AllStand ts → AllStand us → AllStand (ts ++ us)
all_stand [] us h k = k
all_stand (t ∷ ts) us (h, hs) k = (h, all_stand ts us hs k)

-- tokens go on to some that the form reads to a value, up to any end of that kind; each is some text
pub record Completes {A : Type 0} (P : List Token → Type 0) (f : Form A) (before : List Token) : Type 0 where
  pub more : List Token
  pub stand : AllStand more
  pub value : A
  pub reads : (u : List Token) → P u → f.read (before ++ (more ++ u)) ≡ Ok (value, u)

-- wherever the form has read a token at least
pub record Onward {A : Type 0} (P : List Token → Type 0) (f : Form A) : Type 0 where
  pub onward : (t : Token) (before rest : List Token) → rest_of (f.read (t ∷ (before ++ rest))) ≡ rest → Completes P f (t ∷ before)

-- and where it has read none
pub record Lively {A : Type 0} (P : List Token → Type 0) (f : Form A) : Type 0 where
  pub start : Completes P f []
  pub further : Onward P f

abbrev pub Always : List Token → Type 0
Always u = Unit {0}

abbrev pub AtEnd : List Token → Type 0
AtEnd u = u ≡ []

pub completed : {A : Type 0} (P : List Token → Type 0) (f : Form A) → Lively P f → (before rest : List Token)
    → rest_of (f.read (before ++ rest)) ≡ rest → Completes P f before
completed P f l [] rest h = l.start
completed P f l (t ∷ before) rest h = l.further.onward t before rest h

too_long : {C : Type 0} (t : Token) (before rest : List Token) → t ∷ (before ++ rest) ≡ rest → C
too_long t before rest h = absurd (omega (arith, ap length h, length-append before rest))

pub refused_onward : {A : Type 0} (P : List Token → Type 0) → Onward P (refused {A = A})
refused_onward P = record { onward = λ t before rest h. too_long t before rest h }

pub gives_onward : {A : Type 0} (P : List Token → Type 0) (a : A) → Onward P (gives a)
gives_onward P a = record { onward = λ t before rest h. too_long t before rest h }

pub ends_onward : {A : Type 0} (P : List Token → Type 0) (a : A) → Onward P (ends a)
ends_onward P a = record { onward = λ t before rest h. too_long t before rest h }

pub gives_lively : {A : Type 0} (P : List Token → Type 0) (a : A) → Lively P (gives a)
gives_lively P a = record { start = record { more = []; stand = tt; value = a; reads = λ u p. refl }; further = gives_onward P a }

ends_read : {A : Type 0} (a : A) (u : List Token) → AtEnd u → at_end a u ≡ Ok (a, u)
ends_read a u h = rw h refl

pub ends_lively : {A : Type 0} (a : A) → Lively AtEnd (ends a)
ends_lively a = record { start = record { more = []; stand = tt; value = a; reads = ends_read a }; further = ends_onward AtEnd a }

next_completes : {A : Type 0} (P : List Token → Type 0) (p : Pattern) (goes : List ℕ → Form A) (otherwise : Form A)
    → ((x : List ℕ) → Lively P (goes x)) → Onward P otherwise → (t : Token) (before rest : List Token) (b : Bool) → fits p t ≡ b
    → rest_of (if b then (goes t.text).read (before ++ rest) else otherwise.read (t ∷ (before ++ rest))) ≡ rest
    → Completes P (next p goes otherwise) (t ∷ before)
next_completes P p goes otherwise lg lo t before rest true e h =
    let c : Completes P (goes t.text) before = completed P (goes t.text) (lg t.text) before rest h in
    record { more = c.more; stand = c.stand; value = c.value; reads = λ u pu. rw e (c.reads u pu) }
next_completes P p goes otherwise lg lo t before rest false e h =
    let c : Completes P otherwise (t ∷ before) = lo.onward t before rest h in
    record { more = c.more; stand = c.stand; value = c.value; reads = λ u pu. rw e (c.reads u pu) }

pub next_onward : {A : Type 0} (P : List Token → Type 0) (p : Pattern) (goes : List ℕ → Form A) (otherwise : Form A)
    → ((x : List ℕ) → Lively P (goes x)) → Onward P otherwise → Onward P (next p goes otherwise)
next_onward P p goes otherwise lg lo =
    record { onward = λ t before rest h. next_completes P p goes otherwise lg lo t before rest (fits p t) refl h }

-- a token that fits begins what the form can read
pub next_lively : {A : Type 0} (P : List Token → Type 0) (p : Pattern) (goes : List ℕ → Form A) (otherwise : Form A)
    (t : Token) → Stands t → fits p t ≡ true → ((x : List ℕ) → Lively P (goes x)) → Onward P otherwise → Lively P (next p goes otherwise)
next_lively P p goes otherwise t k e lg lo =
    let c : Completes P (goes t.text) [] = (lg t.text).start in
    record {
      start = record { more = t ∷ c.more; stand = (k, c.stand); value = c.value; reads = λ u pu. rw e (c.reads u pu) };
      further = next_onward P p goes otherwise lg lo;
    }

pub just_lively : {A : Type 0} (P : List Token → Type 0) (p : Pattern) (f : Form A) (t : Token) → Stands t → fits p t ≡ true → Lively P f → Lively P (just p f)
just_lively P p f t k e l = next_lively P p (λ _. f) refused t k e (λ _. l) (refused_onward P)

-- what the second form may begin with, so that the first one ends before it
pub record Follows {A B : Type 0} (P Q : List Token → Type 0) (g : A → Form B) (a : A) : Type 0 where
  pub next : List Token
  pub stand : AllStand next
  pub value : B
  pub reads : (u : List Token) → Q u → (g a).read (next ++ u) ≡ Ok (value, u)
  pub ends : (u : List Token) → Q u → P (next ++ u)

then_completes : {A B : Type 0} (P Q : List Token → Type 0) (f : Form A) (g : A → Form B) → ((a : A) → Follows P Q g a)
    → (before : List Token) → Completes P f before → Completes Q (seq f g) before
then_completes P Q f g w before c =
    let next : Follows P Q g c.value = w c.value in
    record {
      more = c.more ++ next.next;
      stand = all_stand c.more next.next c.stand next.stand;
      value = next.value;
      reads = λ u q.
          let first : f.read (before ++ (c.more ++ (next.next ++ u))) ≡ Ok (c.value, next.next ++ u) = c.reads (next.next ++ u) (next.ends u q) in
          let split : (c.more ++ next.next) ++ u ≡ c.more ++ (next.next ++ u) = append_assoc c.more next.next u in
          rw (split, first) (next.reads u q);
    }

-- the second form has read a token: the first one ends before it, whatever stands behind
second_completes : {A B : Type 0} (P Q : List Token → Type 0) (f : Form A) (g : A → Form B) (all : List Token) (a : A) (s1 : List Token) (t2 : Token) (b2 rest : List Token)
    → f.read (s1 ++ (t2 ∷ (b2 ++ rest))) ≡ read_ok a (t2 ∷ (b2 ++ rest)) → all ≡ s1 ++ (t2 ∷ b2)
    → Completes Q (g a) (t2 ∷ b2) → Completes Q (seq f g) all
second_completes P Q f g all a s1 t2 b2 rest h e c = record {
  more = c.more;
  stand = c.stand;
  value = c.value;
  reads = λ u q.
      let moved : f.read (s1 ++ (t2 ∷ (b2 ++ (c.more ++ u)))) ≡ read_ok a (t2 ∷ (b2 ++ (c.more ++ u))) =
      f.local.stops s1 t2 (b2 ++ rest) (b2 ++ (c.more ++ u)) (ap rest_of h) ∙ ap (with_rest (t2 ∷ (b2 ++ (c.more ++ u)))) h in
      let split : all ++ (c.more ++ u) ≡ s1 ++ (t2 ∷ (b2 ++ (c.more ++ u))) = ap (λ (xs : List Token). xs ++ (c.more ++ u)) e ∙ append_assoc s1 (t2 ∷ b2) (c.more ++ u) in
      rw (split, moved) (c.reads u q);
}

seq_behind : {A B : Type 0} (P Q : List Token → Type 0) (f : Form A) (g : A → Form B) → Onward P f → ((a : A) → Onward Q (g a)) → ((a : A) → Follows P Q g a)
    → (t : Token) (before rest : List Token) (a : A) (mid s1 s2 : List Token) → f.read (t ∷ (before ++ rest)) ≡ read_ok a mid
    → t ∷ (before ++ rest) ≡ s1 ++ mid → mid ≡ s2 ++ rest → rest_of ((g a).read mid) ≡ rest → Completes Q (seq f g) (t ∷ before)
seq_behind P Q f g lf lg w t before rest a mid s1 [] e es em h =
    let hr : rest_of (f.read (t ∷ (before ++ rest))) ≡ rest = ap rest_of e ∙ em in
    then_completes P Q f g w (t ∷ before) (lf.onward t before rest hr)
seq_behind P Q f g lf lg w t before rest a mid s1 (t2 ∷ b2) e es em h =
    let all : (t ∷ before) ++ rest ≡ (s1 ++ (t2 ∷ b2)) ++ rest = es ∙ ap (λ (xs : List Token). s1 ++ xs) em ∙ sym (append_assoc s1 (t2 ∷ b2) rest) in
    let cut : t ∷ before ≡ s1 ++ (t2 ∷ b2) = append_cancel_right (t ∷ before) (s1 ++ (t2 ∷ b2)) rest all in
    let there : f.read (s1 ++ (t2 ∷ (b2 ++ rest))) ≡ read_ok a (t2 ∷ (b2 ++ rest)) =
    ap f.read (sym (es ∙ ap (λ (xs : List Token). s1 ++ xs) em)) ∙ e ∙ ap (read_ok a) em in
    let hg : rest_of ((g a).read (t2 ∷ (b2 ++ rest))) ≡ rest = rw em at h in
    second_completes P Q f g (t ∷ before) a s1 t2 b2 rest there cut ((lg a).onward t2 b2 rest hg)

seq_completes : {A B : Type 0} (P Q : List Token → Type 0) (f : Form A) (g : A → Form B) → Onward P f → ((a : A) → Onward Q (g a)) → ((a : A) → Follows P Q g a)
    → (t : Token) (before rest : List Token) (r : Read A) → f.read (t ∷ (before ++ rest)) ≡ r
    → rest_of (and_then (λ a mid. (g a).read mid) r) ≡ rest → Completes Q (seq f g) (t ∷ before)
seq_completes P Q f g lf lg w t before rest (Err mid) e h =
    let hr : rest_of (f.read (t ∷ (before ++ rest))) ≡ rest = ap rest_of e ∙ h in
    then_completes P Q f g w (t ∷ before) (lf.onward t before rest hr)
seq_completes {A} P Q f g lf lg w t before rest (Ok (a, mid)) e h =
    let s1 = f.local.suffix (t ∷ (before ++ rest)) in
    let s2 = (g a).local.suffix mid in
    let es : t ∷ (before ++ rest) ≡ s1.0 ++ mid = s1.1 ∙ ap (λ (r : Read A). s1.0 ++ rest_of r) e in
    let em : mid ≡ s2.0 ++ rest = s2.1 ∙ ap (λ (xs : List Token). s2.0 ++ xs) h in
    seq_behind P Q f g lf lg w t before rest a mid s1.0 s2.0 e es em h

-- one form and the next one, where the next one can begin with what ends the first
pub seq_before : {A B : Type 0} (P Q : List Token → Type 0) (f : Form A) (g : A → Form B)
    → Lively P f → ((a : A) → Onward Q (g a)) → ((a : A) → Follows P Q g a) → Lively Q (seq f g)
seq_before P Q f g lf lg w = record {
  start = then_completes P Q f g w [] lf.start;
  further = record { onward = λ t before rest h. seq_completes P Q f g lf.further lg w t before rest (f.read (t ∷ (before ++ rest))) refl h };
}

follows_always : {A B : Type 0} (Q : List Token → Type 0) (g : A → Form B) (a : A) → Lively Q (g a) → Follows Always Q g a
follows_always Q g a l = record { next = l.start.more; stand = l.start.stand; value = l.start.value; reads = λ u q. l.start.reads u q; ends = λ u q. tt }

-- one form that can end before anything, and the next one
pub seq_lively : {A B : Type 0} (Q : List Token → Type 0) (f : Form A) (g : A → Form B)
    → Lively Always f → ((a : A) → Lively Q (g a)) → Lively Q (seq f g)
seq_lively Q f g lf lg = seq_before Always Q f g lf (λ a. (lg a).further) (λ a. follows_always Q g a (lg a))

-- what no further time begins with
abbrev pub Stops : {S : Type 0} → (S → Form (Option S)) → List Token → Type 0
Stops {S} f u = (s : S) → (f s).read u ≡ Ok (None, u)

many_stop : {S : Type 0} (f : S → Form (Option S)) (ok : Repeats f) (s : S) (ts rest : List Token)
    → (f s).read ts ≡ read_ok None rest → (many f ok s).read ts ≡ Ok (s, rest)
many_stop f ok s ts rest h = many_complete f ok s s ts rest (zero, (refl, (f s).sound None ts rest h))

many_step : {S : Type 0} (f : S → Form (Option S)) (ok : Repeats f) (s further v : S) (ts u rest : List Token)
    → (f s).read ts ≡ read_ok (Some further) u → (many f ok further).read u ≡ Ok (v, rest) → (many f ok s).read ts ≡ Ok (v, rest)
many_step f ok s further v ts u rest h k =
    let times = many_sound f ok further v u rest k in
    many_complete f ok s v ts rest (suc times.0, (further, u, (f s).sound (Some further) ts u h, times.1))

-- the time that has begun is the last one
last_time : {S : Type 0} (f : S → Form (Option S)) (ok : Repeats f) (s : S) (before more : List Token) (value : Option S) → AllStand more
    → ((u : List Token) → Always u → (f s).read (before ++ (more ++ u)) ≡ Ok (value, u)) → Completes (Stops f) (many f ok s) before
last_time f ok s before more None k h =
    record { more = more; stand = k; value = s; reads = λ u q. many_stop f ok s (before ++ (more ++ u)) u (h u tt) }
last_time f ok s before more (Some further) k h =
    record {
      more = more;
      stand = k;
      value = further;
      reads = λ u q. many_step f ok s further further (before ++ (more ++ u)) u u (h u tt) (many_stop f ok further u u (q further));
    }

last_completes : {S : Type 0} (f : S → Form (Option S)) (ok : Repeats f) (s : S) (before : List Token)
    → Completes Always (f s) before → Completes (Stops f) (many f ok s) before
last_completes f ok s before c = last_time f ok s before c.more c.value c.stand c.reads

one_more_completes : {S : Type 0} (f : S → Form (Option S)) (ok : Repeats f) (s further : S) (all s1 : List Token) (t2 : Token) (b2 rest : List Token)
    → (f s).read (s1 ++ (t2 ∷ (b2 ++ rest))) ≡ read_ok (Some further) (t2 ∷ (b2 ++ rest)) → all ≡ s1 ++ (t2 ∷ b2)
    → Completes (Stops f) (many f ok further) (t2 ∷ b2) → Completes (Stops f) (many f ok s) all
one_more_completes f ok s further all s1 t2 b2 rest h e c = record {
  more = c.more;
  stand = c.stand;
  value = c.value;
  reads = λ u q.
      let moved : (f s).read (s1 ++ (t2 ∷ (b2 ++ (c.more ++ u)))) ≡ read_ok (Some further) (t2 ∷ (b2 ++ (c.more ++ u))) =
      (f s).local.stops s1 t2 (b2 ++ rest) (b2 ++ (c.more ++ u)) (ap rest_of h) ∙ ap (with_rest (t2 ∷ (b2 ++ (c.more ++ u)))) h in
      let split : all ++ (c.more ++ u) ≡ s1 ++ (t2 ∷ (b2 ++ (c.more ++ u))) = ap (λ (xs : List Token). xs ++ (c.more ++ u)) e ∙ append_assoc s1 (t2 ∷ b2) (c.more ++ u) in
      rw split (many_step f ok s further c.value (s1 ++ (t2 ∷ (b2 ++ (c.more ++ u)))) (t2 ∷ (b2 ++ (c.more ++ u))) u moved (c.reads u q));
}

times_behind : {S : Type 0} (f : S → Form (Option S)) (ok : Repeats f) → ((s : S) → Onward Always (f s)) → (n : ℕ)
    → ((s : S) (t : Token) (before rest : List Token) → rest_of (read_times f n s (t ∷ (before ++ rest))) ≡ rest → Completes (Stops f) (many f ok s) (t ∷ before))
    → (s further : S) (t : Token) (before rest mid s1 s2 : List Token) → (f s).read (t ∷ (before ++ rest)) ≡ read_ok (Some further) mid
    → t ∷ (before ++ rest) ≡ s1 ++ mid → mid ≡ s2 ++ rest → rest_of (read_times f n further mid) ≡ rest → Completes (Stops f) (many f ok s) (t ∷ before)
times_behind f ok lf n again s further t before rest mid s1 [] e es em h =
    let hr : rest_of ((f s).read (t ∷ (before ++ rest))) ≡ rest = ap rest_of e ∙ em in
    last_completes f ok s (t ∷ before) ((lf s).onward t before rest hr)
times_behind f ok lf n again s further t before rest mid s1 (t2 ∷ b2) e es em h =
    let all : (t ∷ before) ++ rest ≡ (s1 ++ (t2 ∷ b2)) ++ rest = es ∙ ap (λ (xs : List Token). s1 ++ xs) em ∙ sym (append_assoc s1 (t2 ∷ b2) rest) in
    let cut : t ∷ before ≡ s1 ++ (t2 ∷ b2) = append_cancel_right (t ∷ before) (s1 ++ (t2 ∷ b2)) rest all in
    let there : (f s).read (s1 ++ (t2 ∷ (b2 ++ rest))) ≡ read_ok (Some further) (t2 ∷ (b2 ++ rest)) =
    ap (f s).read (sym (es ∙ ap (λ (xs : List Token). s1 ++ xs) em)) ∙ e ∙ ap (read_ok (Some further)) em in
    let hg : rest_of (read_times f n further (t2 ∷ (b2 ++ rest))) ≡ rest = rw em at h in
    one_more_completes f ok s further (t ∷ before) s1 t2 b2 rest there cut (again further t2 b2 rest hg)

times_at : {S : Type 0} (f : S → Form (Option S)) (ok : Repeats f) → ((s : S) → Onward Always (f s)) → (n : ℕ)
    → ((s : S) (t : Token) (before rest : List Token) → rest_of (read_times f n s (t ∷ (before ++ rest))) ≡ rest → Completes (Stops f) (many f ok s) (t ∷ before))
    → (s : S) (t : Token) (before rest : List Token) (r : Read (Option S)) → (f s).read (t ∷ (before ++ rest)) ≡ r
    → rest_of (and_then (read_further (read_times f n) s) r) ≡ rest → Completes (Stops f) (many f ok s) (t ∷ before)
times_at f ok lf n again s t before rest (Err mid) e h =
    let hr : rest_of ((f s).read (t ∷ (before ++ rest))) ≡ rest = ap rest_of e ∙ h in
    last_completes f ok s (t ∷ before) ((lf s).onward t before rest hr)
times_at f ok lf n again s t before rest (Ok (None, mid)) e h =
    let hr : rest_of ((f s).read (t ∷ (before ++ rest))) ≡ rest = ap rest_of e ∙ h in
    last_completes f ok s (t ∷ before) ((lf s).onward t before rest hr)
times_at {S} f ok lf n again s t before rest (Ok (Some further, mid)) e h =
    let s1 = (f s).local.suffix (t ∷ (before ++ rest)) in
    let s2 = (times_local f n further).suffix mid in
    let es : t ∷ (before ++ rest) ≡ s1.0 ++ mid = s1.1 ∙ ap (λ (r : Read (Option S)). s1.0 ++ rest_of r) e in
    let em : mid ≡ s2.0 ++ rest = s2.1 ∙ ap (λ (xs : List Token). s2.0 ++ xs) h in
    times_behind f ok lf n again s further t before rest mid s1.0 s2.0 e es em h

times_onward : {S : Type 0} (f : S → Form (Option S)) (ok : Repeats f) → ((s : S) → Onward Always (f s)) → (n : ℕ)
    → (s : S) (t : Token) (before rest : List Token) → rest_of (read_times f n s (t ∷ (before ++ rest))) ≡ rest → Completes (Stops f) (many f ok s) (t ∷ before)
times_onward f ok lf zero s t before rest h = too_long t before rest h
times_onward f ok lf (suc n) s t before rest h =
    times_at f ok lf n (times_onward f ok lf n) s t before rest ((f s).read (t ∷ (before ++ rest))) refl h

pub many_lively : {S : Type 0} (f : S → Form (Option S)) (ok : Repeats f) → ((s : S) → Onward Always (f s)) → (s : S) → Lively (Stops f) (many f ok s)
many_lively f ok lf s = record {
  start = record { more = []; stand = tt; value = s; reads = λ u q. many_stop f ok s u u (q s) };
  further = record { onward = λ t before rest h. times_onward f ok lf (length (t ∷ (before ++ rest))) s t before rest h };
}
