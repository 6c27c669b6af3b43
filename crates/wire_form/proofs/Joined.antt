-- One thing behind another: the laws of `follow` and `lead`, which share where reading stops.
use Rattle.std.proofs.Common.{◌≡◌, ℕ, ◌+◌, ◌<◌, ◌⊎◌, List, [], ◌∷◌, ◌++◌, length, Result, Ok, Err, refl, sym, ap, ◌∙◌, subst, inl, inr, ⊎_elim, append_assoc, length-append, arith}
use Rattle.std.proofs.lemmas.List.Elements.{All-append}
use Rattle.lg_base.specs.Reading.{Cursor}
use Rattle.wire_form.specs.Fields.{Found, Field, and_then, map_found, follow}
use Rattle.wire_form.specs.Forms.{Form, lead}
use Rattle.wire_form.specs.Payloads.{Begins}
use Rattle.wire_form.proofs.Laws.{FoundAt, StopsAt, IsField, IsForm}

pub and_then_ok : {A B : Type 0} (r : Found A) (k : A → Cursor → Result B ℕ) (y : B) → and_then r k ≡ Ok y →
    (a : A) × (next : Cursor) × (r ≡ Ok (a, next)) × (k a next ≡ Ok y)
and_then_ok (Ok x) k y e = (x.0, x.1, refl, e)
and_then_ok (Err n) k y e = absurd cc

pub and_then_err : {A B : Type 0} (r : Found A) (k : A → Cursor → Result B ℕ) (n : ℕ) → and_then r k ≡ Err n →
    (r ≡ Err n) ⊎ ((a : A) × (next : Cursor) × (r ≡ Ok (a, next)) × (k a next ≡ Err n))
and_then_err (Ok x) k n e = inr (x.0, x.1, refl, e)
and_then_err (Err m) k n e = inl cc

pub map_found_ok : {A B : Type 0} (f : A → B) (r : Result A ℕ) (y : B) → map_found f r ≡ Ok y → (a : A) × (r ≡ Ok a) × (f a ≡ y)
map_found_ok f (Ok a) y e = (a, refl, cc)
map_found_ok f (Err n) y e = absurd cc

pub map_found_err : {A B : Type 0} (f : A → B) (r : Result A ℕ) (n : ℕ) → map_found f r ≡ Err n → r ≡ Err n
map_found_err f (Ok a) n e = absurd cc
map_found_err f (Err m) n e = cc

-- a value that is found, and the cursor behind it
abbrev pub found_as : {A : Type 0} → A → Cursor → Found A
found_as a c = Ok (a, c)

pub same_found : {A : Type 0} (v w : A) (c d : Cursor) → found_as v c ≡ found_as w d → (v ≡ w) × (c ≡ d)
same_found {A} v w c d e =
    let p : (v, c) ≡ (w, d) = cc in
    (ap (λ (x : A × Cursor). x.0) p, ap (λ (x : A × Cursor). x.1) p)

pub not_found : {A : Type 0} (v : A) (c : Cursor) (n : ℕ) → found_as v c ≡ Err n → ⊥
not_found v c n e = cc

-- a fault, and its place
abbrev pub failed_at : {A : Type 0} → ℕ → Found A
failed_at n = Err n

pub same_place : {A : Type 0} (m n : ℕ) → failed_at {A = A} m ≡ failed_at n → m ≡ n
same_place m n e = cc

pub no_cons : (b : ℕ) (bs : List ℕ) → [] ≡ b ∷ bs → ⊥
no_cons b bs e = cc

-- where a list is cut in two ways, the second front passes the byte, or ends before it
apart : (u w x y : List ℕ) (b : ℕ) → u ++ b ∷ w ≡ x ++ y →
    ((m : List ℕ) × (x ≡ u ++ b ∷ m)) ⊎ ((m : List ℕ) × (u ≡ x ++ m))
apart [] w [] y b e = inr ([], refl)
apart [] w (x0 ∷ x) y b e = inl (x, cc)
apart (u0 ∷ u) w [] y b e = inr (u0 ∷ u, refl)
apart (u0 ∷ u) w (x0 ∷ x) y b e =
    let head : u0 ≡ x0 = cc in
    let tail : u ++ b ∷ w ≡ x ++ y = cc in
    ⊎_map u0 x0 u x b head (apart u w x y b tail)
  where
    ⊎_map : (u0 x0 : ℕ) (u x : List ℕ) (b : ℕ) → u0 ≡ x0 →
        ((m : List ℕ) × (x ≡ u ++ b ∷ m)) ⊎ ((m : List ℕ) × (u ≡ x ++ m)) →
        ((m : List ℕ) × (x0 ∷ x ≡ u0 ∷ (u ++ b ∷ m))) ⊎ ((m : List ℕ) × (u0 ∷ u ≡ x0 ∷ (x ++ m)))
    ⊎_map u0 x0 u x b head (inl p) = let e = p.1 in inl (p.0, cc)
    ⊎_map u0 x0 u x b head (inr p) = let e = p.1 in inr (p.0, cc)

module _ {A B : Type 0} (f : Field A) (is : IsField f) (G : A → B → List ℕ → Type 0) where
  abbrev pub Joined : A × B → List ℕ → Type 0
  Joined v text = (front back : List ℕ) × f.Spells v.0 front × G v.0 v.1 back × (text ≡ front ++ back)

  -- the first one's spelling at the front of bytes is the one that is read there
  same_front : (a a' : A) (t y x z : List ℕ) → f.Spells a t → f.Spells a' x → t ++ y ≡ x ++ z → (a ≡ a') × (y ≡ z)
  same_front a a' t y x z s s' e =
      let one = is.only 0 a t y s in
      let two = is.only 0 a' x z s' in
      let three = subst (λ (w : List ℕ). f.read (record { at = 0; rest = w }) ≡ Ok (a, record { at = 0 + length t; rest = y })) e one in
      let both = same_found a a' (record { at = 0 + length t; rest = y }) (record { at = 0 + length x; rest = z }) (sym three ∙ two) in
      (both.0, ap (λ (c : Cursor). c.rest) both.1)

  -- what goes on to the first one goes on to both
  goes_on : ((a : A) → Begins (G a) []) → (front : List ℕ) → Begins f.Spells front → Begins Joined front
  goes_on begins front p =
      let q = begins p.0 in (
        (p.0, q.0),
        p.1 ++ q.1,
        All-append (λ x. x < 256) p.1 q.1 p.2 q.2,
        (front ++ p.1, q.1, p.3, q.3, sym (append_assoc front p.1 q.1)),
      )

  -- reading stops in the first one
  stops_first : ((a : A) → Begins (G a) []) → (c : Cursor) (n : ℕ) → f.read c ≡ Err n → StopsAt Joined c n
  stops_first begins c n e =
      let s : StopsAt f.Spells c n = is.stops c n e in
      record {
        front = s.front;
        back = s.back;
        split = s.split;
        place = s.place;
        begins = goes_on begins s.front s.begins;
        no_further = λ b bs eq v more joined.
            ⊎_elim
            (λ p. s.no_further b bs eq v.0 p.0 (subst (λ x. f.Spells v.0 x) p.1 joined.2))
            (λ p. read_it c n e v.0 joined.0 (p.0 ++ s.back) joined.2
            (s.split ∙ ap (λ x. x ++ s.back) p.1 ∙ append_assoc joined.0 p.0 s.back))
            (apart s.front more joined.0 joined.1 b joined.4);
      }
    where
      read_it : (c : Cursor) (n : ℕ) → f.read c ≡ Err n → (a : A) (x z : List ℕ) → f.Spells a x → c.rest ≡ x ++ z → ⊥
      read_it c n e a x z s split =
          let one = subst (λ (w : List ℕ). f.read (record { at = c.at; rest = w }) ≡ Ok (a, record { at = c.at + length x; rest = z })) (sym split) (is.only c.at a x z s) in
          not_found a (record { at = c.at + length x; rest = z }) n (sym one ∙ e)

  -- reading stops in the second one
  stops_second : (c next : Cursor) (a : A) (n : ℕ) → f.read c ≡ Ok (a, next) → StopsAt (G a) next n → StopsAt Joined c n
  stops_second c next a n e s =
      let t : FoundAt f.Spells c next a = is.found c next a e in
      record {
        front = t.text ++ s.front;
        back = s.back;
        split = t.split ∙ ap (λ x. t.text ++ x) s.split ∙ sym (append_assoc t.text s.front s.back);
        place = placed_at t.text s.front t.place s.place;
        begins = ((a, s.begins.0), s.begins.1, s.begins.2, (t.text, s.front ++ s.begins.1, t.spelled, s.begins.3, append_assoc t.text s.front s.begins.1));
        no_further = λ b bs eq v more joined.
            let same = same_front a v.0 t.text (s.front ++ b ∷ more) joined.0 joined.1 t.spelled joined.2
            (sym (append_assoc t.text s.front (b ∷ more)) ∙ joined.4) in
            s.no_further b bs eq v.1 more
            (subst (λ x. G x v.1 (s.front ++ b ∷ more)) (sym same.0) (subst (λ x. G v.0 v.1 x) (sym same.1) joined.3));
      }
    where
      placed_at : (x y : List ℕ) → next.at ≡ c.at + length x → n ≡ next.at + length y → n ≡ c.at + length (x ++ y)
      placed_at x y p q = omega (arith, length-append x y)

module _ {A B : Type 0} (f : Field A) (g : A → Field B) (is : IsField f) (are : (a : A) → IsField (g a)) where
  pub follow-lawful : IsField (follow f g)
  follow-lawful = record {
    found = λ c last v e. found_both c last v (and_then_ok (f.read c) _ (v, last) e);
    only = λ at v text rest s. only_both at v s.0 s.1 text rest s.2 s.3 s.4;
    stops = λ c n e. ⊎_elim
        (λ p. stops_first f is (λ a. (g a).Spells) (λ a. (are a).begins) c n p)
        (λ p. stops_second f is (λ a. (g a).Spells) c p.1 p.0 n p.2 (stops_behind p.0 p.1 n p.3))
        (and_then_err (f.read c) _ n e);
    written = λ v fits. (f.write v.0, (g v.0).write v.1, is.written v.0 fits.0, (are v.0).written v.1 fits.1, refl);
    begins = goes_on f is (λ a. (g a).Spells) (λ a. (are a).begins) [] is.begins;
  }
    where
      k : A → Cursor → Found (A × B)
      k a next = and_then ((g a).read next) (λ b last. Ok ((a, b), last))

      stops_behind : (a : A) (next : Cursor) (n : ℕ) → k a next ≡ Err n → StopsAt (g a).Spells next n
      stops_behind a next n e = ⊎_elim
          (λ p. (are a).stops next n p)
          (λ p. absurd (not_found (a, p.0) p.1 n p.3))
          (and_then_err ((g a).read next) (λ b last. found_as (a, b) last) n e)

      joined_found : (c next last : Cursor) (a : A) (b : B) → FoundAt f.Spells c next a → FoundAt (g a).Spells next last b →
          FoundAt (follow f g).Spells c last (a, b)
      joined_found c next last a b s t = record {
        text = s.text ++ t.text;
        spelled = (s.text, t.text, s.spelled, t.spelled, refl);
        split = s.split ∙ ap (λ x. s.text ++ x) t.split ∙ sym (append_assoc s.text t.text last.rest);
        place = omega (arith, s.place, t.place, length-append s.text t.text);
      }

      found_both : (c last : Cursor) (v : A × B) → ((a : A) × (next : Cursor) × (f.read c ≡ Ok (a, next)) × (k a next ≡ Ok (v, last))) →
          FoundAt (follow f g).Spells c last v
      found_both c last v p =
          let q = and_then_ok ((g p.0).read p.1) (λ b last. found_as (p.0, b) last) (v, last) p.3 in
          let same = same_found (p.0, q.0) v q.1 last q.3 in
          subst (λ (w : A × B). FoundAt (follow f g).Spells c last w) same.0
          (subst (λ (d : Cursor). FoundAt (follow f g).Spells c d (p.0, q.0)) same.1
          (joined_found c p.1 q.1 p.0 q.0 (is.found c p.1 p.0 p.2) ((are p.0).found p.1 q.1 q.0 q.2)))

      only_both : (at : ℕ) (v : A × B) (x y text rest : List ℕ) → f.Spells v.0 x → (g v.0).Spells v.1 y → text ≡ x ++ y →
          (follow f g).read (record { at = at; rest = text ++ rest }) ≡ Ok (v, record { at = at + length text; rest = rest })
      only_both at v x y text rest s t e =
          let one = is.only at v.0 x (y ++ rest) s in
          let two = (are v.0).only (at + length x) v.1 y rest t in
          let size : at + length x + length y ≡ at + length text = omega (arith, length-append x y, ap length e) in
          let split : text ++ rest ≡ x ++ (y ++ rest) = ap (λ (w : List ℕ). w ++ rest) e ∙ append_assoc x y rest in
          subst (λ (w : List ℕ). (follow f g).read (record { at = at; rest = w }) ≡ found_as v (record { at = at + length text; rest = rest })) (sym split)
          (ap (λ (r : Found A). and_then r k) one
          ∙ ap (λ (r : Found B). and_then r (λ b last. found_as (v.0, b) last)) two
          ∙ ap (λ (n : ℕ). found_as v (record { at = n; rest = rest })) size)

module _ {A B : Type 0} (f : Field A) (g : A → Form B) (is : IsField f) (are : (a : A) → IsForm (g a)) where
  pub lead-lawful : IsForm (lead f g)
  lead-lawful = record {
    found = λ c v e. found_both c v (and_then_ok (f.read c) k v e);
    only = λ c v s. only_both c v s.0 s.1 s.2 s.3 s.4;
    stops = λ c n e. ⊎_elim
        (λ p. stops_first f is (λ a. (g a).Spells) (λ a. (are a).begins) c n p)
        (λ p. stops_second f is (λ a. (g a).Spells) c p.1 p.0 n p.2
        ((are p.0).stops p.1 n (map_found_err (λ b. (p.0, b)) ((g p.0).read p.1) n p.3)))
        (and_then_err (f.read c) k n e);
    written = λ v fits. (f.write v.0, (g v.0).write v.1, is.written v.0 fits.0, (are v.0).written v.1 fits.1, refl);
    begins = goes_on f is (λ a. (g a).Spells) (λ a. (are a).begins) [] is.begins;
  }
    where
      k : A → Cursor → Result (A × B) ℕ
      k a next = map_found (λ b. (a, b)) ((g a).read next)

      found_both : (c : Cursor) (v : A × B) → ((a : A) × (next : Cursor) × (f.read c ≡ Ok (a, next)) × (k a next ≡ Ok v)) →
          (lead f g).Spells v c.rest
      found_both c v p =
          let q = map_found_ok (λ b. (p.0, b)) ((g p.0).read p.1) v p.3 in
          let t = is.found c p.1 p.0 p.2 in
          subst (λ (w : A × B). (lead f g).Spells w c.rest) q.2
          (t.text, p.1.rest, t.spelled, (are p.0).found p.1 q.0 q.1, t.split)

      only_both : (c : Cursor) (v : A × B) (x y : List ℕ) → f.Spells v.0 x → (g v.0).Spells v.1 y → c.rest ≡ x ++ y → (lead f g).read c ≡ Ok v
      only_both c v x y s t e =
          subst (λ (w : List ℕ). (lead f g).read (record { at = c.at; rest = w }) ≡ Ok v) (sym e)
          (ap (λ (r : Found A). and_then r k) (is.only c.at v.0 x y s)
          ∙ ap (λ (r : Result B ℕ). map_found (λ b. (v.0, b)) r) ((are v.0).only (record { at = c.at + length x; rest = y }) v.1 t))
