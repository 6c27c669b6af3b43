-- The laws of fields that are made of one other: of another value, optional, or one of two.
use Rattle.std.proofs.Common.{◌≡◌, ℕ, ◌+◌, ◌<◌, Bool, true, false, List, [], ◌∷◌, ◌++◌, length, Option, Some, None, IsSomeAnd, Ok, refl, sym, ap, ◌∙◌, subst, ⊎_elim, add-zero, eq-eqb, ◌==◌, arith}
use Rattle.std.proofs.lemmas.List.Elements.{All-nil}
use Rattle.lg_base.specs.Reading.{Cursor}
use Rattle.wire_form.specs.Fields.{Found, Field, already, and_then, made, chosen, optional, counted, follow, ◌▸◌, bytes, byte, mark, skipped}
use Rattle.wire_form.specs.Payloads.{Begins}
use Rattle.wire_form.proofs.Laws.{FoundAt, StopsAt, IsField}
use Rattle.wire_form.proofs.Joined.{found_as, same_found, not_found, and_then_ok, and_then_err, follow-lawful}
use Rattle.wire_form.proofs.Numbers.{bytes-lawful}
use Rattle.wire_form.proofs.OneByte.{byte-lawful}

-- Another spelling relation that holds where the first one does, stops at the same place.
pub stops_as : {A B : Type 0} (S : A → List ℕ → Type 0) (R : B → List ℕ → Type 0) (to : (text : List ℕ) → (a : A) → S a text → (b : B) × R b text)
    (from : (text : List ℕ) → (b : B) → R b text → (a : A) × S a text) (c : Cursor) (n : ℕ) → StopsAt S c n → StopsAt R c n
stops_as {A} {B} S R to from c n s = record {
  front = s.front;
  back = s.back;
  split = s.split;
  place = s.place;
  begins = begun s.begins (to (s.front ++ s.begins.1) s.begins.0 s.begins.3);
  no_further = λ b bs e v more spelled. behind_it b bs e more (from (s.front ++ b ∷ more) v spelled);
}
  where
    begun : (p : Begins S s.front) → ((b : B) × R b (s.front ++ p.1)) → Begins R s.front
    begun p q = (q.0, p.1, p.2, q.1)

    behind_it : (b : ℕ) (bs : List ℕ) → s.back ≡ b ∷ bs → (more : List ℕ) → ((a : A) × S a (s.front ++ b ∷ more)) → ⊥
    behind_it b bs e more q = s.no_further b bs e q.0 more q.1

module _ {A B : Type 0} (to : A → B) (from : B → A) (f : Field A) (is : IsField f) where
  pub made-lawful : IsField (made to from f)
  made-lawful = record {
    found = λ c next b e. found_in c next b (and_then_ok (f.read c) (λ a next. found_as (to a) next) (b, next) e);
    only = λ at b text rest s.
        ap (λ (r : Found A). and_then r (λ a next. found_as (to a) next)) (is.only at s.0 text rest s.1)
        ∙ ap (λ (x : B). found_as x (record { at = at + length text; rest = rest })) s.2;
    stops = λ c n e. ⊎_elim
        (λ p. stops_as f.Spells (made to from f).Spells (λ text a s. (to a, (a, s, refl))) (λ text b s. (s.0, s.1)) c n (is.stops c n p))
        (λ p. absurd (not_found (to p.0) p.1 n p.3))
        (and_then_err (f.read c) (λ a next. found_as (to a) next) n e);
    written = λ b fits. (from b, is.written (from b) fits.0, fits.1);
    begins = begun is.begins;
  }
    where
      begun : Begins f.Spells [] → Begins (made to from f).Spells []
      begun p = (to p.0, p.1, p.2, (p.0, p.3, refl))

      found_in : (c next : Cursor) (b : B) → ((a : A) × (d : Cursor) × (f.read c ≡ Ok (a, d)) × (found_as (to a) d ≡ found_as b next)) →
          FoundAt (made to from f).Spells c next b
      found_in c next b p =
          let same = same_found (to p.0) b p.1 next p.3 in
          let t = is.found c p.1 p.0 p.2 in
          subst (λ (d : Cursor). FoundAt (made to from f).Spells c d b) same.1
          (record { text = t.text; spelled = (p.0, t.spelled, same.0); split = t.split; place = t.place })

pub mark-lawful : (b : ℕ) → b < 256 → IsField (mark b)
mark-lawful b small = made-lawful (λ _. tt) (λ _. b) (byte (λ x. x == b)) (byte-lawful (λ x. x == b) b small (eq-eqb b b refl))

pub skipped-lawful : (size : ℕ) (filler : List ℕ) → IsField (skipped size filler)
skipped-lawful size filler = made-lawful (λ _. tt) (λ _. filler) (bytes size) (bytes-lawful size)

pub ▸-lawful : {A B : Type 0} (f : Field A) (g : Field B) → IsField f → IsField g → IsField (f ▸ g)
▸-lawful f g is are = follow-lawful f (λ _. g) is (λ _. are)

pub counted-lawful : (f : Field ℕ) → IsField f → IsField (counted f)
counted-lawful f is = made-lawful (λ v. v.1) (λ v. (length v, v)) (follow f bytes) (follow-lawful f bytes is bytes-lawful)

pub chosen-lawful : {A : Type 0} (b : Bool) (f g : Field A) → IsField f → IsField g → IsField (chosen b f g)
chosen-lawful true f g one two = one
chosen-lawful false f g one two = two

pub already-lawful : {A : Type 0} (x : A) → IsField (already x)
already-lawful {A} x = record {
  found = λ c next v e. found_in c next v (same_found x v c next e);
  only = λ at v text rest s. only_in at v text rest s.0 s.1;
  stops = λ c n e. absurd (not_found x c n e);
  written = λ v fits. (fits, refl);
  begins = (x, [], All-nil (λ y. y < 256), (refl, refl));
}
  where
    found_in : (c next : Cursor) (v : A) → (x ≡ v) × (c ≡ next) → FoundAt (already x).Spells c next v
    found_in c next v same = record {
      text = [];
      spelled = (sym same.0, refl);
      split = ap (λ (d : Cursor). d.rest) same.1;
      place = omega (arith, ap (λ (d : Cursor). d.at) same.1);
    }

    only_in : (at : ℕ) (v : A) (text rest : List ℕ) → v ≡ x → text ≡ [] →
        (already x).read (record { at = at; rest = text ++ rest }) ≡ found_as v (record { at = at + length text; rest = rest })
    only_in at v text rest e empty =
        subst (λ (w : List ℕ). (already x).read (record { at = at; rest = w ++ rest }) ≡ found_as v (record { at = at + length w; rest = rest })) (sym empty)
        (subst (λ (y : A). found_as x (record { at = at; rest = rest }) ≡ found_as y (record { at = at + 0; rest = rest })) (sym e)
        (ap (λ (n : ℕ). found_as x (record { at = n; rest = rest })) (sym (add-zero at))))

some_spelled : {A : Type 0} (S : A → List ℕ → Type 0) (text : List ℕ) (o : Option A) → IsSomeAnd o (λ a. S a text) → (a : A) × S a text
some_spelled S text (Some a) s = (a, s)
some_spelled S text None s = absurd s

pub optional-lawful : {A : Type 0} (b : Bool) (f : Field A) → IsField f → IsField (optional b f)
optional-lawful {A} true f is = record {
  found = λ c next o e. found_in c next o (and_then_ok (f.read c) (λ a next. found_as (Some a) next) (o, next) e);
  only = λ at o text rest s. only_in at o text rest s;
  stops = λ c n e. ⊎_elim
      (λ p. stops_as f.Spells (optional true f).Spells (λ text a s. (Some a, s)) (λ text o s. some_spelled f.Spells text o s) c n (is.stops c n p))
      (λ p. absurd (not_found (Some p.0) p.1 n p.3))
      (and_then_err (f.read c) (λ a next. found_as (Some a) next) n e);
  written = written;
  begins = begun is.begins;
}
  where
    begun : Begins f.Spells [] → Begins (optional true f).Spells []
    begun p = (Some p.0, p.1, p.2, p.3)

    written : (o : Option A) → (optional true f).Fits o → (optional true f).Spells o ((optional true f).write o)
    written (Some a) fits = is.written a fits
    written None fits = absurd fits

    only_in : (at : ℕ) (o : Option A) (text rest : List ℕ) → (optional true f).Spells o text →
        (optional true f).read (record { at = at; rest = text ++ rest }) ≡ found_as o (record { at = at + length text; rest = rest })
    only_in at (Some a) text rest s = ap (λ (r : Found A). and_then r (λ a next. found_as (Some a) next)) (is.only at a text rest s)
    only_in at None text rest s = absurd s

    found_in : (c next : Cursor) (o : Option A) → ((a : A) × (d : Cursor) × (f.read c ≡ Ok (a, d)) × (found_as (Some a) d ≡ found_as o next)) →
        FoundAt (optional true f).Spells c next o
    found_in c next o p =
        let same = same_found (Some p.0) o p.1 next p.3 in
        let t = is.found c p.1 p.0 p.2 in
        subst (λ (x : Option A). FoundAt (optional true f).Spells c next x) same.0
        (subst (λ (d : Cursor). FoundAt (optional true f).Spells c d (Some p.0)) same.1
        (record { text = t.text; spelled = t.spelled; split = t.split; place = t.place }))
optional-lawful false f is = already-lawful None
