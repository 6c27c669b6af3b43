-- The laws of the forms of whole payloads.
use Rattle.std.proofs.Common.{◌≡◌, ℕ, ◌+◌, ◌<◌, ◌⊎◌, Bool, true, false, List, [], ◌∷◌, ◌++◌, length, Contains, Option, Result, Ok, Err, refl, sym, ap, ◌∙◌, subst, inl, inr, append_assoc, length-append, arith}
use Rattle.std.proofs.lemmas.List.Elements.{All-nil, All-cons}
use Rattle.lg_base.specs.Reading.{Cursor, Read, first, text_at}
use Rattle.wire_form.specs.Fields.{Field, map_found}
use Rattle.wire_form.specs.Forms.{Form, ◌▹◌, rest, nothing, nothing_at, whole, last_name, name_then, by_first, either}
use Rattle.wire_form.specs.Payloads.{Begins}
use Rattle.wire_form.proofs.Laws.{StopsAt, IsField, IsForm}
use Rattle.wire_form.proofs.Joined.{map_found_ok, map_found_err, lead-lawful, no_cons}
use Rattle.wire_form.proofs.Made.{stops_as}
use Rattle.wire_form.proofs.Names.{HasNoZero, empty, longer, FirstZero, at_zero, nowhere, first_zero, no_zero, none_of, text_at-found, text_at-none}

-- an answer of a whole payload, and a fault
abbrev pub value_as : {A : Type 0} → A → Result A ℕ
value_as a = Ok a

abbrev pub fault_as : {A : Type 0} → ℕ → Result A ℕ
fault_as n = Err n

pub no_fault : {A : Type 0} (a : A) (n : ℕ) → value_as a ≡ Err n → ⊥
no_fault a n e = cc

same_value : {A : Type 0} (a b : A) → value_as a ≡ value_as b → a ≡ b
same_value a b e = cc

pub rest-lawful : IsForm rest
rest-lawful = record {
  found = λ c v e. same_value c.rest v e;
  only = λ c v e. ap (λ (x : List ℕ). value_as x) e;
  stops = λ c n e. absurd (no_fault c.rest n e);
  written = λ v fits. refl;
  begins = ([], [], All-nil (λ x. x < 256), refl);
}

pub nothing-lawful : IsForm nothing
nothing-lawful = record {
  found = λ c v e. found_in c.at c.rest v e;
  only = λ c v e. only_in c.at c.rest v e;
  stops = λ c n e. stops_in c.at c.rest n e;
  written = λ v fits. refl;
  begins = nothing_begins;
}
  where
    nothing_begins : Begins nothing.Spells []
    nothing_begins = (tt, [], All-nil (λ x. x < 256), refl)

    found_in : (at : ℕ) (bytes : List ℕ) (v : Unit {0}) → nothing_at at bytes ≡ Ok v → bytes ≡ []
    found_in at [] v e = refl
    found_in at (b ∷ bytes) v e = absurd (no_fault v at (sym e))

    only_in : (at : ℕ) (bytes : List ℕ) (v : Unit {0}) → bytes ≡ [] → nothing_at at bytes ≡ Ok v
    only_in at bytes v e = ap (λ (x : List ℕ). nothing_at at x) e

    stops_in : (at : ℕ) (bytes : List ℕ) (n : ℕ) → nothing_at at bytes ≡ Err n → StopsAt nothing.Spells (record { at = at; rest = bytes }) n
    stops_in at [] n e = absurd (no_fault tt n e)
    stops_in at (b ∷ bytes) n e =
        let same : at ≡ n = cc in
        record {
          front = [];
          back = b ∷ bytes;
          split = refl;
          place = omega (arith, same);
          begins = nothing_begins;
          no_further = λ x xs eq v more s. absurd (no_cons x more (sym s));
        }

module _ {A B : Type 0} (to : A → B) (from : B → A) (f : Form A) (is : IsForm f) where
  pub whole-lawful : IsForm (whole to from f)
  whole-lawful = record {
    found = λ c b e. found_in c b (map_found_ok to (f.read c) b e);
    only = λ c b s. ap (λ (r : Result A ℕ). map_found to r) (is.only c s.0 s.1) ∙ ap (λ (x : B). value_as x) s.2;
    stops = λ c n e. stops_as f.Spells (whole to from f).Spells (λ text a s. (to a, (a, s, refl))) (λ text b s. (s.0, s.1)) c n
        (is.stops c n (map_found_err to (f.read c) n e));
    written = λ b fits. (from b, is.written (from b) fits.0, fits.1);
    begins = begun is.begins;
  }
    where
      begun : Begins f.Spells [] → Begins (whole to from f).Spells []
      begun p = (to p.0, p.1, p.2, (p.0, p.3, refl))

      found_in : (c : Cursor) (b : B) → ((a : A) × (f.read c ≡ Ok a) × (to a ≡ b)) → (whole to from f).Spells b c.rest
      found_in c b p = (p.0, is.found c p.0 p.1, p.2)

pub ▹-lawful : {A B : Type 0} (f : Field A) (g : Form B) → IsField f → IsForm g → IsForm (f ▹ g)
▹-lawful f g is are = lead-lawful f (λ _. g) is (λ _. are)

pub either-lawful : {A : Type 0} (b : Bool) (f g : Form A) → IsForm f → IsForm g → IsForm (either b f g)
either-lawful true f g one two = one
either-lawful false f g one two = two

module _ {A : Type 0} (f : Option ℕ → Form A) (which : A → Option ℕ) (are : (o : Option ℕ) → IsForm (f o)) (begins : Begins (by_first f which).Spells []) where
  pub by_first-lawful : IsForm (by_first f which)
  by_first-lawful = record {
    found = λ c v e. (are (first c.rest)).found c v e;
    only = λ c v s. (are (first c.rest)).only c v s;
    stops = λ c n e. stops_in c n ((are (first c.rest)).stops c n e);
    written = λ v fits. subst (λ (o : Option ℕ). (f o).Spells v ((f (which v)).write v)) (sym fits.1) ((are (which v)).written v fits.0);
    begins = begins;
  }
    where
      stops_at : (c : Cursor) (n : ℕ) (front back : List ℕ) → c.rest ≡ front ++ back → n ≡ c.at + length front →
          Begins (f (first c.rest)).Spells front →
          ((b : ℕ) (bs : List ℕ) → back ≡ b ∷ bs → (a : A) (more : List ℕ) → (f (first c.rest)).Spells a (front ++ b ∷ more) → ⊥) →
          StopsAt (by_first f which).Spells c n
      stops_at c n [] back split place begun ends = record {
        front = [];
        back = back;
        split = split;
        place = place;
        begins = begins;
        no_further = λ b bs e a more s. ends b bs e a more
            (subst (λ (o : Option ℕ). (f o).Spells a (b ∷ more)) (sym (ap first (split ∙ e))) s);
      }
      stops_at c n (x ∷ front) back split place begun ends = record {
        front = x ∷ front;
        back = back;
        split = split;
        place = place;
        begins = (begun.0, begun.1, begun.2, subst (λ (o : Option ℕ). (f o).Spells begun.0 (x ∷ front ++ begun.1)) (ap first split) begun.3);
        no_further = λ b bs e a more s. ends b bs e a more
            (subst (λ (o : Option ℕ). (f o).Spells a (x ∷ (front ++ b ∷ more))) (sym (ap first split)) s);
      }

      stops_in : (c : Cursor) (n : ℕ) → StopsAt (f (first c.rest)).Spells c n → StopsAt (by_first f which).Spells c n
      stops_in c n s = stops_at c n s.front s.back s.split s.place s.begins s.no_further

-- ## A text whose 00 may be missing

-- one list has one first 00
one_zero : (v w x y : List ℕ) → HasNoZero v → HasNoZero w → v ++ 0 ∷ x ≡ w ++ 0 ∷ y → (v ≡ w) × (x ≡ y)
one_zero [] [] x y h k e = (refl, cc)
one_zero [] (b ∷ w) x y h (longer ne k) e = let p : 0 ≡ b = cc in absurd (ne (sym p))
one_zero (a ∷ v) [] x y (longer ne h) k e = let p : a ≡ 0 = cc in absurd (ne p)
one_zero (a ∷ v) (b ∷ w) x y (longer ne h) (longer me k) e =
    let p : a ≡ b = cc in
    let tails : v ++ 0 ∷ x ≡ w ++ 0 ∷ y = cc in
    let q = one_zero v w x y h k tails in
    let r = q.0 in
    (cc, q.1)

has_zero : (v x : List ℕ) → HasNoZero (v ++ 0 ∷ x) → ⊥
has_zero [] x (longer ne h) = ne refl
has_zero (a ∷ v) x (longer ne h) = has_zero v x h

module _ {B : Type 0} (g : Form B) (last : B) (is : IsForm g) where
  pub last_name-lawful : IsForm (last_name g last)
  last_name-lawful = record {
    found = λ c v e. found_in c.at c.rest v e (first_zero c.rest);
    only = λ c v s. only_in c.at c.rest v s.0 s.1;
    stops = λ c n e. stops_in c.at c.rest n e (first_zero c.rest);
    written = λ v fits. (fits.0, inl (g.write v.1, is.written v.1 fits.1, refl));
    begins = begun [] empty is.begins;
  }
    where
      read_split : (at : ℕ) (bytes text after : List ℕ) → HasNoZero text → bytes ≡ text ++ 0 ∷ after →
          (last_name g last).read (record { at = at; rest = bytes }) ≡ map_found (λ b. (text, b)) (g.read (record { at = at + (length text + 1); rest = after }))
      read_split at bytes text after h e =
          subst (λ (w : List ℕ). name_then g last (record { at = at; rest = w }) (text_at (record { at = at; rest = w }))
          ≡ map_found (λ b. (text, b)) (g.read (record { at = at + (length text + 1); rest = after }))) (sym e)
          (ap (λ (r : Read (List ℕ)). name_then g last (record { at = at; rest = text ++ 0 ∷ after }) r) (text_at-found at text after h))

      read_whole : (at : ℕ) (bytes : List ℕ) → HasNoZero bytes → (last_name g last).read (record { at = at; rest = bytes }) ≡ value_as (bytes, last)
      read_whole at bytes h = ap (λ (r : Read (List ℕ)). name_then g last (record { at = at; rest = bytes }) r) (text_at-none at bytes h)

      begun : (text : List ℕ) → HasNoZero text → Begins g.Spells [] → Begins (last_name g last).Spells []
      begun text h p = (([], p.0), 0 ∷ p.1, All-cons (λ x. x < 256) 0 p.1 (omega arith) p.2, (no_zero [] empty, inl (p.1, p.3, refl)))

      found_in : (at : ℕ) (bytes : List ℕ) (v : List ℕ × B) → (last_name g last).read (record { at = at; rest = bytes }) ≡ value_as v → FirstZero bytes →
          (last_name g last).Spells v bytes
      found_in at bytes v e (at_zero text after h split) =
          let c : Cursor = record { at = at + (length text + 1); rest = after } in
          let p = map_found_ok (λ b. (text, b)) (g.read c) v (sym (read_split at bytes text after h split) ∙ e) in
          subst (λ (w : List ℕ × B). (last_name g last).Spells w bytes) p.2
          (no_zero text h, inl (after, is.found c p.0 p.1, split))
      found_in at bytes v e (nowhere h) =
          subst (λ (w : List ℕ × B). (last_name g last).Spells w bytes) (same_value (bytes, last) v (sym (read_whole at bytes h) ∙ e))
          (no_zero bytes h, inr (refl, refl))

      only_in : (at : ℕ) (bytes : List ℕ) (v : List ℕ × B) → (Contains v.0 0 → ⊥) →
          ((back : List ℕ) × g.Spells v.1 back × (bytes ≡ v.0 ++ 0 ∷ back)) ⊎ ((bytes ≡ v.0) × (v.1 ≡ last)) →
          (last_name g last).read (record { at = at; rest = bytes }) ≡ value_as v
      only_in at bytes v h (inl p) =
          let c : Cursor = record { at = at + (length v.0 + 1); rest = p.0 } in
          read_split at bytes v.0 p.0 (none_of v.0 h) p.2
          ∙ ap (λ (r : Result B ℕ). map_found (λ b. (v.0, b)) r) (is.only c v.1 p.1)
      only_in at bytes v h (inr p) =
          read_whole at bytes (subst (λ (x : List ℕ). HasNoZero x) (sym p.0) (none_of v.0 h))
          ∙ ap (λ (x : List ℕ). value_as (x, last)) p.0
          ∙ ap (λ (x : B). value_as (v.0, x)) (sym p.1)

      refused : (text front more : List ℕ) (b : ℕ) (v : List ℕ × B) → HasNoZero text → ((w : B) → g.Spells w (front ++ b ∷ more) → ⊥) → (Contains v.0 0 → ⊥) →
          ((back : List ℕ) × g.Spells v.1 back × ((text ++ 0 ∷ front) ++ b ∷ more ≡ v.0 ++ 0 ∷ back)) ⊎ (((text ++ 0 ∷ front) ++ b ∷ more ≡ v.0) × (v.1 ≡ last)) → ⊥
      refused text front more b v h ends no_zeros (inl p) =
          let same = one_zero text v.0 (front ++ b ∷ more) p.0 h (none_of v.0 no_zeros) (sym (append_assoc text (0 ∷ front) (b ∷ more)) ∙ p.2) in
          ends v.1 (subst (λ (x : List ℕ). g.Spells v.1 x) (sym same.1) p.1)
      refused text front more b v h ends no_zeros (inr p) =
          has_zero text (front ++ b ∷ more)
          (subst (λ (x : List ℕ). HasNoZero x) (sym p.0 ∙ append_assoc text (0 ∷ front) (b ∷ more)) (none_of v.0 no_zeros))

      stops_behind : (at : ℕ) (bytes text after : List ℕ) (n : ℕ) → HasNoZero text → bytes ≡ text ++ 0 ∷ after →
          StopsAt g.Spells (record { at = at + (length text + 1); rest = after }) n → StopsAt (last_name g last).Spells (record { at = at; rest = bytes }) n
      stops_behind at bytes text after n h split s = record {
        front = text ++ 0 ∷ s.front;
        back = s.back;
        split = split ∙ ap (λ (x : List ℕ). text ++ 0 ∷ x) s.split ∙ sym (append_assoc text (0 ∷ s.front) s.back);
        place = omega (arith, s.place, length-append text (0 ∷ s.front));
        begins = ((text, s.begins.0), s.begins.1, s.begins.2, (no_zero text h, inl (s.front ++ s.begins.1, s.begins.3, append_assoc text (0 ∷ s.front) s.begins.1)));
        no_further = λ b bs e v more spelled. refused text s.front more b v h (λ w x. s.no_further b bs e w more x) spelled.0 spelled.1;
      }

      stops_in : (at : ℕ) (bytes : List ℕ) (n : ℕ) → (last_name g last).read (record { at = at; rest = bytes }) ≡ fault_as n → FirstZero bytes →
          StopsAt (last_name g last).Spells (record { at = at; rest = bytes }) n
      stops_in at bytes n e (nowhere h) = absurd (no_fault (bytes, last) n (sym (read_whole at bytes h) ∙ e))
      stops_in at bytes n e (at_zero text after h split) =
          let c : Cursor = record { at = at + (length text + 1); rest = after } in
          stops_behind at bytes text after n h split
          (is.stops c n (map_found_err (λ b. (text, b)) (g.read c) n (sym (read_split at bytes text after h split) ∙ e)))
