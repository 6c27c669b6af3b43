-- A text ended by 00: how it is read, and its laws.
use Rattle.std.proofs.Common.{◌≡◌, ℕ, zero, suc, ◌+◌, ◌<◌, Bool, true, cond, not, ltb, List, [], ◌∷◌, ◌++◌, length, get_or, drop, Contains, Some, None, Ok, Err, refl, sym, ap, ◌∙◌, subst, ⊎_elim, eqb, append_assoc, append-nil, take_at, drop_at, length-append, lt-ltb, le-ltb, ne_eqb, drop-drop, arith}
use Rattle.std.specs.List.{position_or_len}
use Rattle.std.proofs.lemmas.Bool.{cases_eq}
use Rattle.std.proofs.lemmas.List.Elements.{All-nil, All-cons}
use Rattle.lg_base.specs.Reading.{Cursor, Read, text_at, text_of, behind, short}
use Rattle.wire_form.specs.Fields.{placed, name}
use Rattle.wire_form.proofs.Laws.{FoundAt, StopsAt, IsField}
use Rattle.wire_form.proofs.Joined.{found_as, same_found, not_found, failed_at, same_place, no_cons}

-- ## Lists without 00

pub data HasNoZero : List ℕ → Type 0 where
  empty : HasNoZero []
  longer : {x : ℕ} {xs : List ℕ} → (x ≡ 0 → ⊥) → HasNoZero xs → HasNoZero (x ∷ xs)

-- where the first 00 splits a list, or that there is none
pub data FirstZero (bytes : List ℕ) : Type 0 where
  at_zero : (text rest : List ℕ) → HasNoZero text → bytes ≡ text ++ 0 ∷ rest → FirstZero bytes
  nowhere : HasNoZero bytes → FirstZero bytes

no_zero_at : (xs : List ℕ) → HasNoZero xs → (k : ℕ) → k < length xs → get_or xs k 0 ≡ 0 → ⊥
no_zero_at [] h k lt e = absurd (omega arith)
no_zero_at (x ∷ xs) (longer ne h) zero lt e = ne e
no_zero_at (x ∷ xs) (longer ne h) (suc k) lt e = no_zero_at xs h k (omega arith) e

pub no_zero : (xs : List ℕ) → HasNoZero xs → Contains xs 0 → ⊥
no_zero xs h c = no_zero_at xs h c.0 c.1 c.2

pub none_of : (xs : List ℕ) → (Contains xs 0 → ⊥) → HasNoZero xs
none_of [] h = empty
none_of (x ∷ xs) h = longer (λ e. h (0, omega arith, e)) (none_of xs (λ c. h (suc c.0, omega (arith, c.1), c.2)))

pub first_zero : (xs : List ℕ) → FirstZero xs
first_zero [] = nowhere empty
first_zero (x ∷ xs) = ⊎_elim (λ e. at_zero [] xs empty (ap (λ (y : ℕ). y ∷ xs) e)) (λ ne. shifted x xs ne (first_zero xs)) (cases_eq x 0)
  where
    shifted : (x : ℕ) (xs : List ℕ) → (x ≡ 0 → ⊥) → FirstZero xs → FirstZero (x ∷ xs)
    shifted x xs ne (at_zero text rest h e) = at_zero (x ∷ text) rest (longer ne h) (ap (λ (ys : List ℕ). x ∷ ys) e)
    shifted x xs ne (nowhere h) = nowhere (longer ne h)

not_eqb : (x : ℕ) → (x ≡ 0 → ⊥) → not (eqb x 0) ≡ true
not_eqb x ne = ap not (ne_eqb x 0 ne)

passed : (text rest : List ℕ) → HasNoZero text → position_or_len (λ x. eqb x 0) (text ++ 0 ∷ rest) ≡ length text
passed [] rest h = refl
passed (x ∷ text) rest (longer ne h) =
    let e = passed text rest h in
    rw (not_eqb x ne) (omega (arith, e))

passed_all : (text : List ℕ) → HasNoZero text → position_or_len (λ x. eqb x 0) text ≡ length text
passed_all [] h = refl
passed_all (x ∷ text) (longer ne h) =
    let e = passed_all text h in
    rw (not_eqb x ne) (omega (arith, e))

-- ## What the reader answers

pub text_at-found : (at : ℕ) (text rest : List ℕ) → HasNoZero text →
    text_at (record { at = at; rest = text ++ 0 ∷ rest }) ≡ Ok (text, record { at = at + (length text + 1); rest = rest })
unfolding text_at
text_at-found at text rest h =
    let c : Cursor = record { at = at; rest = text ++ 0 ∷ rest } in
    let size = passed text rest h in
    let within : ltb (length text) (length (text ++ 0 ∷ rest)) ≡ true = lt-ltb (length text) (length (text ++ 0 ∷ rest)) (omega (arith, length-append text (0 ∷ rest))) in
    ap (λ (n : ℕ). text_of c (cond (ltb n (length (text ++ 0 ∷ rest))) (Some n) None)) size
    ∙ ap (λ (b : Bool). text_of c (cond b (Some (length text)) None)) within
    ∙ ap (λ (x : List ℕ). found_text x (behind (length text + 1) c)) (take_at text (0 ∷ rest) (length text) refl)
    ∙ ap (λ (x : List ℕ). found_text text (record { at = at + (length text + 1); rest = x })) (dropped text rest)
  where
    found_text : List ℕ → Cursor → Read (List ℕ)
    found_text x c = Ok (x, c)

    dropped : (text rest : List ℕ) → drop (length text + 1) (text ++ 0 ∷ rest) ≡ rest
    dropped text rest = sym (drop-drop 1 (length text) (text ++ 0 ∷ rest)) ∙ ap (λ (x : List ℕ). drop 1 x) (drop_at text (0 ∷ rest) (length text) refl)

pub text_at-none : (at : ℕ) (text : List ℕ) → HasNoZero text → text_at (record { at = at; rest = text }) ≡ Err (short (record { at = at; rest = text }))
unfolding text_at
text_at-none at text h =
    let c : Cursor = record { at = at; rest = text } in
    ap (λ (n : ℕ). text_of c (cond (ltb n (length text)) (Some n) None)) (passed_all text h)
    ∙ ap (λ (b : Bool). text_of c (cond b (Some (length text)) None)) (le-ltb (length text) (length text) (omega arith))

pub name-lawful : IsField name
name-lawful = record {
  found = λ c next v e. found_in c.at c.rest next v e (first_zero c.rest);
  only = only_in;
  stops = λ c n e. stops_in c.at c.rest n e (first_zero c.rest);
  written = λ v h. (h, refl);
  begins = ([], 0 ∷ [], All-cons (λ x. x < 256) 0 [] (omega arith) (All-nil (λ x. x < 256)), (no_zero [] empty, refl));
}
  where
    read_found : (at : ℕ) (rest text after : List ℕ) → HasNoZero text → rest ≡ text ++ 0 ∷ after →
        name.read (record { at = at; rest = rest }) ≡ found_as text (record { at = at + (length text + 1); rest = after })
    read_found at rest text after h e =
        subst (λ (w : List ℕ). name.read (record { at = at; rest = w }) ≡ found_as text (record { at = at + (length text + 1); rest = after })) (sym e)
        (ap placed (text_at-found at text after h))

    read_none : (at : ℕ) (rest : List ℕ) → HasNoZero rest → name.read (record { at = at; rest = rest }) ≡ failed_at (at + length rest)
    read_none at rest h = ap placed (text_at-none at rest h)

    found_in : (at : ℕ) (rest : List ℕ) (next : Cursor) (v : List ℕ) → name.read (record { at = at; rest = rest }) ≡ found_as v next → FirstZero rest →
        FoundAt name.Spells (record { at = at; rest = rest }) next v
    found_in at rest next v e (at_zero text after h split) =
        let same = same_found text v (record { at = at + (length text + 1); rest = after }) next (sym (read_found at rest text after h split) ∙ e) in
        subst (λ (y : List ℕ). FoundAt name.Spells (record { at = at; rest = rest }) next y) same.0
        (subst (λ (d : Cursor). FoundAt name.Spells (record { at = at; rest = rest }) d text) same.1
        (record {
          text = text ++ 0 ∷ [];
          spelled = (no_zero text h, refl);
          split = split ∙ sym (append_assoc text (0 ∷ []) after);
          place = ap (λ (n : ℕ). at + n) (sym (length-append text (0 ∷ [])));
        }))
    found_in at rest next v e (nowhere h) = absurd (not_found v next (at + length rest) (sym e ∙ read_none at rest h))

    only_in : (at : ℕ) (v text rest : List ℕ) → name.Spells v text →
        name.read (record { at = at; rest = text ++ rest }) ≡ found_as v (record { at = at + length text; rest = rest })
    only_in at v text rest s =
        read_found at (text ++ rest) v rest (none_of v s.0) (ap (λ (w : List ℕ). w ++ rest) s.1 ∙ append_assoc v (0 ∷ []) rest)
        ∙ ap (λ (n : ℕ). found_as v (record { at = at + n; rest = rest })) (sym (ap length s.1 ∙ length-append v (0 ∷ [])))

    stops_in : (at : ℕ) (rest : List ℕ) (n : ℕ) → name.read (record { at = at; rest = rest }) ≡ failed_at n → FirstZero rest →
        StopsAt name.Spells (record { at = at; rest = rest }) n
    stops_in at rest n e (at_zero text after h split) = absurd (not_found text (record { at = at + (length text + 1); rest = after }) n (sym (read_found at rest text after h split) ∙ e))
    stops_in at rest n e (nowhere h) = record {
      front = rest;
      back = [];
      split = sym (append-nil rest);
      place = sym (same_place (at + length rest) n (sym (read_none at rest h) ∙ e));
      begins = (rest, 0 ∷ [], All-cons (λ x. x < 256) 0 [] (omega arith) (All-nil (λ x. x < 256)), (no_zero rest h, refl));
      no_further = λ b bs e. absurd (no_cons b bs e);
    }
