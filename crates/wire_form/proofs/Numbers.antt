-- Numbers of so many bytes, and so many bytes: how they are read, and their laws.
use Rattle.std.proofs.Common.{◌≡◌, ℕ, zero, suc, ◌+◌, ◌-◌, ◌*◌, ◌/◌, ◌^◌, ◌<◌, ◌≤◌, cond, List, [], ◌++◌, length, take, drop, replicate, Ok, Err, refl, sym, ap, ◌∙◌, subst, ⊎_elim, length-append, append-nil, take-append-drop, take_at, drop_at, length-take-le, lt-ltb, le-ltb, pow-suc, arith}
use Rattle.std.proofs.lemmas.Bool.{cases_lt}
use Rattle.std.proofs.lemmas.List.{length-replicate}
use Rattle.std.proofs.lemmas.List.Elements.{All-replicate}
use Rattle.std.proofs.Math.Nat.{mod-add-div, div-lt_iff_lt-mul}
use Rattle.lg_base.specs.Fields.{little, little_text}
use Rattle.lg_base.specs.Reading.{Cursor, bytes_at, number_at, behind, short}
use Rattle.wire_form.specs.Fields.{Field, placed, number, bytes}
use Rattle.wire_form.proofs.Laws.{FoundAt, StopsAt, IsField}
use Rattle.wire_form.proofs.Joined.{found_as, same_found, not_found, same_place, no_cons}

-- ## What the readers answer

pub bytes_at-short : (size : ℕ) (c : Cursor) → length c.rest < size → bytes_at size c ≡ Err (short c)
unfolding bytes_at
bytes_at-short size c h = ap (λ b. cond b (Err (short c)) (Ok (take size c.rest, behind size c))) (lt-ltb (length c.rest) size h)

pub bytes_at-long : (size : ℕ) (c : Cursor) → size ≤ length c.rest → bytes_at size c ≡ Ok (take size c.rest, behind size c)
unfolding bytes_at
bytes_at-long size c h = ap (λ b. cond b (Err (short c)) (Ok (take size c.rest, behind size c))) (le-ltb (length c.rest) size h)

pub number_at-short : (size : ℕ) (c : Cursor) → length c.rest < size → number_at size c ≡ Err (short c)
unfolding number_at
number_at-short size c h = ap (λ b. cond b (Err (short c)) (Ok (little (take size c.rest), behind size c))) (lt-ltb (length c.rest) size h)

pub number_at-long : (size : ℕ) (c : Cursor) → size ≤ length c.rest → number_at size c ≡ Ok (little (take size c.rest), behind size c)
unfolding number_at
number_at-long size c h = ap (λ b. cond b (Err (short c)) (Ok (little (take size c.rest), behind size c))) (le-ltb (length c.rest) size h)

-- ## Digits to the base 256

pub length-little_text : (size n : ℕ) → length (little_text size n) ≡ size
length-little_text zero n = refl
length-little_text (suc size) n = ap suc (length-little_text size (n / 256))

pub little-little_text : (size n : ℕ) → n < 256 ^ size → little (little_text size n) ≡ n
little-little_text zero n h = omega arith
little-little_text (suc size) n h =
    let pos : 0 < 256 = omega arith in
    let wide : n < 256 ^ size * 256 = rw (← pow-suc) h in
    let small : n / 256 < 256 ^ size = (div-lt_iff_lt-mul pos).1 wide in
    let part = little-little_text size (n / 256) small in
    omega (arith, part, mod-add-div n 256)

-- ## Any reader that takes so many bytes

-- A reader that takes so many bytes and makes them into a value, of a field that is spelled by so many.
module _ {A : Type 0} (size : ℕ) (make : List ℕ → A) (f : Field A)
    (at_short : (c : Cursor) → length c.rest < size → f.read c ≡ Err (c.at + length c.rest))
    (at_long : (c : Cursor) → size ≤ length c.rest → f.read c ≡ found_as (make (take size c.rest)) (behind size c))
    (spells : (text : List ℕ) → length text ≡ size → f.Spells (make text) text)
    (sized : (a : A) (text : List ℕ) → f.Spells a text → (length text ≡ size) × (make text ≡ a))
    (written : (a : A) → f.Fits a → f.Spells a (f.write a)) where
  fixed-lawful : IsField f
  fixed-lawful = record {
    found = λ c next a e. ⊎_elim
        (λ h. absurd (not_found a next (c.at + length c.rest) (sym e ∙ at_short c h)))
        (λ h. found_long c next a h (same_found (make (take size c.rest)) a (behind size c) next (sym (at_long c h) ∙ e)))
        (cases_lt (length c.rest) size);
    only = λ at a text rest s. only_long at a text rest (sized a text s);
    stops = λ c n e. ⊎_elim
        (λ h. stops_short c n h (same_place (c.at + length c.rest) n (sym (at_short c h) ∙ e)))
        (λ h. absurd (not_found (make (take size c.rest)) (behind size c) n (sym (at_long c h) ∙ e)))
        (cases_lt (length c.rest) size);
    written = written;
    begins = (make (replicate size 0), replicate size 0, All-replicate (λ x. x < 256) size 0 (omega arith), spells (replicate size 0) (length-replicate {A = ℕ} size 0));
  }
    where
      found_long : (c next : Cursor) (a : A) → size ≤ length c.rest → (make (take size c.rest) ≡ a) × (behind size c ≡ next) → FoundAt f.Spells c next a
      found_long c next a h same =
          subst (λ (b : A). FoundAt f.Spells c next b) same.0 (subst (λ (d : Cursor). FoundAt f.Spells c d (make (take size c.rest))) same.1
          (record {
            text = take size c.rest;
            spelled = spells (take size c.rest) (length-take-le size c.rest h);
            split = sym (take-append-drop size c.rest);
            place = ap (λ n. c.at + n) (sym (length-take-le size c.rest h));
          }))

      only_long : (at : ℕ) (a : A) (text rest : List ℕ) → (length text ≡ size) × (make text ≡ a) →
          f.read (record { at = at; rest = text ++ rest }) ≡ found_as a (record { at = at + length text; rest = rest })
      only_long at a text rest p =
          let one = at_long (record { at = at; rest = text ++ rest }) (omega (arith, p.0, length-append text rest)) in
          one
          ∙ ap (λ (x : List ℕ). found_as (make x) (record { at = at + size; rest = drop size (text ++ rest) })) (take_at text rest size p.0)
          ∙ ap (λ (x : A). found_as x (record { at = at + size; rest = drop size (text ++ rest) })) p.1
          ∙ ap (λ (x : List ℕ). found_as a (record { at = at + size; rest = x })) (drop_at text rest size p.0)
          ∙ ap (λ (n : ℕ). found_as a (record { at = at + n; rest = rest })) (sym p.0)

      whole : (c : Cursor) → length c.rest < size → length c.rest + length {A = ℕ} (replicate (size - length c.rest) 0) ≡ size
      whole c h = omega (arith, length-replicate {A = ℕ} (size - length c.rest) 0)

      stops_short : (c : Cursor) (n : ℕ) → length c.rest < size → c.at + length c.rest ≡ n → StopsAt f.Spells c n
      stops_short c n h e =
          let filled = c.rest ++ replicate (size - length c.rest) 0 in
          record {
            front = c.rest;
            back = [];
            split = sym (append-nil c.rest);
            place = sym e;
            begins = (
              make filled,
              replicate (size - length c.rest) 0,
              All-replicate (λ x. x < 256) (size - length c.rest) 0 (omega arith),
              spells filled (length-append c.rest (replicate (size - length c.rest) 0) ∙ whole c h),
            );
            no_further = λ b bs none. absurd (no_cons b bs none);
          }

pub number-lawful : (size : ℕ) → IsField (number size)
number-lawful size = fixed-lawful size little (number size)
    (λ c h. ap placed (number_at-short size c h))
    (λ c h. ap placed (number_at-long size c h))
    (λ text e. (e, refl))
    (λ n text s. s)
    (λ n h. (length-little_text size n, little-little_text size n h))

pub bytes-lawful : (size : ℕ) → IsField (bytes size)
bytes-lawful size = fixed-lawful size (λ v. v) (bytes size)
    (λ c h. ap placed (bytes_at-short size c h))
    (λ c h. ap placed (bytes_at-long size c h))
    (λ text e. (e, refl))
    (λ v text s. (ap length s.1 ∙ s.0, s.1))
    (λ v h. (h, refl))
