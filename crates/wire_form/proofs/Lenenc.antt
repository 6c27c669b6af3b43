-- A length-encoded integer: how it is read, and its laws.
use Rattle.std.proofs.Common.{◌≡◌, ℕ, suc, ◌+◌, ◌^◌, ◌<◌, ◌≤◌, ◌⊎◌, cond, eqb, List, [], ◌∷◌, ◌++◌, length, Ok, Err, refl, sym, ap, ◌∙◌, subst, inl, inr, add-zero, lt-ltb, le-ltb, ne_eqb, arith}
use Rattle.std.proofs.lemmas.Bool.{cases_lt, cases_eq}
use Rattle.std.proofs.lemmas.List.Elements.{All-nil, All-cons}
use Rattle.lg_base.specs.Fields.{little_text, lenenc_text}
use Rattle.lg_base.specs.Reading.{Cursor, Read, number_at, lenenc_at, lenenc_of, lenenc_from}
use Rattle.lg_base.specs.declared.input.ReadFault.TheVariants.{BadLenenc}
use Rattle.wire_form.specs.Fields.{already, Field, placed, number, lenenc, SpellsLenenc}
use Rattle.wire_form.specs.Payloads.{Begins}
use Rattle.wire_form.proofs.Laws.{FoundAt, StopsAt, IsField}
use Rattle.wire_form.proofs.Joined.{found_as, not_found, failed_at, same_place, no_cons}
use Rattle.wire_form.proofs.Numbers.{number_at-short, number_at-long, number-lawful, little-little_text}
use Rattle.wire_form.proofs.Made.{already-lawful}

-- what a first byte begins: a field behind it, or nothing
data Kind (first : ℕ) : Type 1 where
  begins : (tail : Field ℕ) → IsField tail →
      ((n : ℕ) (text : List ℕ) → tail.Spells n text → SpellsLenenc n (first ∷ text)) →
      ((n : ℕ) (text : List ℕ) → SpellsLenenc n (first ∷ text) → tail.Spells n text) →
      ((c next : Cursor) → placed (lenenc_from first c next) ≡ tail.read next) → Kind first
  neither : ((n : ℕ) (text : List ℕ) → SpellsLenenc n (first ∷ text) → ⊥) →
      ((c next : Cursor) → placed (lenenc_from first c next) ≡ failed_at c.at) → Kind first

-- the one alternative that a first byte leaves
alternative : {P Q R S T : Type 0} → P ⊎ Q ⊎ R ⊎ S → (P → T) → (Q → T) → (R → T) → (S → T) → T
alternative (inl p) f g h k = f p
alternative (inr (inl q)) f g h k = g q
alternative (inr (inr (inl r))) f g h k = h r
alternative (inr (inr (inr s))) f g h k = k s

kind_small : (first : ℕ) → first < 251 → Kind first
kind_small first h = begins (already first) (already-lawful first)
    (λ n text s. small_to n text s)
    (λ n text s. small_from n text s)
    (λ c next. ap (λ b. placed (cond b (Ok (first, next)) (cond (eqb first 252) (number_at 2 next) (cond (eqb first 253) (number_at 3 next)
    (cond (eqb first 254) (number_at 8 next) (Err (BadLenenc c.at))))))) (lt-ltb first 251 h))
  where
    small_to : (n : ℕ) (text : List ℕ) → (already first).Spells n text → SpellsLenenc n (first ∷ text)
    small_to n text s = inl (h, s.0, s.1)

    small_from : (n : ℕ) (text : List ℕ) → SpellsLenenc n (first ∷ text) → (already first).Spells n text
    small_from n text s = alternative s (λ p. (p.1, p.2)) (λ p. absurd (omega (arith, h, p.0))) (λ p. absurd (omega (arith, h, p.0))) (λ p. absurd (omega (arith, h, p.0)))

kind_two : Kind 252
kind_two = begins (number 2) (number-lawful 2) (λ n text s. inr (inl (refl, s.0, s.1)))
    (λ n text s. alternative s (λ p. absurd (omega (arith, p.0))) (λ p. (p.1, p.2)) (λ p. absurd (omega (arith, p.0))) (λ p. absurd (omega (arith, p.0))))
    (λ c next. refl)

kind_three : Kind 253
kind_three = begins (number 3) (number-lawful 3) (λ n text s. inr (inr (inl (refl, s.0, s.1))))
    (λ n text s. alternative s (λ p. absurd (omega (arith, p.0))) (λ p. absurd (omega (arith, p.0))) (λ p. (p.1, p.2)) (λ p. absurd (omega (arith, p.0))))
    (λ c next. refl)

kind_eight : Kind 254
kind_eight = begins (number 8) (number-lawful 8) (λ n text s. inr (inr (inr (refl, s.0, s.1))))
    (λ n text s. alternative s (λ p. absurd (omega (arith, p.0))) (λ p. absurd (omega (arith, p.0))) (λ p. absurd (omega (arith, p.0))) (λ p. (p.1, p.2)))
    (λ c next. refl)

kind_none : (first : ℕ) → 251 ≤ first → (first ≡ 252 → ⊥) → (first ≡ 253 → ⊥) → (first ≡ 254 → ⊥) → Kind first
kind_none first h two three eight = neither
    (λ n text s. alternative s (λ p. omega (arith, h, p.0)) (λ p. two p.0) (λ p. three p.0) (λ p. eight p.0))
    (λ c next. rw (le-ltb first 251 h, ne_eqb first 252 two, ne_eqb first 253 three, ne_eqb first 254 eight))

kind : (first : ℕ) → Kind first
kind first = elim (cases_lt first 251) [
  | inl h ↦ kind_small first h
  | inr h ↦ elim (cases_eq first 252) [
    | inl e ↦ subst (λ (x : ℕ). Kind x) (sym e) kind_two
    | inr two ↦ elim (cases_eq first 253) [
      | inl e ↦ subst (λ (x : ℕ). Kind x) (sym e) kind_three
      | inr three ↦ elim (cases_eq first 254) [
        | inl e ↦ subst (λ (x : ℕ). Kind x) (sym e) kind_eight
        | inr eight ↦ kind_none first h two three eight
      ]
    ]
  ]
]

-- ## The laws, by the first byte

read_first : (at first : ℕ) (xs : List ℕ) → lenenc.read (record { at = at; rest = first ∷ xs })
    ≡ placed (lenenc_from first (record { at = at; rest = first ∷ xs }) (record { at = at + 1; rest = xs }))
unfolding lenenc_at
read_first at first xs =
    let c : Cursor = record { at = at; rest = first ∷ xs } in
    ap (λ (r : Read ℕ). placed (lenenc_of c r)) (number_at-long 1 c (omega arith))
    ∙ ap (λ (x : ℕ). placed (lenenc_from x c (record { at = at + 1; rest = xs }))) (add-zero first)

read_none : (at : ℕ) → lenenc.read (record { at = at; rest = [] }) ≡ failed_at at
unfolding lenenc_at
read_none at =
    let c : Cursor = record { at = at; rest = [] } in
    ap (λ (r : Read ℕ). placed (lenenc_of c r)) (number_at-short 1 c (omega arith))
    ∙ ap (λ (x : ℕ). failed_at x) (add-zero at)

pub lenenc-lawful : IsField lenenc
lenenc-lawful = record {
  found = λ c next n e. found_in c.at c.rest next n e;
  only = λ at n text rest s. only_in at n text rest s;
  stops = λ c n e. stops_in c.at c.rest n e;
  written = written;
  begins = zero_begins;
}
  where
    zero_begins : Begins lenenc.Spells []
    zero_begins = (0, 0 ∷ [], All-cons (λ x. x < 256) 0 [] (omega arith) (All-nil (λ x. x < 256)), inl (omega arith, refl, refl))

    one : (n : ℕ) → n < 251 → lenenc_text n ≡ n ∷ []
    one n small = rw (lt-ltb n 251 small)

    two : (n : ℕ) → 251 ≤ n → n < 65536 → lenenc_text n ≡ 252 ∷ little_text 2 n
    two n big small = rw (le-ltb n 251 big, lt-ltb n 65536 small)

    three : (n : ℕ) → 251 ≤ n → 65536 ≤ n → n < 16777216 → lenenc_text n ≡ 253 ∷ little_text 3 n
    three n big large small = rw (le-ltb n 251 big, le-ltb n 65536 large, lt-ltb n 16777216 small)

    eight : (n : ℕ) → 251 ≤ n → 65536 ≤ n → 16777216 ≤ n → lenenc_text n ≡ 254 ∷ little_text 8 n
    eight n big large huge = rw (le-ltb n 251 big, le-ltb n 65536 large, le-ltb n 16777216 huge)

    written : (n : ℕ) → n < 2 ^ 64 → SpellsLenenc n (lenenc_text n)
    written n h = elim (cases_lt n 251) [
      | inl small ↦ subst (λ (x : List ℕ). SpellsLenenc n x) (sym (one n small)) (inl (small, refl, refl))
      | inr big ↦ elim (cases_lt n 65536) [
        | inl small ↦ subst (λ (x : List ℕ). SpellsLenenc n x) (sym (two n big small)) (inr (inl (refl, refl, little-little_text 2 n small)))
        | inr large ↦ elim (cases_lt n 16777216) [
          | inl small ↦ subst (λ (x : List ℕ). SpellsLenenc n x) (sym (three n big large small)) (inr (inr (inl (refl, refl, little-little_text 3 n small))))
          | inr huge ↦ subst (λ (x : List ℕ). SpellsLenenc n x) (sym (eight n big large huge)) (inr (inr (inr (refl, refl, little-little_text 8 n h))))
        ]
      ]
    ]

    found_kind : (at first : ℕ) (xs : List ℕ) (next : Cursor) (n : ℕ) → Kind first →
        placed (lenenc_from first (record { at = at; rest = first ∷ xs }) (record { at = at + 1; rest = xs })) ≡ found_as n next →
        FoundAt lenenc.Spells (record { at = at; rest = first ∷ xs }) next n
    found_kind at first xs next n (begins tail is to from reads) e =
        let t = is.found (record { at = at + 1; rest = xs }) next n (sym (reads (record { at = at; rest = first ∷ xs }) (record { at = at + 1; rest = xs })) ∙ e) in
        record {
          text = first ∷ t.text;
          spelled = to n t.text t.spelled;
          split = ap (λ (x : List ℕ). first ∷ x) t.split;
          place = omega (arith, t.place);
        }
    found_kind at first xs next n (neither never reads) e =
        absurd (not_found n next at (sym e ∙ reads (record { at = at; rest = first ∷ xs }) (record { at = at + 1; rest = xs })))

    found_in : (at : ℕ) (rest : List ℕ) (next : Cursor) (n : ℕ) → lenenc.read (record { at = at; rest = rest }) ≡ found_as n next →
        FoundAt lenenc.Spells (record { at = at; rest = rest }) next n
    found_in at [] next n e = absurd (not_found n next at (sym e ∙ read_none at))
    found_in at (first ∷ xs) next n e = found_kind at first xs next n (kind first) (sym (read_first at first xs) ∙ e)

    only_kind : (at first n : ℕ) (text rest : List ℕ) → Kind first → SpellsLenenc n (first ∷ text) →
        placed (lenenc_from first (record { at = at; rest = first ∷ (text ++ rest) }) (record { at = at + 1; rest = text ++ rest }))
        ≡ found_as n (record { at = at + suc (length text); rest = rest })
    only_kind at first n text rest (begins tail is to from reads) s =
        reads (record { at = at; rest = first ∷ (text ++ rest) }) (record { at = at + 1; rest = text ++ rest })
        ∙ is.only (at + 1) n text rest (from n text s)
        ∙ ap (λ (k : ℕ). found_as n (record { at = k; rest = rest })) (omega arith)
    only_kind at first n text rest (neither never reads) s = absurd (never n text s)

    only_in : (at n : ℕ) (text rest : List ℕ) → SpellsLenenc n text →
        lenenc.read (record { at = at; rest = text ++ rest }) ≡ found_as n (record { at = at + length text; rest = rest })
    only_in at n [] rest s = absurd s
    only_in at n (first ∷ text) rest s = read_first at first (text ++ rest) ∙ only_kind at first n text rest (kind first) s

    stops_tail : (at first n : ℕ) (xs : List ℕ) (tail : Field ℕ) →
        ((n : ℕ) (text : List ℕ) → tail.Spells n text → SpellsLenenc n (first ∷ text)) →
        ((n : ℕ) (text : List ℕ) → SpellsLenenc n (first ∷ text) → tail.Spells n text) →
        StopsAt tail.Spells (record { at = at + 1; rest = xs }) n → StopsAt lenenc.Spells (record { at = at; rest = first ∷ xs }) n
    stops_tail at first n xs tail to from t = record {
      front = first ∷ t.front;
      back = t.back;
      split = ap (λ (x : List ℕ). first ∷ x) t.split;
      place = omega (arith, t.place);
      begins = (t.begins.0, t.begins.1, t.begins.2, to t.begins.0 (t.front ++ t.begins.1) t.begins.3);
      no_further = λ b bs e a more s. t.no_further b bs e a more (from a (t.front ++ b ∷ more) s);
    }

    head_of : (x y : ℕ) (xs ys : List ℕ) → x ∷ xs ≡ y ∷ ys → x ≡ y
    head_of x y xs ys e = cc

    stops_kind : (at first n : ℕ) (xs : List ℕ) → Kind first →
        placed (lenenc_from first (record { at = at; rest = first ∷ xs }) (record { at = at + 1; rest = xs })) ≡ failed_at n →
        StopsAt lenenc.Spells (record { at = at; rest = first ∷ xs }) n
    stops_kind at first n xs (begins tail is to from reads) e =
        stops_tail at first n xs tail to from
        (is.stops (record { at = at + 1; rest = xs }) n (sym (reads (record { at = at; rest = first ∷ xs }) (record { at = at + 1; rest = xs })) ∙ e))
    stops_kind at first n xs (neither never reads) e =
        let same = same_place at n (sym (reads (record { at = at; rest = first ∷ xs }) (record { at = at + 1; rest = xs })) ∙ e) in
        record {
          front = [];
          back = first ∷ xs;
          split = refl;
          place = omega (arith, same);
          begins = zero_begins;
          no_further = λ b bs eq a more s. never a more (subst (λ (x : ℕ). SpellsLenenc a (x ∷ more)) (sym (head_of first b xs bs eq)) s);
        }

    stops_in : (at : ℕ) (rest : List ℕ) (n : ℕ) → lenenc.read (record { at = at; rest = rest }) ≡ failed_at n →
        StopsAt lenenc.Spells (record { at = at; rest = rest }) n
    stops_in at [] n e =
        let same = same_place at n (sym (read_none at) ∙ e) in
        record {
          front = [];
          back = [];
          split = refl;
          place = omega (arith, same);
          begins = zero_begins;
          no_further = λ b bs none. absurd (no_cons b bs none);
        }
    stops_in at (first ∷ xs) n e = stops_kind at first n xs (kind first) (sym (read_first at first xs) ∙ e)
