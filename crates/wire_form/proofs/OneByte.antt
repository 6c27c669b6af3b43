-- One byte that passes a test: how it is read, and its laws.
use Rattle.std.proofs.Common.{◌≡◌, ℕ, ◌+◌, ◌<◌, Bool, true, false, cond, List, [], ◌∷◌, ◌++◌, length, IsTrue, Ok, Err, refl, sym, ap, ◌∙◌, subst, add-zero, arith}
use Rattle.std.proofs.lemmas.List.Elements.{All-nil, All-cons}
use Rattle.lg_base.specs.Reading.{Cursor, number_at}
use Rattle.wire_form.specs.Fields.{Found, placed, and_then, byte}
use Rattle.wire_form.specs.Payloads.{Begins}
use Rattle.wire_form.proofs.Laws.{FoundAt, StopsAt, IsField}
use Rattle.wire_form.proofs.Joined.{found_as, same_found, not_found, failed_at, no_cons}
use Rattle.wire_form.proofs.Numbers.{number_at-short, number_at-long}

pub number_at-byte : (at x : ℕ) (xs : List ℕ) → placed (number_at 1 (record { at = at; rest = x ∷ xs })) ≡ found_as x (record { at = at + 1; rest = xs })
number_at-byte at x xs =
    ap placed (number_at-long 1 (record { at = at; rest = x ∷ xs }) (omega arith))
    ∙ ap (λ (n : ℕ). found_as n (record { at = at + 1; rest = xs })) (add-zero x)

pub number_at-none : (at : ℕ) → placed (number_at 1 (record { at = at; rest = [] })) ≡ failed_at at
number_at-none at =
    ap placed (number_at-short 1 (record { at = at; rest = [] }) (omega arith))
    ∙ ap (λ (n : ℕ). failed_at n) (add-zero at)

module _ (test : ℕ → Bool) where
  passes : ℕ → Cursor → ℕ → Cursor → Found ℕ
  passes at c b next = cond (test b) (Ok (b, next)) (Err at)

  byte-cons : (at x : ℕ) (xs : List ℕ) → (byte test).read (record { at = at; rest = x ∷ xs }) ≡ cond (test x) (found_as x (record { at = at + 1; rest = xs })) (failed_at at)
  byte-cons at x xs = ap (λ (r : Found ℕ). and_then r (λ b next. cond (test b) (found_as b next) (failed_at at))) (number_at-byte at x xs)

  byte-nil : (at : ℕ) → (byte test).read (record { at = at; rest = [] }) ≡ failed_at at
  byte-nil at = ap (λ (r : Found ℕ). and_then r (λ b next. cond (test b) (found_as b next) (failed_at at))) (number_at-none at)

  pub byte-lawful : (sample : ℕ) → sample < 256 → IsTrue (test sample) → IsField (byte test)
  byte-lawful sample small passing = record {
    found = λ c next b e. found_in c.at c.rest next b e;
    only = only_in;
    stops = λ c n e. stops_in c.at c.rest n e;
    written = λ b h. (refl, h);
    begins = sampled;
  }
    where
      sampled : Begins (byte test).Spells []
      sampled = (sample, sample ∷ [], All-cons (λ x. x < 256) sample [] small (All-nil (λ x. x < 256)), (refl, passing))

      after_test : (b : Bool) (at x y : ℕ) (xs : List ℕ) (next : Cursor) → cond b (found_as x (record { at = at + 1; rest = xs })) (failed_at at) ≡ found_as y next →
          (b ≡ true) × (x ≡ y) × (record { at = at + 1; rest = xs } ≡ next)
      after_test true at x y xs next e = let same = same_found x y (record { at = at + 1; rest = xs }) next e in (refl, same.0, same.1)
      after_test false at x y xs next e = absurd (not_found y next at (sym e))

      failed_test : (b : Bool) (at x n : ℕ) (xs : List ℕ) → cond b (found_as x (record { at = at + 1; rest = xs })) (failed_at at) ≡ failed_at n →
          (b ≡ false) × (n ≡ at)
      failed_test true at x n xs e = absurd (not_found x (record { at = at + 1; rest = xs }) n e)
      failed_test false at x n xs e = (refl, cc)

      found_in : (at : ℕ) (rest : List ℕ) (next : Cursor) (b : ℕ) → (byte test).read (record { at = at; rest = rest }) ≡ found_as b next →
          FoundAt (byte test).Spells (record { at = at; rest = rest }) next b
      found_in at [] next b e = absurd (not_found b next at (sym e ∙ byte-nil at))
      found_in at (x ∷ xs) next b e =
          let p = after_test (test x) at x b xs next (sym (byte-cons at x xs) ∙ e) in
          subst (λ (y : ℕ). FoundAt (byte test).Spells (record { at = at; rest = x ∷ xs }) next y) p.1
          (subst (λ (d : Cursor). FoundAt (byte test).Spells (record { at = at; rest = x ∷ xs }) d x) p.2
          (record { text = x ∷ []; spelled = (refl, p.0); split = refl; place = refl }))

      only_in : (at b : ℕ) (text rest : List ℕ) → (byte test).Spells b text →
          (byte test).read (record { at = at; rest = text ++ rest }) ≡ found_as b (record { at = at + length text; rest = rest })
      only_in at b text rest s =
          subst (λ (w : List ℕ). (byte test).read (record { at = at; rest = w ++ rest }) ≡ found_as b (record { at = at + length w; rest = rest })) (sym s.0)
          (byte-cons at b rest ∙ ap (λ (t : Bool). cond t (found_as b (record { at = at + 1; rest = rest })) (failed_at at)) s.1)

      refused : (x b a : ℕ) (bs more xs : List ℕ) → test x ≡ false → x ∷ xs ≡ b ∷ bs → b ∷ more ≡ a ∷ [] → test a ≡ true → ⊥
      refused x b a bs more xs no_pass same one pass = cc

      stops_in : (at : ℕ) (rest : List ℕ) (n : ℕ) → (byte test).read (record { at = at; rest = rest }) ≡ failed_at n →
          StopsAt (byte test).Spells (record { at = at; rest = rest }) n
      stops_in at [] n e =
          let p : failed_at at ≡ failed_at n = sym (byte-nil at) ∙ e in
          let same : at ≡ n = cc in
          record {
            front = [];
            back = [];
            split = refl;
            place = omega (arith, same);
            begins = sampled;
            no_further = λ b bs none. absurd (no_cons b bs none);
          }
      stops_in at (x ∷ xs) n e =
          let p = failed_test (test x) at x n xs (sym (byte-cons at x xs) ∙ e) in
          record {
            front = [];
            back = x ∷ xs;
            split = refl;
            place = omega (arith, p.1);
            begins = sampled;
            no_further = λ b bs same a more s. refused x b a bs more xs p.0 same s.0 s.1;
          }
