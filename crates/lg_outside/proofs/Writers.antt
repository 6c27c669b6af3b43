-- What reads and writes one after another add up to.
use Rattle.std.proofs.Common.{◌≡◌, ℕ, ◌-◌, List, ◌++◌, length, take, drop, sym, ap, ◌∙◌, subst, append-nil, append_assoc, take-append-drop, Option, None, Some}
use Rattle.std.proofs.lemmas.List.{take_rest}
use Rattle.std.proofs.Math.Seq.{take-append_seam}
use Rattle.std.proofs.KnownBytes.{Appends-trans, Appends-kept}
use Rattle.std.specs.Io.KnownBytes.{Appends, Consumes, Keeps}

-- one piece more was written, and the rest is left
pub one_more : (a b c : Option (List ℕ)) (all done rest : List ℕ) (count : ℕ) → all ≡ done ++ rest → Appends a b done → Appends b c (take count rest)
    → (written : List ℕ) × (all ≡ written ++ take (length rest - count) (drop count rest)) × Appends a c written
one_more a b c all done rest count split before next = (
  done ++ take count rest,
  split ∙ ap (λ l. done ++ l) (sym (take-append-drop count rest)) ∙ sym (append_assoc done (take count rest) (drop count rest))
      ∙ ap (λ l. (done ++ take count rest) ++ l) (sym (take_rest rest count)),
  Appends-trans a b c done (take count rest) before next,
)

-- the pieces so far are the first of all bytes
pub fell_short : (a b c : Option (List ℕ)) (all done rest : List ℕ) → all ≡ done ++ rest → Appends a b done → Keeps b c
    → (count : ℕ) × Appends a c (take count all)
fell_short a b c all done rest split before kept =
    (length done, subst (Appends a c) (sym (ap (take (length done)) split ∙ take-append_seam done rest)) (Appends-kept a b c done before kept))

-- kept bytes, of which some are consumed
pub kept-consumes : (a b c : Option (List ℕ)) (bs : List ℕ) → Keeps a b → Consumes b c bs → Consumes a c bs
kept-consumes None b c bs p q = tt
kept-consumes (Some x) None c bs p q = absurd p
kept-consumes (Some x) (Some y) None bs p q = absurd q
kept-consumes (Some x) (Some y) (Some z) bs p q = sym p ∙ q

-- kept bytes, to which some are added
pub kept-appends : (a b c : Option (List ℕ)) (bs : List ℕ) → Keeps a b → Appends b c bs → Appends a c bs
kept-appends None b c bs p q = tt
kept-appends (Some x) None c bs p q = absurd p
kept-appends (Some x) (Some y) None bs p q = absurd q
kept-appends (Some x) (Some y) (Some z) bs p q = q ∙ ap (λ l. l ++ bs) p

-- known bytes stay where none is added
pub kept-nothing : (a b : Option (List ℕ)) (bs : List ℕ) → Keeps a b → Appends a b (take 0 bs)
kept-nothing None b bs p = tt
kept-nothing (Some x) None bs p = absurd p
kept-nothing (Some x) (Some y) bs p = p ∙ sym (append-nil x)
