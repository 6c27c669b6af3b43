-- What the laws of a form say of a whole payload, and of a call that answers what the form's reader finds.
use Rattle.std.proofs.Common.{◌≡◌, ℕ, suc, ◌+◌, ◌-◌, ◌<◌, ◌≤◌, List, [], ◌∷◌, ◌++◌, length, take, Option, Some, None, IfSome, Result, Ok, Err, refl, sym, ap, ◌∙◌, subst, append_assoc, length-append, take_at, arith}
use Rattle.std.proofs.Math.Seq.{take-append-add}
use Rattle.wire_form.specs.Forms.{Form}
use Rattle.wire_form.specs.Payloads.{Begins, IsFaultPlace, SpellsOne, start, Gives, IsReadAs}
use Rattle.wire_form.proofs.Laws.{StopsAt, IsForm}
use Rattle.wire_form.proofs.Whole.{value_as, no_fault}

module _ {A : Type 0} (f : Form A) (is : IsForm f) where
  -- No payload spells two values.
  pub one_value : SpellsOne f.Spells
  one_value payload v w s t = same v w (sym (is.only (start payload) v s) ∙ is.only (start payload) w t)
    where
      same : (v w : A) → value_as v ≡ value_as w → v ≡ w
      same v w e = cc

  -- a front that is longer than where reading stopped begins no spelling
  no_longer : (payload front back : List ℕ) (n : ℕ) → payload ≡ front ++ back → length front < n → n ≤ length payload →
      ((b : ℕ) (bs : List ℕ) → back ≡ b ∷ bs → (a : A) (more : List ℕ) → f.Spells a (front ++ b ∷ more) → ⊥) → Begins f.Spells (take n payload) → ⊥
  no_longer payload front [] n split longer within ends p = absurd (omega (arith, longer, within, ap length split, length-append front []))
  no_longer payload front (b ∷ bs) n split longer within ends p =
      ends b bs refl p.0 (take (n - length front - 1) bs ++ p.1) (subst (λ (x : List ℕ). f.Spells p.0 x) (cut ∙ append_assoc front (b ∷ take (n - length front - 1) bs) p.1) p.3)
    where
      parted : (n m : ℕ) → m < n → n ≡ m + suc (n - m - 1)
      parted n m h = omega arith

      cut : take n payload ++ p.1 ≡ (front ++ b ∷ take (n - length front - 1) bs) ++ p.1
      cut = ap (λ (x : List ℕ). x ++ p.1)
          (ap (λ (x : List ℕ). take n x) split
          ∙ ap (λ (m : ℕ). take m (front ++ b ∷ bs)) (parted n (length front) longer)
          ∙ take-append-add front (b ∷ bs) (suc (n - length front - 1)))

  pub fault_place : (payload : List ℕ) (at : ℕ) → f.read (start payload) ≡ Err at → IsFaultPlace f.Spells payload at
  fault_place payload at e =
      let s : StopsAt f.Spells (start payload) at = is.stops (start payload) at e in
      let size : length s.front ≡ at = omega (arith, s.place) in
      record {
        within = omega (arith, size, ap length s.split, length-append s.front s.back);
        begins = subst (λ (x : List ℕ). Begins f.Spells x) (sym (ap (λ (x : List ℕ). take at x) s.split ∙ take_at s.front s.back at size)) s.begins;
        longest = λ n longer within p. no_longer payload s.front s.back n s.split (omega (arith, size)) within s.no_further p;
        none = λ a spelled. no_fault a at (sym (is.only (start payload) a spelled) ∙ e);
      }

  -- A call that answers what the form's reader finds, reads the payload as the form says.
  pub read_as : {E : Type 0} (fault_of : E → Option ℕ) (payload : List ℕ) (result : Result A E) →
      Gives fault_of result (f.read (start payload)) → IsReadAs fault_of f.Spells payload result
  read_as {E} fault_of payload (Ok v) gives = record {
    found = is.found (start payload) v gives;
    only = λ w spelled. same v w (sym gives ∙ is.only (start payload) w spelled);
    fault = tt;
  }
    where
      same : (v w : A) → value_as v ≡ value_as w → v ≡ w
      same v w e = cc
  read_as {E} fault_of payload (Err e) gives = by_fault (fault_of e) gives refl
    where
      by_fault : (o : Option ℕ) → IfSome o (λ at. f.read (start payload) ≡ Err at) → fault_of e ≡ o → IsReadAs fault_of f.Spells payload (Err e)
      by_fault (Some at) gives is_at = record {
        found = tt;
        only = λ w spelled. absurd (no_fault w at (sym (is.only (start payload) w spelled) ∙ gives));
        fault = subst (λ (o : Option ℕ). IfSome o (IsFaultPlace f.Spells payload)) (sym is_at) (fault_place payload at gives);
      }
      by_fault None gives is_none = record {
        found = tt;
        only = λ w spelled. is_none;
        fault = subst (λ (o : Option ℕ). IfSome o (IsFaultPlace f.Spells payload)) (sym is_none) tt;
      }
