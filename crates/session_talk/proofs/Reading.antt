-- What reading a payload answers is what the form's reader on lists finds.
use Rattle.std.proofs.Common.{◌≡◌, ℕ, ◌<◌, List, Option, Some, None, IfSome, Result, Ok, Err, refl, ap, arith}
use Rattle.wire_form.specs.Forms.{Form}
use Rattle.wire_form.specs.Payloads.{IsFaultPlace, start, Gives, IsReadAs}
use Rattle.wire_form.proofs.Laws.{IsForm}
use Rattle.wire_form.proofs.Payloads.{fault_place}

module _ {A : Type 0} (f : Form A) (is : IsForm f) where
  -- a payload has one place of a fault
  one_place : (payload : List ℕ) (m n : ℕ) → IsFaultPlace f.Spells payload m → IsFaultPlace f.Spells payload n → m ≡ n
  one_place payload m n p q = same (λ less. p.longest n less q.within q.begins) (λ less. q.longest m less p.within p.begins)
    where
      same : (m < n → ⊥) → (n < m → ⊥) → m ≡ n
      same not_below not_above = omega (arith, not_below, not_above)

  -- where the payload has a fault's place, reading stops there
  stops_there : (payload : List ℕ) (at : ℕ) → IsFaultPlace f.Spells payload at → (found : Result A ℕ) → f.read (start payload) ≡ found → found ≡ Err at
  stops_there payload at place (Ok a) e = absurd (place.none a (is.found (start payload) a e))
  stops_there payload at place (Err n) e = ap Err (one_place payload n at (fault_place f is payload n e) place)

  pub gives : {E : Type 0} (fault_of : E → Option ℕ) (payload : List ℕ) (result : Result A E) →
      IsReadAs fault_of f.Spells payload result → Gives fault_of result (f.read (start payload))
  gives fault_of payload (Ok v) read = is.only (start payload) v read.found
  gives {E} fault_of payload (Err e) read = by_place (fault_of e) read.fault
    where
      by_place : (o : Option ℕ) → IfSome o (IsFaultPlace f.Spells payload) → IfSome o (λ at. f.read (start payload) ≡ Err at)
      by_place (Some at) place = stops_there payload at place (f.read (start payload)) refl
      by_place None _ = tt
