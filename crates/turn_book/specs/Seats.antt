-- What holds of all seats of a book between any two steps.
use Rattle.std.specs.Prelude.{◌≡◌, ◌≢◌, ℕ, ◌<◌, ◌^◌, true, List, ◌∷◌, ◌++◌, length, Some}
use mathlib.Core.Option.{some}
use lib.ListN.{get_elem?}
use Rattle.turn_book.specs.declared.view.Made.{Made}
use Rattle.turn_book.specs.declared.view.View.{View}
use Rattle.turn_book.specs.Views.{Carries, CarriesNumber, Apart, Extends, by_any}

module _ {S E : Type 0} where
  -- the entry at the place p is one of the seat's own
  abbrev pub OwnsPlace : View S E → ℕ → Type 0
  OwnsPlace v p = (m : Made E) × (get_elem? v.seen p ≡ some m) × (by_any v.carried m.by ≡ true)

  -- the history of a book, of which so many turns are drawn, and the views of its seats
  pub record SeatsStand (drawn : ℕ) (history : List (Made E)) (views : List (View S E)) : Type 0 where
    -- each seat has seen a beginning of the history
    pub seen : (i : ℕ) (v : View S E) → get_elem? views i ≡ some v → Extends v.seen history
    -- a seat has seen the end only where 2^62 turns were drawn
    pub ended : (i : ℕ) (v : View S E) → get_elem? views i ≡ some v → v.ended ≡ true → drawn ≡ 2 ^ 62
    -- no number is carried by two seats, and no place is owned by two
    pub numbers : (i j : ℕ) (v u : View S E) → get_elem? views i ≡ some v → get_elem? views j ≡ some u → i ≢ j → Apart v.carried u.carried
    pub places : (i j p : ℕ) (v u : View S E) → get_elem? views i ≡ some v → get_elem? views j ≡ some u → i ≢ j → OwnsPlace v p → OwnsPlace u p → ⊥
    -- a seat has seen, and so owns, each entry of the history that was made by a number that it carries
    pub own : (i p : ℕ) (v : View S E) (m : Made E) (n : List ℕ) → get_elem? views i ≡ some v → get_elem? history p ≡ some m → m.by ≡ Some n → CarriesNumber v.carried n → p < length v.seen
    -- a number that wasn't split off yet, or was split off below such a one, is carried by no seat and made no entry
    pub unused : (i j k l : ℕ) (v u : View S E) (n below : List ℕ) → get_elem? views i ≡ some v → Carries v.carried n k → k < l → get_elem? views j ≡ some u → CarriesNumber u.carried (below ++ l ∷ n) → ⊥
    pub unmade : (i k l p : ℕ) (v : View S E) (m : Made E) (n below : List ℕ) → get_elem? views i ≡ some v → Carries v.carried n k → k < l → get_elem? history p ≡ some m → m.by ≡ Some (below ++ l ∷ n) → ⊥
