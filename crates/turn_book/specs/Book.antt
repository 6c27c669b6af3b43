-- What the calls of a book promise.
use Rattle.std.specs.Prelude.{◌≡◌, ◌⊎◌, ℕ, suc, ◌<◌, false, List, [], ◌∷◌, ◌++◌, map, length, slice_index, Option, Some, option_to_list, Result, Ok, Err}
use mathlib.Core.Option.{some}
use lib.ListN.{get_elem?}
use Rattle.atomic_table.specs.Table.{State}
use Rattle.atomic_table.specs.Seated.{TableId}
use Rattle.atomic_table.specs.declared.shared.Seat as Place
use Rattle.lg_base.specs.declared.allocation.Memory.{Memory}
use Rattle.turn_book.specs.declared.view.Stage.TheVariants.{Idle, Holding}
use Rattle.turn_book.specs.declared.view.Made.{Made}
use Rattle.turn_book.specs.declared.view.View.{View}
use Rattle.turn_book.specs.declared.seat.Seat.{Seat}
use Rattle.turn_book.specs.declared.seat.TurnBook.{TurnBook}
use Rattle.turn_book.specs.Views.{Apart, Extends, NoneBy, entry_of, signed, number_of, made_from, mine, finished, turned, both}
use Rattle.turn_book.specs.Rule.{Kept}

module _ {O S E : Type 0} {G : _} where
  -- what the seat stands for
  abbrev pub view : Seat O S E G → View S E
  view s = s.place.me.0

module _ {O S E : Type 0} where
  -- the start of the object that the book was made with
  abbrev pub began : (O → S) → TurnBook O S E → S
  began start b = start b.table.shared.key.object.value

module _ {O S E : Type 0} {G : _} where
  -- the seat is one of this book's, from `new` or `split`, and no other seat took it in
  abbrev pub IsOf : (O → S) → TurnBook O S E → Seat O S E G → Type 0
  IsOf start b s = (s.place.table_id ≡ b.table.shared.table_id) × (0 < length (view s).carried) × ((view s).start ≡ Some (began start b))

-- these entries of the seat n, the first at the place k
abbrev pub placed : {E : Type 0} → ℕ → List ℕ → List E → List (ℕ × Made E)
placed k n [] = []
placed k n (e ∷ es) = (k, signed n e) ∷ placed (suc k) n es

module _ {S E : Type 0} where
  -- A turn of a seat that had the view v and has the view w: it saw the others' entries, of which none is its own, and added its own. It was one of the book's 2^62 turns
  pub record TookTurn (v : View S E) (others : List (Made E)) (added : List E) (w : View S E) : Type 0 where
    pub after : w ≡ turned others added v
    pub own : mine w ≡ mine v ++ placed (length (v.seen ++ others)) (number_of v.carried) added
    pub none_own : NoneBy v.carried others
    pub open_book : v.ended ≡ false

  -- no turn was left: the seat has seen that, and nothing else changed
  abbrev pub Ended : View S E → View S E → Type 0
  Ended v w = w ≡ finished v

  module _ {C : Type 0} (s : S) (v : View S E) (call call' : C) where
    -- the call was served over the list before it, and added the entry that it makes, or none
    abbrev pub Served : {R : Type 0} → (S → List E → C → R → Option E) → (S → List E → C → C → R → Type 0) → View S E → R → Type 0
    Served makes answers w r =
        (others : List (Made E))
        × TookTurn v others (option_to_list (makes s (map entry_of (v.seen ++ others)) call' r)) w
        × answers s (map entry_of (v.seen ++ others)) call call' r

    -- the object had no memory for the call, and added nothing
    abbrev pub Declined : (S → List E → C → C → Type 0) → View S E → Type 0
    Declined refused w = (others : List (Made E)) × TookTurn v others [] w × refused s (map entry_of (v.seen ++ others)) call call'

  -- two seats met: the one has seen what either had seen, and carries the numbers of both, which had none in common
  pub record Joined (v u w : View S E) : Type 0 where
    pub after : w ≡ both v u
    pub one : Extends v.seen w.seen
    pub two : Extends u.seen w.seen
    pub longest : (w.seen ≡ v.seen) ⊎ (w.seen ≡ u.seen)
    -- what either made stands there as before, and no more by its numbers
    pub one_made : made_from 0 v.carried w.seen ≡ mine v
    pub two_made : made_from 0 u.carried w.seen ≡ mine u
    pub apart : Apart v.carried u.carried

-- there is a state of the book in which a seat has this view and a turn was drawn that wasn't passed on
abbrev pub HasOpenTurn : {O S E : Type 0} → (O → S) → (O → List E) → (S → List E → Type 0) → View S E → Type 0
HasOpenTurn {O} {S} {E} start entries opening v =
    (s : State O (View S E)) × (i : ℕ) × Kept start entries opening s × (get_elem? s.views i ≡ some v) × (slice_index s.words 1 < slice_index s.words 0)

-- a seat at the table between two calls
abbrev pub IsReady : {O S E : Type 0} → TableId → Place.Seat O (View S E) → Type 0
IsReady id p = (p.table_id ≡ id) × (p.me.0.stage ≡ Idle) × (p.me.1 ≡ []) × (0 < length p.me.0.carried)

module _ {O S E : Type 0} (start : O → S) (entries : O → List E) where
  -- the object y goes back: it stands for what the seat has seen, and for one further entry or none
  abbrev pub IsPassed : ℕ → View S E → O → Type 0
  IsPassed t v y = (v.stage ≡ Holding t) × (0 < length v.carried) × (v.start ≡ Some (start y))
      × ((added : Option E) × (entries y ≡ map entry_of v.seen ++ option_to_list added))

  module _ {C R : Type 0} (makes : S → List E → C → R → Option E) (answers : S → List E → C → C → R → Type 0) (refused : S → List E → C → C → Type 0) where
    -- the object y became z by the call
    abbrev pub Applied : O → C → C → O → Result R Memory → Type 0
    Applied y call call' z (Ok r) = (start z ≡ start y) × (entries z ≡ entries y ++ option_to_list (makes (start y) (entries y) call' r)) × answers (start y) (entries y) call call' r
    Applied y call call' z (Err e) = (start z ≡ start y) × (entries z ≡ entries y) × refused (start y) (entries y) call call'
