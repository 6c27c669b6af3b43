-- What one step on the table tells the seat that makes it: of the step, the seat before, the number found, and the seat after.
use Rattle.std.specs.Prelude.{◌≡◌, ◌≢◌, ◌⊎◌, ℕ, ◌≤◌, ◌^◌, false, List, [], ◌∷◌, ◌++◌, map, Some}
use Rattle.atomic_table.specs.Table.{Me, Step}
use Rattle.turn_book.specs.declared.view.Stage.TheVariants.{Waiting}
use Rattle.turn_book.specs.declared.view.Made.{Made}
use Rattle.turn_book.specs.declared.view.Met.{Met}
use Rattle.turn_book.specs.declared.view.View.{View}
use Rattle.turn_book.specs.Views.{Apart, NoneBy, branch, entry_of, next_number, finished, waiting, holding, resting}
use Rattle.turn_book.specs.Turns.{HasRoom}

-- the list goes on from what was seen, and no entry behind that was made by the numbers carried
abbrev pub Follows : {E : Type 0} → Met E → List (Made E) → Type 0
Follows {E} a later = (others : List (Made E)) × (later ≡ a.seen ++ others) × NoneBy a.carried others

-- two seats that met: one had seen what the other had, and more, and they carried no number in common
abbrev pub Meeting : {E : Type 0} → Met E → Met E → Type 0
Meeting a b = (Follows a b.seen ⊎ Follows b a.seen) × Apart a.carried b.carried

-- a seat at the table: its view and what it holds
abbrev pub Sat : Type 0 → Type 0 → Type 0 → Type 0
Sat O S E = Me O (View S E)

module _ {O S E : Type 0} where
  abbrev pub found : Step O → Sat O S E → ℕ → Sat O S E → Type 0
  found st m r n = (n.1 ≡ m.1) × (r ≤ 2 ^ 62) × (r ≡ 2 ^ 62 → n.0 ≡ finished m.0) × (r ≢ 2 ^ 62 → n.0 ≡ m.0)

  abbrev pub drew : Step O → Sat O S E → ℕ → Sat O S E → Type 0
  drew st m r n = (n.1 ≡ m.1) × (r ≤ 2 ^ 62)
      × (r ≡ st.first → (n.0 ≡ waiting r m.0) × (m.0.ended ≡ false))
      × (r ≢ st.first → (r ≡ 2 ^ 62 → n.0 ≡ finished m.0) × (r ≢ 2 ^ 62 → n.0 ≡ m.0))

  abbrev pub told : Step O → Sat O S E → ℕ → Sat O S E → Type 0
  told st m r n = (n ≡ m) × Meeting m.0.one m.0.two

  -- no entry that the seat has seen was made by the number that is split off next
  abbrev pub unmade : Step O → Sat O S E → ℕ → Sat O S E → Type 0
  unmade st m r n = (n ≡ m) × NoneBy (branch (next_number m.0.carried) 0 ∷ []) m.0.seen

  module _ (start : O → S) (entries : O → List E) (opening : S → List E → Type 0) where
    -- the turn t has come: the seat has the object, which stands for all that the seat has now seen
    pub record Took (t : ℕ) (m n : Sat O S E) : Type 0 where
      pub object : O
      pub others : List (Made E)
      pub now : n ≡ (holding t others m.0, (0, object) ∷ [])
      pub stands : entries object ≡ map entry_of (m.0.seen ++ others)
      pub begun : m.0.start ≡ Some (start object)
      pub none_own : NoneBy m.0.carried others
      pub room : HasRoom opening (start object) (entries object)

    abbrev pub looked : Step O → Sat O S E → ℕ → Sat O S E → Type 0
    looked st m r n = (t : ℕ) → m.0.stage ≡ Waiting t → (r ≡ t → Took t m n) × (r ≢ t → n ≡ m)

  abbrev pub passed : (O → List E) → Step O → Sat O S E → ℕ → Sat O S E → Type 0
  passed entries st m r n = (object : O) → m.1 ≡ (0, object) ∷ [] → n ≡ (resting (entries object) m.0, [])
