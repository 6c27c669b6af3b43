-- What a seat stands for, and how a call changes it.
use Rattle.std.specs.Prelude.{◌≡◌, ◌⊎◌, ℕ, suc, ◌+◌, ◌≤◌, ◌==◌, ◌&&◌, ◌||◌, Bool, true, false, cond, List, [], ◌∷◌, ◌++◌, map, length, drop, Option, Some, None}
use Rattle.turn_book.specs.declared.view.Stage.{Stage}
use Rattle.turn_book.specs.declared.view.Stage.TheVariants.{Idle, Waiting, Holding}
use Rattle.turn_book.specs.declared.view.Branch.{Branch}
use Rattle.turn_book.specs.declared.view.Made.{Made}
use Rattle.turn_book.specs.declared.view.Met.{Met}
use Rattle.turn_book.specs.declared.view.View.{View}

abbrev pub is_idle : Stage → Bool
is_idle Idle = true
is_idle (Waiting t) = false
is_idle (Holding t) = false

-- Numbers. A number is a list, last part first: the k-th seat split off from the seat n has the number k ∷ n.

-- the number n, and how many seats were split off from its seat
abbrev pub branch : List ℕ → ℕ → Branch
branch n k = record { number = n; splits = k }

-- a seat's own number stands first
abbrev pub number_of : List Branch → List ℕ
number_of [] = []
number_of (b ∷ bs) = b.number

-- the number n is among these, and k seats were split off from its seat
abbrev pub Carries : List Branch → List ℕ → ℕ → Type 0
Carries [] n k = ⊥
Carries (b ∷ bs) n k = ((b.number ≡ n) × (b.splits ≡ k)) ⊎ Carries bs n k

abbrev pub CarriesNumber : List Branch → List ℕ → Type 0
CarriesNumber bs n = (k : ℕ) × Carries bs n k

-- the first seat's number is among these, and each number that was split off from one among them
abbrev pub CarriesAll : List Branch → Type 0
CarriesAll bs = CarriesNumber bs [] × ((n : List ℕ) (k j : ℕ) → Carries bs n k → 1 ≤ j → j ≤ k → CarriesNumber bs (j ∷ n))

-- no number is among both
abbrev pub Apart : List Branch → List Branch → Type 0
Apart bs cs = (n : List ℕ) → CarriesNumber bs n → CarriesNumber cs n → ⊥

abbrev pub split_once : List Branch → List Branch
split_once [] = []
split_once (b ∷ bs) = branch b.number (suc b.splits) ∷ bs

-- the number of the next seat that is split off
abbrev pub next_number : List Branch → List ℕ
next_number [] = []
next_number (b ∷ bs) = suc b.splits ∷ b.number

abbrev pub same : List ℕ → List ℕ → Bool
same [] [] = true
same (x ∷ xs) (y ∷ ys) = (x == y) && same xs ys
same [] (y ∷ ys) = false
same (x ∷ xs) [] = false

-- one of these numbers made it
abbrev pub by_any : List Branch → Option (List ℕ) → Bool
by_any bs None = false
by_any [] (Some n) = false
by_any (b ∷ bs) (Some n) = same b.number n || by_any bs (Some n)

-- Entries.
module _ {E : Type 0} where
  -- an entry that stood there before the book
  abbrev pub unsigned : E → Made E
  unsigned e = record { by = None; entry = e }

  -- an entry made by the seat n
  abbrev pub signed : List ℕ → E → Made E
  signed n e = record { by = Some n; entry = e }

  abbrev pub entry_of : Made E → E
  entry_of m = m.entry

  -- the list goes on from that one
  abbrev pub Extends : List (Made E) → List (Made E) → Type 0
  Extends earlier later = (others : List (Made E)) × (later ≡ earlier ++ others)

  -- none of them was made by one of these numbers
  abbrev pub NoneBy : List Branch → List (Made E) → Type 0
  NoneBy bs [] = Unit {0}
  NoneBy bs (m ∷ ms) = (by_any bs m.by ≡ false) × NoneBy bs ms

  -- the entries that one of these numbers made, each with its place, where the first place is k
  abbrev pub made_from : ℕ → List Branch → List (Made E) → List (ℕ × Made E)
  made_from k bs [] = []
  made_from k bs (m ∷ ms) = cond (by_any bs m.by) ((k, m) ∷ made_from (suc k) bs ms) (made_from (suc k) bs ms)

  -- the longer of two lists of which one goes on from the other
  abbrev pub longer : List (Made E) → List (Made E) → List (Made E)
  longer [] ys = ys
  longer (x ∷ xs) [] = x ∷ xs
  longer (x ∷ xs) (y ∷ ys) = x ∷ longer xs ys

  abbrev pub nothing_met : Met E
  nothing_met = record { carried = []; seen = [] }

-- Views.
module _ {S E : Type 0} where
  -- the entries that this seat made, or a seat that met it, each with its place in `seen`
  abbrev pub mine : View S E → List (ℕ × Made E)
  mine v = made_from 0 v.carried v.seen

  abbrev pub entries_seen : View S E → List E
  entries_seen v = map entry_of v.seen

  -- the first seat has the empty number, and has seen what stood there before
  abbrev pub first_view : S → List E → View S E
  first_view s xs = record { stage = Idle; carried = branch [] 0 ∷ []; start = Some s; seen = map unsigned xs; drawn = 0; ended = false; one = nothing_met; two = nothing_met }

  -- the same, where n turns count as drawn
  abbrev pub opened_at : ℕ → View S E → View S E
  opened_at n v = record v { drawn = n }

  -- no turn is left
  abbrev pub finished : View S E → View S E
  finished v = record v { ended = true }

  -- the ticket t was drawn
  abbrev pub waiting : ℕ → View S E → View S E
  waiting t v = record v { stage = Waiting t; drawn = v.drawn + 1 }

  -- the turn has come, and the entries of the others were seen
  abbrev pub holding : ℕ → List (Made E) → View S E → View S E
  holding t others v = record v { stage = Holding t; seen = v.seen ++ others; one = nothing_met; two = nothing_met }

  -- the turn was passed on, with what the list xs has beyond `seen` as one's own
  abbrev pub resting : List E → View S E → View S E
  resting xs v = record v { stage = Idle; seen = v.seen ++ map (signed (number_of v.carried)) (drop (length v.seen) xs) }

  -- after a whole turn: the others' entries, and then one's own
  abbrev pub turned : List (Made E) → List E → View S E → View S E
  turned others added v = record v { stage = Idle; seen = (v.seen ++ others) ++ map (signed (number_of v.carried)) added; drawn = v.drawn + 1; one = nothing_met; two = nothing_met }

  -- a seat from which another was split off, and the other
  abbrev pub left : View S E → View S E
  left v = record v { carried = split_once v.carried }

  abbrev pub right : View S E → View S E
  right v = record v { stage = Idle; carried = branch (next_number v.carried) 0 ∷ []; drawn = 0; one = nothing_met; two = nothing_met }

  abbrev pub met : View S E → Met E
  met v = record { carried = v.carried; seen = v.seen }

  -- a seat that took in another
  abbrev pub both : View S E → View S E → View S E
  both v w = record { stage = v.stage; carried = v.carried ++ w.carried; start = v.start; seen = longer v.seen w.seen; drawn = v.drawn + w.drawn; ended = v.ended || w.ended; one = met v; two = met w }

  -- a seat that was taken in
  abbrev pub spent_view : View S E
  spent_view = record { stage = Idle; carried = []; start = None; seen = []; drawn = 0; ended = false; one = nothing_met; two = nothing_met }

  -- a seat whose numbers were handed over
  abbrev pub left_behind : View S E → View S E
  left_behind v = record v { carried = []; drawn = 0 }
