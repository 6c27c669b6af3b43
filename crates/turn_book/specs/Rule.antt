-- The rule of the book: what holds between any two steps.
use Rattle.std.specs.Prelude.{◌≡◌, ℕ, ◌+◌, ◌<◌, ◌≤◌, ◌^◌, Bool, true, false, List, [], ◌∷◌, ◌++◌, map, length, Option, Some, None}
use mathlib.Core.Option.{none, some}
use mathlib.Core.Option as maybe
use lib.ListN.{get_elem?}
use Rattle.atomic_table.specs.Table.{State}
use Rattle.turn_book.specs.declared.view.Stage.{Stage}
use Rattle.turn_book.specs.declared.view.Stage.TheVariants.{Idle, Waiting, Holding}
use Rattle.turn_book.specs.declared.view.Branch.{Branch}
use Rattle.turn_book.specs.declared.view.Made.{Made}
use Rattle.turn_book.specs.declared.view.View.{View}
use Rattle.turn_book.specs.Views.{Carries, CarriesNumber, Extends, unsigned, signed, entry_of}
use Rattle.turn_book.specs.Steps.{Meeting}

-- a turn that was passed on: whose it was, and its entry or none
pub record Turn (E : Type 0) : Type 0 where
  pub by : List ℕ
  pub entry : Option E

abbrev pub a_turn : {E : Type 0} → List ℕ → Option E → Turn E
a_turn n e = record { by = n; entry = e }

module _ {E : Type 0} where
  abbrev pub made_in : List ℕ → Option E → List (Made E)
  made_in n None = []
  made_in n (Some e) = signed n e ∷ []

  -- the entries of these turns
  abbrev pub made_by : List (Turn E) → List (Made E)
  made_by [] = []
  made_by (t ∷ ts) = made_in t.by t.entry ++ made_by ts

  -- the book's history: what stood there, and then what the turns made
  abbrev pub log_of : List E → List (Turn E) → List (Made E)
  log_of old turns = map unsigned old ++ made_by turns

abbrev pub total : List ℕ → ℕ
total [] = 0
total (x ∷ xs) = x + total xs

-- no number stands twice
abbrev pub Distinct : List Branch → Type 0
Distinct [] = Unit {0}
Distinct (b ∷ bs) = (CarriesNumber bs b.number → ⊥) × Distinct bs

-- the seat i carries the number n, from which k seats were split off
abbrev pub SeatCarries : List (List Branch) → ℕ → List ℕ → ℕ → Type 0
SeatCarries cs i n k = (bs : List Branch) × (get_elem? cs i ≡ some bs) × Carries bs n k

-- the numbers of all seats, by seat
pub record Family (cs : List (List Branch)) : Type 0 where
  -- no number is carried by two seats, and none twice by one
  pub sole : (n : List ℕ) (i j k l : ℕ) → SeatCarries cs i n k → SeatCarries cs j n l → i ≡ j
  pub once : (i : ℕ) (bs : List Branch) → get_elem? cs i ≡ some bs → Distinct bs
  -- a number that is carried was split off from one that is carried, and the splits were counted
  pub parent : (n : List ℕ) (i k j : ℕ) → SeatCarries cs i (k ∷ n) j → (p l : ℕ) × SeatCarries cs p n l
  pub below : (n : List ℕ) (i k j p l : ℕ) → SeatCarries cs i (k ∷ n) j → SeatCarries cs p n l → (1 ≤ k) × (k ≤ l)

abbrev pub HasTicket : Stage → ℕ → Type 0
HasTicket Idle t = ⊥
HasTicket (Waiting u) t = u ≡ t
HasTicket (Holding u) t = u ≡ t

module _ {S E : Type 0} where
  abbrev pub carried_of : View S E → List Branch
  carried_of v = v.carried

  abbrev pub drawn_of : View S E → ℕ
  drawn_of v = v.drawn

  -- a seat that carries the number n has seen the place p
  abbrev pub HasSeen : List (View S E) → List ℕ → ℕ → Type 0
  HasSeen views n p = (i : ℕ) × (v : View S E) × (get_elem? views i ≡ some v) × CarriesNumber v.carried n × (p < length v.seen)

  -- the maker of each entry that has one is carried by a seat that has seen it
  abbrev pub Makers : List (View S E) → List (Made E) → Type 0
  Makers views log = (p : ℕ) (m : Made E) (n : List ℕ) → get_elem? log p ≡ some m → m.by ≡ Some n → HasSeen views n p

  module _ (next serving : ℕ) (first : S) (old : List E) (log : List (Made E)) (out : Bool) (owner : ℕ → ℕ) where
    abbrev pub StageFits : ℕ → List (Made E) → Stage → Type 0
    StageFits i seen Idle = Unit {0}
    StageFits i seen (Waiting t) = (serving ≤ t) × (t < next) × (owner t ≡ i) × (t ≡ serving → out ≡ false)
    StageFits i seen (Holding t) = (t ≡ serving) × (t < next) × (owner t ≡ i) × (out ≡ true) × (seen ≡ log)

    -- what the rule says of the seat i
    pub record SeatFits (i : ℕ) (v : View S E) : Type 0 where
      pub seen : Extends v.seen log
      pub stage : StageFits i v.seen v.stage
      pub ended : v.ended ≡ true → next ≡ 2 ^ 62
      pub start : 0 < length v.carried → v.start ≡ Some first
      pub opening_seen : 0 < length v.carried → length old ≤ length v.seen
      pub none_drawn : length v.carried ≡ 0 → v.drawn ≡ 0
      pub meeting : Meeting v.one v.two

  -- The tickets below `next` are drawn, those below `serving` are passed on. Each that is drawn and not passed on is held by its owner. Where `out`, the ticket `serving` has the object
  pub record Books (opening : S → List E → Type 0) (next serving : ℕ) (first : S) (old : List E) (turns : List (Turn E)) (out : Bool) (owner : ℕ → ℕ) (views : List (View S E)) : Type 0 where
    pub order : serving ≤ next
    pub low : next ≤ 2 ^ 62
    pub busy : out ≡ true → serving < next
    pub opened : opening first old
    pub counted : length turns ≡ serving
    pub drawn : total (map drawn_of views) ≡ next
    pub tickets : (t : ℕ) → serving ≤ t → t < next → (v : View S E) × (get_elem? views (owner t) ≡ some v) × HasTicket v.stage t × (0 < length v.carried)
    pub each_seat : (i : ℕ) (v : View S E) → get_elem? views i ≡ some v → SeatFits next serving first old (log_of old turns) out owner i v
    pub family : Family (map carried_of views)
    pub makers : Makers views (log_of old turns)

module _ {O S E : Type 0} (start : O → S) (entries : O → List E) where
  -- the object, while no seat has it
  abbrev pub Home : Bool → S → List (Made E) → List (maybe.Option O) → Type 0
  Home true first log homes = homes ≡ none ∷ []
  Home false first log homes = (y : O) × (homes ≡ some y ∷ []) × (entries y ≡ map entry_of log) × (start y ≡ first)

  pub record Kept (opening : S → List E → Type 0) (s : State O (View S E)) : Type 0 where
    pub next : ℕ
    pub serving : ℕ
    pub first : S
    pub old : List E
    pub turns : List (Turn E)
    pub out : Bool
    pub owner : ℕ → ℕ
    pub words : s.words ≡ next ∷ serving ∷ []
    pub home : Home out first (log_of old turns) s.homes
    pub books : Books opening next serving first old turns out owner s.views
