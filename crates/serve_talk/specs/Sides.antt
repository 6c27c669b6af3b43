-- What is known of a session's own side: the history that its seat has seen, the entries that are its own, and what its clock
-- and its draws have given, where they tell it.
use Rattle.std.specs.Prelude.{◌≡◌, ℕ, List, [], ◌∷◌, ◌++◌, Bool, Option, Some, None}
use Rattle.lg_outside.specs.Traffic.{Traffic}
use Rattle.account_history.specs.declared.entries.Entry.{Entry}
use Rattle.account_history.specs.declared.entries.Entry.TheVariants.{Observed, Attempted, Executed}
use Rattle.account_history.specs.declared.entries.Log.{Log}
use Rattle.session_talk.specs.declared.inputs.Input.{Input}
use Rattle.session_talk.specs.declared.inputs.Input.TheVariants as input

-- how many turns of the book were drawn, and whether the seat has seen that none is left
pub record Side : Type 0 where
  pub seen : Log
  pub mine : List Entry
  pub drawn : ℕ
  pub ended : Bool
  pub draws : Option (List (List ℕ))
  pub clock : Option (List ℕ)

-- the link and the own side
pub record Moment : Type 0 where
  pub link : Option Traffic
  pub side : Side

-- these were given one after another, unless the object ceases to tell
abbrev pub GaveAll : {A : Type 0} → Option (List A) → Option (List A) → List A → Type 0
GaveAll before None things = Unit {0}
GaveAll None (Some after) things = ⊥
GaveAll (Some before) (Some after) things = after ≡ before ++ things

-- the later history goes on from the earlier one
abbrev pub Extends : Log → Log → Type 0
Extends earlier later = (others : List Entry) × (later ≡ record { start = earlier.start; entries = earlier.entries ++ others })

-- the nonces and the salts among what a session is given
abbrev pub nonces_in : List Input → List (List ℕ)
nonces_in [] = []
nonces_in (input.Start nonce ∷ inputs) = nonce ∷ nonces_in inputs
nonces_in (input.Drawn nonce ∷ inputs) = nonce ∷ nonces_in inputs
nonces_in (_ ∷ inputs) = nonces_in inputs

-- the readings of the clock in entries
abbrev pub readings_in : List Entry → List ℕ
readings_in [] = []
readings_in (Observed who look ∷ entries) = readings_in entries
readings_in (Attempted attempt ∷ entries) = attempt.reading ∷ readings_in entries
readings_in (Executed execution ∷ entries) = execution.reading ∷ readings_in entries

-- numbers stand among others, in their order
pub data AreAmong : List ℕ → List ℕ → Type 0 where
  none : AreAmong [] []
  taken : (n : ℕ) (some all : List ℕ) → AreAmong some all → AreAmong (n ∷ some) (n ∷ all)
  passed : (n : ℕ) (some all : List ℕ) → AreAmong some all → AreAmong some (n ∷ all)

-- The own side goes on: these entries were added by the session, these nonces and salts were drawn, and the readings of the
-- entries are among those that the clock gave.
pub record Grew (x y : Side) (entries : List Entry) (nonces : List (List ℕ)) : Type 0 where
  pub mine : y.mine ≡ x.mine ++ entries
  pub grown : Extends x.seen y.seen
  pub drew : GaveAll x.draws y.draws nonces
  pub times : List ℕ
  pub read_times : GaveAll x.clock y.clock times
  pub timed : AreAmong (readings_in entries) times
