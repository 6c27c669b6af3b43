-- The links of a door, as far as it tells them.
use Rattle.std.specs.Prelude.{◌≡◌, ℕ, ◌+◌, ◌-◌, ◌<◌, List, [], ◌∷◌, ◌++◌, drop, length, Option, Some, None, Result, Ok, Err}
use Rattle.lg_outside.specs.Traffic.{Traffic}
use Rattle.lg_outside.specs.declared.streams.Failed.{Failed}

-- the links that are left, how many were given and not given back yet, and those that were given back, the latest last
pub record Hall (Conn : Type 0) : Type 0 where
  pub left : List Conn
  pub out : ℕ
  pub back : List Conn

-- how many links were given in all
abbrev pub given_of : {Conn : Type 0} → Hall Conn → ℕ
given_of hall = length hall.back + hall.out

-- of a link's bytes none was read, and none was written to it
abbrev pub IsUnused : Option Traffic → Type 0
IsUnused None = Unit {0}
IsUnused (Some t) = (t.read ≡ []) × (t.written ≡ [])

-- the links before and after the next one was asked for: the first that is left is given, none only where none is left,
-- and a call that fails gives none
abbrev pub Lets : {Conn : Type 0} → Option (Hall Conn) → Option (Hall Conn) → Result (Option Conn) Failed → Type 0
Lets None after next = after ≡ None
Lets (Some hall) after (Ok (Some link)) =
    (hall.left ≡ link ∷ drop 1 hall.left) × (after ≡ Some (record { left = drop 1 hall.left; out = hall.out + 1; back = hall.back }))
Lets (Some hall) after (Ok None) = (hall.left ≡ []) × (after ≡ Some hall)
Lets (Some hall) after (Err _) = after ≡ Some hall

-- more links were given than were given back
abbrev pub HasGiven : {Conn : Type 0} → Option (Hall Conn) → Type 0
HasGiven None = Unit {0}
HasGiven (Some hall) = length hall.back < given_of hall

-- the links before and after one is given back
abbrev pub TakesBack : {Conn : Type 0} → Conn → Option (Hall Conn) → Option (Hall Conn) → Type 0
TakesBack link None after = after ≡ None
TakesBack link (Some hall) after = after ≡ Some (record { left = hall.left; out = hall.out - 1; back = hall.back ++ link ∷ [] })
