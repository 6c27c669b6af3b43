-- What a maker gives, and a maker in memory.
use Rattle.std.specs.Prelude.{◌≡◌, ℕ, List, [], Bool, Option, Some, None}
use Rattle.lg_outside.specs.PlanOf.{Plan}
use Rattle.server_outside.specs.Judges.{Lists, never_fails}

-- an object that tells what it has given has given nothing
abbrev pub HasGivenNone : {A : Type 0} → Option (List A) → Type 0
HasGivenNone None = Unit {0}
HasGivenNone (Some given) = given ≡ []

-- each object that was made with the same as this one passes a test
abbrev pub Passes : {Object Made : Type 0} → (Object → Made) → (Object → Type 0) → Object → Type 0
Passes {Object = Object} made_with test object = (other : Object) → made_with other ≡ made_with object → test other

-- what a maker in memory was made with: the lists of its verifiers, and the readings of its clocks
pub record Supplies : Type 0 where
  pub lists : Lists
  pub readings : List ℕ

-- the plan of a new object whose calls with these numbers fail
abbrev pub new_plan : List ℕ → Plan
new_plan failing = record { failing = failing; calls = 0; faults = 0 }

-- the verifiers are sound that are made with these lists
abbrev pub has_sound : Supplies → Bool
has_sound supplies = never_fails (new_plan supplies.lists.failing)

-- a maker in memory: what it was made with, whether `seed` has succeeded, and the plan of its failures
pub record Workshop : Type 0 where
  pub supplies : Supplies
  pub seeded : Bool
  pub plan : Plan
