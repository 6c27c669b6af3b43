-- What the code keeps of a world: its sessions by their numbers, and what is left of what was done.
use Rattle.std.specs.Prelude.{◌≡◌, ℕ, ◌==◌, Bool, true, false, Option, Some, None}
use Rattle.std.specs.BTreeMap.{BTreeMap, get}
use Rattle.std.specs.Ordering.{nat_cmp}
use Rattle.session_world.specs.declared.held.Held.{Held}
use Rattle.session_world.specs.declared.output.Output.{Output}
use Rattle.session_world.specs.Leading.{with_lines}
use Rattle.world_table.specs.Table.{Common}
use Rattle.session_world.specs.Worlds.{AreAt, Happened, IsAt, Place, Shows, World}

-- the session of a number was taken out, and another one stands at its place
abbrev pub ShowsBeside : (taken : Bool) → (number : ℕ) → Option Held → Option Place → Type 0
ShowsBeside true number held place = held ≡ None
ShowsBeside false number held place = Shows number held place

-- the sessions beside the one of this number stand at their places
abbrev pub AreBeside : ℕ → BTreeMap ℕ Held → (ℕ → Option Place) → Type 0
AreBeside number sessions places = (other : ℕ) → ShowsBeside (other == number) other (get nat_cmp sessions other) (places other)

-- the session of this number is taken out, or there is none
abbrev pub IsTaken : ℕ → (ℕ → Option Place) → BTreeMap ℕ Held → Option Held → Type 0
IsTaken number places sessions None = AreAt sessions places × (places number ≡ None)
IsTaken number places sessions (Some held) =
    AreBeside number sessions places × ((place : Place) × (places number ≡ Some place) × IsAt number place held)

-- the world whose parts these are
abbrev pub world_of : Common → (ℕ → Option Place) → World
world_of common places = record { common = common; places = places }

-- what is kept is the world after what happened
pub record Follows (h : Happened) (common : Common) (sessions : BTreeMap ℕ Held) : Type 0 where
  pub common_is : common ≡ h.world.common
  pub are_at : AreAt sessions h.world.places

-- what is put out by what happened
abbrev pub put_by : Happened → Output → Output
put_by h o = with_lines h.session h.lines o
