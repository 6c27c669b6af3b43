-- What the code keeps of the clients of a world.
use Rattle.std.specs.Prelude.{◌≡◌, ℕ, ◌==◌, false, Option, Some, None, option_map}
use Rattle.std.specs.BTreeMap.{BTreeMap, get}
use Rattle.std.specs.Ordering.{nat_cmp}
use Rattle.client_wire.specs.Ends.{standing_of}
use Rattle.client_wire.specs.UnderWay.{Client}
use Rattle.client_wire.specs.declared.held_client.HeldClient.{HeldClient}

-- a client that is kept
abbrev pub client_of : HeldClient → Client
client_of held = record { stands = standing_of held.end; coming = held.coming; leaving = held.leaving; result = held.result }

-- the clients that are kept, by the numbers of their sessions
abbrev pub AreClients : BTreeMap ℕ HeldClient → (ℕ → Option Client) → Type 0
AreClients kept clients = (number : ℕ) → option_map client_of (get nat_cmp kept number) ≡ clients number

-- the same but for one number, at which none is kept
abbrev pub AreClientsBeside : ℕ → BTreeMap ℕ HeldClient → (ℕ → Option Client) → Type 0
AreClientsBeside number kept clients = (other : ℕ) → (other == number) ≡ false → option_map client_of (get nat_cmp kept other) ≡ clients other

-- the client of this number is taken out, or there is none
abbrev pub IsClientTaken : ℕ → (ℕ → Option Client) → BTreeMap ℕ HeldClient → Option HeldClient → Type 0
IsClientTaken number clients kept None = AreClients kept clients × (clients number ≡ None)
IsClientTaken number clients kept (Some held) = AreClientsBeside number kept clients × (clients number ≡ Some (client_of held))
