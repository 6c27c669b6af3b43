-- What the code keeps of a replay, and what an event leaves.
use Rattle.std.specs.Prelude.{◌≡◌, ℕ, List, ◌++◌}
use Rattle.client_wire.specs.Clients.{AreClients, AreClientsBeside}
use Rattle.session_world.specs.Replays.{Came, Replay, printed_text}
use Rattle.session_world.specs.Worlds.{AreAt}
use Rattle.session_world.specs.declared.stage.Stage.{Stage}

-- what is kept is this replay
pub record Stands (stage : Stage) (r : Replay) : Type 0 where
  pub common : stage.state.table ≡ r.world.common
  pub places : AreAt stage.state.sessions r.world.places
  pub clients : AreClients stage.clients r.clients

-- the same, but the client of this number is taken out
pub record StandsBeside (number : ℕ) (stage : Stage) (r : Replay) : Type 0 where
  pub common : stage.state.table ≡ r.world.common
  pub places : AreAt stage.state.sessions r.world.places
  pub clients : AreClientsBeside number stage.clients r.clients

-- what came of an event is kept, and its lines were printed
pub record Leaves (came : Came) (stage : Stage) (before after : List ℕ) : Type 0 where
  pub stands : Stands stage came.replay
  pub printed : after ≡ before ++ printed_text came.printed
