-- A door in memory: its links, and the plan of its failures.
use Rattle.std.specs.Prelude.{◌≡◌, [], false}
use Rattle.lg_outside.specs.MemoryLinks.{Wire}
use Rattle.lg_outside.specs.PlanOf.{Plan}
use Rattle.server_outside.specs.Halls.{Hall}

pub record Foyer : Type 0 where
  pub hall : Hall Wire
  pub plan : Plan

-- none of the link's bytes was read, none was written to it, and it isn't finished
pub record IsNew (link : Wire) : Type 0 where
  pub unread : link.read ≡ []
  pub unwritten : link.written ≡ []
  pub unfinished : link.finished ≡ false
