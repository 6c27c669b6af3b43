-- A ghost value owns nothing, so several threads may read it.
use denote.RattleType.{RattleType}
use denote.Param.Send.{IsSync, part_keyless}
use Rattle.ghost_value.specs.contracts.GhostValue.{the_row}
use Rattle.ghost_value.proofs.GhostValue.TheSendSync.Send.{send}

pub sync : (T : RattleType) → IsSync (the_row T)
sync T = record { shared = λ d b o κ q. part_keyless (the_row T) (send T) q d b o }
