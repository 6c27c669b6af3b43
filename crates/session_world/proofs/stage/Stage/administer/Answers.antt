use Rattle.session_world.proofs.Administering.{readable_written}
use Rattle.session_world.proofs.stage.Stage.administer.Goals as goal

pub execute-requires : goal.execute-requires
execute-requires c = readable_written c.in-Ok.statement (c.in-Ok.ensures {u = tt}).readable
