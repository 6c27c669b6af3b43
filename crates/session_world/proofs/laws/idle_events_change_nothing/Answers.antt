use Rattle.session_world.proofs.Unchanged.{idle_events_change_nothing}
use Rattle.session_world.proofs.laws.idle_events_change_nothing.Goals as goal

pub returns : goal.returns
returns c = idle_events_change_nothing
