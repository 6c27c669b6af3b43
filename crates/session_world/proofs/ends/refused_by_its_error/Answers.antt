use Rattle.session_world.proofs.Doing.{events_are_done, events_are_transcripts}
use Rattle.session_world.proofs.Meetings.{refused_by_its_error}
use Rattle.session_world.proofs.ends.refused_by_its_error.Goals as goal

pub returns : goal.returns
returns c = refused_by_its_error events_are_done events_are_transcripts
