use Rattle.session_world.proofs.Doing.{events_are_done, events_are_transcripts}
use Rattle.session_world.proofs.Meetings.{opened_by_its_reply}
use Rattle.session_world.proofs.ends.opened_by_its_reply.Goals as goal

pub returns : goal.returns
returns c = opened_by_its_reply events_are_done events_are_transcripts
