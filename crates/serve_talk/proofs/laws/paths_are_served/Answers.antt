use Rattle.serve_talk.proofs.Served.{paths_are_served}
use Rattle.serve_talk.proofs.laws.paths_are_served.Goals as goal

pub returns : goal.returns
returns c = paths_are_served
