use Rattle.session_world.proofs.Giving.{on_ok}
use Rattle.session_world.specs.Going.{going}
use Rattle.session_world.specs.Worlds.{place_of}
use Rattle.session_world.proofs.state.State.resume.Goals as goal

pub returns-clause-left : goal.returns-clause-left
returns-clause-left c places place beside at = on_ok c.keep.result
    (c.keep.ensures places (place_of place.peer (going place.peer c.args.calls c.args.self.now.table place.next place.at place.unread)) beside ((c.in_ok-held.ensures {u = tt}).there c.args.number place at))
    (λ now. record { common_is = (c.in_ok-held.ensures {u = tt}).common c.args.number place at; are_at = now })
