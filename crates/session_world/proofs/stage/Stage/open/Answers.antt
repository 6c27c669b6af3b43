use Rattle.std.proofs.Common.{ap, sym, ◌∙◌, subst}
use Rattle.session_world.proofs.Giving.{on_ok}
use Rattle.session_world.proofs.Staging.{leaves_so, ok_both, same_doing}
use Rattle.session_world.specs.Sessions.{Follows, put_by, world_of}
use Rattle.session_world.specs.Worlds.{Doing, Happened, ToOpen, does}
use Rattle.session_world.specs.Replays.{Replay}
use Rattle.session_world.specs.declared.state.State.{State}
use Rattle.session_world.proofs.stage.Stage.open.Goals as goal

what : goal.After-drop-put-3 → Doing
what c = ToOpen c.args.number

-- what is done to the world that is kept
done : goal.After-drop-put-3 → Replay → Happened
done c r = does (world_of c.args.self.now.state.table r.world.places) (what c)

pub returns : goal.returns
unfolding what done
returns c r m =
    on_ok c.put.result (ok_both _ _ c.put.result (c.put.ensures.clients r.clients m.clients) c.put.ensures.printed)
    (λ now. leaves_so r (what c) (done c r) c.put.new.self c.open.new.out _ _ (same_doing c.args.self.now.state.table r.world (what c) m.common)
    (subst (λ (s : State). Follows (done c r) s.table s.sessions) (sym c.put.ensures.state) ((c.in_ok-open.ensures {u = tt}).left r.world.places m.places)) now.0 now.1
    ((c.in_ok-open.ensures {u = tt}).printed r.world.places m.places ∙ ap (put_by (done c r)) c.new-put.ensures))
