use Rattle.std.proofs.Common.{ap, sym, ◌∙◌, List, ℕ, ◌++◌}
use Rattle.session_world.proofs.Giving.{on_ok}
use Rattle.session_world.proofs.Staging.{begins_does, begun_leaves, leaves_as, same_doing}
use Rattle.session_world.specs.Replays.{Replay}
use Rattle.client_wire.specs.UnderWay.{claim_of, new_client}
use Rattle.session_world.specs.Sessions.{put_by, world_of}
use Rattle.session_world.specs.Worlds.{Happened, ToOpen, does}
use Rattle.session_world.proofs.stage.Stage.begin.Goals as goal

-- what is done to the world that is kept
done : goal.After-drop-put-3 → Replay → Happened
done c r = does (world_of c.args.self.now.state.table r.world.places) (ToOpen c.args.number)

pub returns : goal.returns
unfolding done
returns c r m =
    on_ok c.keep.result (c.keep.ensures r.clients (λ q other. m.clients q))
    (λ now. leaves_as _ _ _ _ _ (begins_does r c.args.number _ (sym (c.is_used.ensures r.world.places m.places) ∙ c.if-is_used.false))
    (begun_leaves r c.args.number _ (done c r) _ _ c.open.new.out _ _ (same_doing c.args.self.now.state.table r.world (ToOpen c.args.number) m.common)
    ((c.in_ok-open.ensures {u = tt}).left r.world.places m.places) now (c.in_ok-held.ensures {u = tt} ∙ ap (new_client (claim_of c.args.flags c.args.user.now c.args.secrets.now)) c.as_slice-2.ensures)
    ((c.in_ok-bytes.ensures {u = tt}).ok ∙ ap (λ (text : List ℕ). c.args.out.now ++ text) c.as_slice.ensures)
    ((c.in_ok-open.ensures {u = tt}).printed r.world.places m.places ∙ ap (put_by (done c r)) c.new-put.ensures)))
