use Rattle.std.proofs.Common.{ap, sym, ◌∙◌, subst, drop, List, ℕ}
use Rattle.session_world.proofs.Giving.{on_ok}
use Rattle.session_world.proofs.Staging.{leaves_as, leaves_so, ok_both, same_doing}
use Rattle.client_wire.specs.Clients.{AreClients, client_of}
use Rattle.session_world.specs.Sessions.{Follows, put_by, world_of}
use Rattle.session_world.specs.Staged.{StandsBeside}
use Rattle.session_world.specs.Worlds.{Doing, Happened, ToSend, does}
use Rattle.session_world.specs.Replays.{Replay, doing}
use Rattle.client_wire.specs.UnderWay.{Client, with_client}
use Rattle.session_world.specs.declared.state.State.{State}
use Rattle.session_world.proofs.stage.Stage.bring.Goals as goal

what : goal.After-drop-put-3 → Doing
what c = ToSend c.args.number c.front.result.now

-- what is done to the world that is kept
done : goal.After-drop-put-3 → Replay → Happened
done c r = does (world_of c.args.self.now.state.table r.world.places) (what c)

-- the bytes are no longer with the client
without : goal.After-drop-put-3 → Replay → Replay
without c r = record r { clients = with_client r.clients c.args.number (record (client_of c.args.held) { leaving = drop c.args.most c.args.held.leaving }) }

kept : (c : goal.After-drop-put-3) (r : Replay) → StandsBeside c.args.number c.args.self.now r → AreClients c.keep.new.clients (without c r).clients
unfolding without
kept c r b = subst (λ (client : Client). AreClients c.keep.new.clients (with_client r.clients c.args.number client)) c.brought.ensures
    (c.in_ok-keep.ensures {u = tt} r.clients b.clients)

pub returns : goal.returns
unfolding what done without
returns c r b =
    on_ok c.put.result (ok_both _ _ c.put.result (c.put.ensures.clients (without c r).clients (kept c r b)) c.put.ensures.printed)
    (λ now. leaves_as _ _ _ _ _ (ap (λ (bytes : List ℕ). doing (without c r) (ToSend c.args.number bytes)) (sym c.front.ensures))
    (leaves_so (without c r) (what c) (done c r) c.put.new.self c.send.new.out _ _ (same_doing c.args.self.now.state.table r.world (what c) b.common)
    (subst (λ (s : State). Follows (done c r) s.table s.sessions) (sym c.put.ensures.state) ((c.in_ok-send.ensures {u = tt}).left r.world.places b.places)) now.0 now.1
    ((c.in_ok-send.ensures {u = tt}).printed r.world.places b.places ∙ ap (put_by (done c r)) c.new-put.ensures)))
