use Rattle.std.proofs.Common.{ap, sym, ◌∙◌, subst}
use Rattle.session_world.proofs.Giving.{on_ok}
use Rattle.session_world.proofs.Staging.{leaves_so, ok_both, same_doing}
use Rattle.session_world.specs.Sessions.{Follows, put_by, world_of}
use Rattle.session_world.specs.Worlds.{ToExecute, does}
use Rattle.session_world.specs.declared.state.State.{State}
use Rattle.session_world.proofs.stage.Stage.execute.Goals as goal

pub returns : goal.returns
returns c r m =
    on_ok c.put.result (ok_both _ _ c.put.result (c.put.ensures.clients r.clients m.clients) c.put.ensures.printed)
    (λ now. leaves_so r (ToExecute c.args.statement.now) (does (world_of c.args.self.now.state.table r.world.places) (ToExecute c.args.statement.now))
    c.put.new.self c.administer.new.out _ _ (same_doing c.args.self.now.state.table r.world (ToExecute c.args.statement.now) m.common)
    (subst (λ (s : State). Follows (does (world_of c.args.self.now.state.table r.world.places) (ToExecute c.args.statement.now)) s.table s.sessions)
    (sym c.put.ensures.state) ((c.in_ok-administer.ensures {u = tt}).left r.world.places m.places)) now.0 now.1
    ((c.in_ok-administer.ensures {u = tt}).printed r.world.places
    ∙ ap (put_by (does (world_of c.args.self.now.state.table r.world.places) (ToExecute c.args.statement.now))) c.new-put.ensures))
