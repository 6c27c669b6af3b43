use Rattle.std.proofs.Common.{sym, ◌∙◌}
use Rattle.session_world.proofs.Giving.{on_ok}
use Rattle.session_world.proofs.Staging.{idle_leaves, leaves_as, sends_does, sends_idles}
use Rattle.session_world.proofs.stage.Stage.from_script.Goals as goal

pub returns-then-has_client : goal.returns-then-has_client
returns-then-has_client c r m =
    on_ok c.print_idles.result c.print_idles.ensures
    (λ printed. leaves_as _ _ _ _ _ (sends_idles r c.args.number c.args.bytes.now (r.clients c.args.number) (sym (c.has_client.ensures r.clients m.clients) ∙ c.if-has_client.true))
    (idle_leaves r c.args.number _ _ _ m printed))

pub returns : goal.returns
returns c r m =
    on_ok c.send.result (c.send.ensures r m)
    (leaves_as _ _ _ _ _ (sends_does r c.args.number c.args.bytes.now (r.clients c.args.number) (sym (c.has_client.ensures r.clients m.clients) ∙ c.if-has_client.false)))
