use Rattle.std.proofs.Common.{sym, ◌∙◌, ap}
use Rattle.client_wire.specs.Clients.{client_of}
use Rattle.session_world.specs.Replays.{is_cut_off}
use Rattle.session_world.proofs.Giving.{on_ok}
use Rattle.session_world.proofs.Staging.{downs_cuts, downs_nothing, leaves_as}
use Rattle.session_world.proofs.stage.Stage.down.Goals as goal

pub returns-then-is_cut_off : goal.returns-then-is_cut_off
returns-then-is_cut_off c r m =
    let taken = c.in-Some.ensures r.clients m.clients in
    on_ok c.cut_off.result (c.cut_off.ensures r (record { common = m.common; places = m.places; clients = taken.0 }))
    (leaves_as _ _ _ _ _ (downs_cuts r c.args.number (r.clients c.args.number) (client_of c.in-Some.held) taken.1 c.args.most
    (sym c.has_bytes.ensures ∙ c.if-has_bytes.false)
    (ap (λ over. is_cut_off over c.in-Some.held.result) (sym (c.is_over-over.ensures r.world.places m.places)) ∙ (sym c.is_cut_off.ensures ∙ c.if-is_cut_off.true))))

pub returns-else-is_cut_off : goal.returns-else-is_cut_off
returns-else-is_cut_off c r m =
    let taken = c.in-Some.ensures r.clients m.clients in
    on_ok c.rest.result (c.rest.ensures r (record { common = m.common; places = m.places; clients = taken.0 }) taken.1)
    (leaves_as _ _ _ _ _ (downs_nothing r c.args.number (r.clients c.args.number) (client_of c.in-Some.held) taken.1 c.args.most
    (sym c.has_bytes.ensures ∙ c.if-has_bytes.false)
    (ap (λ over. is_cut_off over c.in-Some.held.result) (sym (c.is_over-over.ensures r.world.places m.places)) ∙ (sym c.is_cut_off.ensures ∙ c.if-is_cut_off.false))))
