use Rattle.std.proofs.Common.{sym, ◌∙◌}
use Rattle.client_wire.specs.Clients.{client_of}
use Rattle.session_world.proofs.Giving.{on_ok}
use Rattle.session_world.proofs.Staging.{leaves_as, ups_brings, ups_none_there, ups_nothing}
use Rattle.session_world.proofs.stage.Stage.up.Goals as goal

pub returns-then-not-there : goal.returns-then-not-there
returns-then-not-there c r m =
    let taken = c.in-Some.ensures r.clients m.clients in
    on_ok c.rest.result (c.rest.ensures r (record { common = m.common; places = m.places; clients = taken.0 }) taken.1)
    (leaves_as _ _ _ _ _ (ups_none_there r c.args.number (r.clients c.args.number) (client_of c.in-Some.held) taken.1 c.args.most
    (sym (c.is_there-there.ensures r.world.places m.places) ∙ c.if-not-there.true)))

pub returns-then-not-has_bytes : goal.returns-then-not-has_bytes
returns-then-not-has_bytes c r m =
    let taken = c.in-Some.ensures r.clients m.clients in
    on_ok c.rest-then-not-has_bytes.result (c.rest-then-not-has_bytes.ensures r (record { common = m.common; places = m.places; clients = taken.0 }) taken.1)
    (leaves_as _ _ _ _ _ (ups_nothing r c.args.number (r.clients c.args.number) (client_of c.in-Some.held) taken.1 c.args.most
    (sym (c.is_there-there.ensures r.world.places m.places) ∙ c.if-not-there.false) (sym c.has_bytes.ensures ∙ c.if-not-has_bytes.true)))

pub returns-else-not-has_bytes : goal.returns-else-not-has_bytes
returns-else-not-has_bytes c r m =
    let taken = c.in-Some.ensures r.clients m.clients in
    on_ok c.bring.result (c.bring.ensures r (record { common = m.common; places = m.places; clients = taken.0 }))
    (leaves_as _ _ _ _ _ (ups_brings r c.args.number (r.clients c.args.number) (client_of c.in-Some.held) taken.1 c.args.most
    (sym (c.is_there-there.ensures r.world.places m.places) ∙ c.if-not-there.false) (sym c.has_bytes.ensures ∙ c.if-not-has_bytes.false)))
