use Rattle.std.proofs.Common.{sym, ◌∙◌, ap, refl, List, [], ℕ, ◌++◌, append-nil}
use Rattle.packet_stream.specs.Packing.{packet_text}
use Rattle.client_wire.specs.UnderWay.{Client}
use Rattle.client_wire.specs.Clients.{client_of}
use Rattle.session_world.proofs.Giving.{on_ok}
use Rattle.session_world.proofs.Staging.{alters_so, leaves_as, writes_nothing, writes_so}
use Rattle.session_world.proofs.stage.Stage.write.Goals as goal

pub returns-then-not-is_in : goal.returns-then-not-is_in
returns-then-not-is_in c r m =
    let taken = c.in-Some.ensures r.clients m.clients in
    on_ok c.rest-then-not-is_in.result (c.rest-then-not-is_in.ensures r (record { common = m.common; places = m.places; clients = taken.0 }) taken.1)
    (leaves_as _ _ _ _ _ (writes_nothing r c.args.number (r.clients c.args.number) (client_of c.in-Some.held) taken.1 c.args.payload.now
    (sym (c.is_there-there.ensures r.world.places m.places) ∙ c.if-not-there.false) (sym c.is_in.ensures ∙ c.if-not-is_in.true)))

pub returns-in_ok-writes-in-Some : goal.returns-in_ok-writes-in-Some
returns-in_ok-writes-in-Some c r m =
    let taken = c.in-Some.ensures r.clients m.clients in
    on_ok c.keep.result (c.keep.ensures r.clients taken.0)
    (λ now. leaves_as _ _ _ _ _ (writes_so r c.args.number (r.clients c.args.number) (client_of c.in-Some.held) taken.1 c.args.payload.now
    (sym (c.is_there-there.ensures r.world.places m.places) ∙ c.if-not-there.false) (sym c.is_in.ensures ∙ c.if-not-is_in.false))
    (alters_so r c.args.number _ _ [] [] _ _ _ m.common m.places now
    (c.in_ok-writes-in-Some.ensures {u = tt} ∙ ap (with_written c) (c.as_slice.ensures
    ∙ ((c.in_ok-_next-in-Some.ensures {u = tt}).text ∙ ap (λ (text : List ℕ). text ++ packet_text 0 c.args.payload.now) c.new-text.ensures)))
    refl (sym (append-nil c.args.out.now))))
  where
    with_written : goal.After-drop-text-inside-in-Some → List ℕ → Client
    with_written d bytes = record (client_of d.in-Some.held) { leaving = (client_of d.in-Some.held).leaving ++ bytes }
