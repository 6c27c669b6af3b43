use Rattle.std.proofs.Common.{ap, ◌∙◌, ℕ, List}
use Rattle.client_wire.specs.Clients.{client_of}
use Rattle.client_wire.specs.UnderWay.{sent_to}
use Rattle.session_world.proofs.Giving.{on_ok}
use Rattle.session_world.proofs.Staging.{sent_kept}
use Rattle.session_world.proofs.stage.Stage.put.Goals as goal

pub returns-in_ok-sent-in-Some-clause-clients : goal.returns-in_ok-sent-in-Some-clause-clients
returns-in_ok-sent-in-Some-clause-clients c all at =
    on_ok c.keep.result (c.keep.ensures all (c.in-Some.ensures all at).0)
    (sent_kept c.keep.new.clients all c.args.number c.args.put.now.sent (client_of c.in-Some.held) _ (c.in-Some.ensures all at).1
    (c.in_ok-sent-in-Some.ensures {u = tt} ∙ ap (λ (bytes : List ℕ). sent_to bytes (client_of c.in-Some.held)) c.as_slice-in-Some.ensures))
