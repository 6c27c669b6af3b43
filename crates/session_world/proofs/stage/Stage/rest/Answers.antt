use Rattle.client_wire.specs.Clients.{client_of}
use Rattle.session_world.proofs.Giving.{on_ok}
use Rattle.session_world.proofs.Staging.{put_back}
use Rattle.session_world.proofs.stage.Stage.rest.Goals as goal

pub returns : goal.returns
returns c r b is =
    on_ok c.keep.result (c.keep.ensures r.clients b.clients)
    (λ now. record {
      stands = record { common = b.common; places = b.places; clients = put_back c.keep.new.clients r.clients c.args.number (client_of c.args.held) is now };
      printed = c.in_ok-print_idles.ensures {u = tt};
    })
