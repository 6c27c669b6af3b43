use Rattle.std.proofs.Common.{List, ℕ, subst}
use Rattle.login_client.specs.Clients.{talk_of}
use Rattle.login_client.specs.Phases.{StepsAt}
use Rattle.login_client.proofs.Standing.{step_acts}
use Rattle.login_client.proofs.client.Client.on.Goals as goal

pub returns-clause-acts : goal.returns-clause-acts
unfolding talk_of
returns-clause-acts c =
    step_acts c.args.self.now.claim (talk_of c.args.self.now) c.args.packet.now c.in_ok-says.field-0 c.act_of.result
    (subst (λ (payload : List ℕ). StepsAt c.args.self.now.claim (talk_of c.args.self.now) payload c.in_ok-says.field-0) c.as_slice.ensures c.in_ok-says.ensures)
    c.act_of.ensures
