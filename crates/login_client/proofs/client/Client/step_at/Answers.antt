use Rattle.login_client.specs.Clients.{talk_of}
use Rattle.login_client.proofs.client.Client.step_at.Goals as goal

pub returns : goal.returns
unfolding talk_of
returns c = record { heard = c.in_ok-heard.heard; is_heard = c.in_ok-heard.ensures.meant; stands = c.in_ok-step.ensures }
