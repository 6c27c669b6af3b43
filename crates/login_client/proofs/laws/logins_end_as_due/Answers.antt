use Rattle.lg_outside.specs.Faults.{Rose}
use Rattle.login_client.specs.Conversation.{conversation}
use Rattle.login_client.proofs.Due.{ends-as-due}
use Rattle.login_client.proofs.laws.logins_end_as_due.Goals as goal

pub returns : goal.returns
returns c claim id place faults rose before after got behind sent due end x split ends =
    ends-as-due (conversation claim) id place before after (Rose faults rose) got behind sent due end x split ends
