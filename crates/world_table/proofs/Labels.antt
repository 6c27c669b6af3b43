-- An account that is looked at has few labels.
use Rattle.std.proofs.Common.{refl, IsTrue, length, Option, Some, None, IfSome}
use Rattle.std.proofs.lemmas.Bool.{le-leb}
use Rattle.factor_chain.specs.declared.credentials.InForce.{InForce}
use Rattle.account_machine.specs.Labels.{ShowsFewLabels}
use Rattle.session_talk.specs.Turns.{has_few_labels}

pub few_labels : (shown : Option InForce) → IfSome shown ShowsFewLabels → IsTrue (has_few_labels shown)
few_labels None few = refl
few_labels (Some account) few = le-leb (length account.labels) 2 few
