use Rattle.std.proofs.Common.{subst, List, ℕ, append-nil, Some, []}
use Rattle.std.proofs.lemmas.List.Elements.{recursion_from_All}
use Rattle.login_client.specs.Conversation.{ClientTalk}
use Rattle.login_client.specs.Whole.{HasSecret}
use Rattle.login_client.proofs.Opening.{all-given, login-ends}
use Rattle.login_client.proofs.laws.whole_logins_open.Goals as goal

pub returns : goal.returns
returns c claim got asked end local permitted has login =
    let given = all-given claim asked local permitted (recursion_from_All (HasSecret claim) asked has) in (
      given.0,
      given.1,
      subst (λ (l : List (List ℕ)). ClientTalk claim l given.0 (Some end)) (append-nil got) (login-ends claim got [] given.0 asked end login given.1),
    )
