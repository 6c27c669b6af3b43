use Rattle.std.proofs.Common.{sym}
use Rattle.login_client.specs.Conversation.{conversation}
use Rattle.login_client.proofs.Talking.{exchange-talked}
use Rattle.login_client.proofs.laws.logins_are_client_talks.Goals as goal

pub returns : goal.returns
returns c claim id place got sent stand x =
    let t = exchange-talked (conversation claim) id place got sent stand x in
    (t.payloads, t.written, record { now = t.now; leads = t.leads; result_is = sym t.result_is }, t.are_got, t.are_written)
