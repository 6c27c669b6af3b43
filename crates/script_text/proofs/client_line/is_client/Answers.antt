use Rattle.std.proofs.Common.{true}
use Rattle.script_text.proofs.Clients.{other-name, tested}
use Rattle.script_text.proofs.client_line.is_client.Goals as goal

pub returns-then-not-has_no_zero : goal.returns-then-not-has_no_zero
returns-then-not-has_no_zero c =
    other-name c.args.flags c.args.user.now c.args.secrets.now c.if-not-are_usable.ensures c.if-not-has_no_zero.ensures

pub returns : goal.returns
returns c =
    tested true true c.are_fit.result c.args.flags c.args.user.now c.args.secrets.now c.if-not-are_usable.ensures c.if-not-has_no_zero.ensures
    c.are_fit.ensures
