use Rattle.std.proofs.Common.{◌≡◌, IfOk, Bool, sym, ◌∙◌, subst}
use Rattle.session_engine.specs.Standing.{Stands}
use Rattle.session_talk.specs.Logins.{commands_left}
use Rattle.session_talk.specs.Statements as stating
use Rattle.session_engine.proofs.statements.salt_on.Goals as goal

-- without BY no salt is drawn
pub returns-else-wants_salt : goal.returns-else-wants_salt
returns-else-wants_salt c =
    subst (λ (by : Bool). IfOk c.prepare_on.result
    (λ step. Stands step (stating.salted (commands_left c.args.opened.left) by c.args.opened c.args.look c.args.statement)))
    (sym c.if-wants_salt.false ∙ c.wants_salt.ensures) c.prepare_on.ensures
