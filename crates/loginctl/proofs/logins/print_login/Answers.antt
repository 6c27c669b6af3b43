use Rattle.std.proofs.Common.{refl, sym, ◌∙◌, subst, Bool, IsTrue}
use Rattle.loginctl.specs.Logins.{login_line, login_status, no_memory, told}
use Rattle.loginctl.proofs.Dues.{printed-with, wrote-nothing}
use Rattle.loginctl.proofs.logins.print_login.Goals as goal

pub returns-then-not-is_told-clause-answer : goal.returns-then-not-is_told-clause-answer
returns-then-not-is_told-clause-answer g c = no_memory c.log_in-end.result c.log_in-end.ensures.ends (wrote-nothing _)

pub returns-in-Ok-clause-answer : goal.returns-in-Ok-clause-answer
returns-in-Ok-clause-answer g c =
    told c.log_in-end.result c.print.result c.log_in-end.ensures.ends
    (c.is_told.ensures.0 (subst (λ (b : Bool). IsTrue b) (sym c.if-not-is_told.false) refl))
    (printed-with _ _ _ c.status_of.result (login_status c.log_in-end.result) c.as_slice.result.now (login_line c.log_in-end.result) c.print.result c.status_of.ensures
    (c.as_slice.ensures ∙ c.in-Ok.ensures) c.print.ensures.printed)

pub returns-in-Err-clause-answer : goal.returns-in-Err-clause-answer
returns-in-Err-clause-answer g c = no_memory c.log_in-end.result c.log_in-end.ensures.ends (wrote-nothing _)
