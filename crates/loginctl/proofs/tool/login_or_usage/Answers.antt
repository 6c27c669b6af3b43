use Rattle.std.proofs.Common.{refl, subst, Option}
use Rattle.std.specs.Prelude.{map, string_bytes}
use Rattle.loginctl.specs.LoginWords.{IsChosen, choice_of}
use Rattle.loginctl.specs.Tool.{login, unread, usage}
use Rattle.loginctl.specs.declared.login_words.Chosen.{Chosen}
use Rattle.loginctl.proofs.Dues.{printed-as, wrote-nothing}
use Rattle.loginctl.specs.declared.status.Status.TheVariants.{Usage}
use Rattle.loginctl.proofs.tool.login_or_usage.Goals as goal

pub returns-in-Ok-Some-clause-answer : goal.returns-in-Ok-Some-clause-answer
returns-in-Ok-Some-clause-answer g c =
    login (choice_of c.in-Ok-Some.chosen) c.print_login.result
    (subst (λ (found : Option Chosen). IsChosen (map string_bytes c.args.words.now) found) c.in-Ok-Some.field-0-is c.in-Ok-Some.ensures) c.print_login.ensures.answer

pub returns-in-Ok-None-clause-answer : goal.returns-in-Ok-None-clause-answer
returns-in-Ok-None-clause-answer g c =
    usage c.print.result (subst (λ (found : Option Chosen). IsChosen (map string_bytes c.args.words.now) found) c.in-Ok-None.field-0-is c.in-Ok-None.ensures) refl
    (printed-as _ _ _ Usage _ _ c.print.result c.usage.ensures c.print.ensures.printed)

pub returns-in-Err-clause-answer : goal.returns-in-Err-clause-answer
returns-in-Err-clause-answer g c = unread refl (wrote-nothing _)
