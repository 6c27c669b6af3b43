use Rattle.std.proofs.Common.{◌∙◌, ap, ℕ, Option}
use Rattle.account_rules.specs.declared.accounts.Account.{Account}
use Rattle.account_history.specs.Targets.{is_named_by}
use Rattle.account_machine.specs.Digesting.{cleared_numbers}
use Rattle.account_machine.specs.Looks.{account_at}
use Rattle.account_machine.proofs.Found.{found-in}
use Rattle.account_machine.proofs.committing.forgotten_numbers.Goals as goal

pub returns : goal.returns
returns c =
    c.cleared_numbers.ensures
    ∙ ap (λ (target : Option Account). cleared_numbers c.args.statement.now target)
    (c.account_at-target.ensures ∙ ap (λ (place : Option ℕ). account_at c.args.rows.now place) c.find_target.ensures
    ∙ found-in c.args.rows.now (is_named_by c.args.statement.now c.args.actor))
