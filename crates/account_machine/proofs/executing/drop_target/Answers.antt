use Rattle.std.proofs.Common.{◌≡◌, ◌∙◌, ap, sym, subst, List, Option, Some}
use Rattle.account_rules.specs.declared.accounts.Account.{Account}
use Rattle.account_history.specs.Targets.{is_named_by, target_of}
use Rattle.account_machine.specs.Executing.{remove_target}
use Rattle.account_machine.specs.Keeping.{Keeps}
use Rattle.account_machine.specs.Looks.{accounts_of}
use Rattle.account_machine.specs.Targets.{place_of_target}
use Rattle.account_machine.specs.declared.rows.Row.{Row}
use Rattle.account_machine.proofs.Replaced.{done-as, found-there, removed-there}
use Rattle.account_machine.proofs.Unrefused.{no-place}
use Rattle.account_machine.proofs.executing.drop_target.Goals as goal

pub returns-clause-done : goal.returns-clause-done
returns-clause-done g c =
    let p : place_of_target c.args.rows.now.items c.args.statement.now c.args.actor ≡ Some c.in-Some.place =
    ap (λ (rows : List Row). place_of_target rows c.args.statement.now c.args.actor) (sym c.as_slice.ensures.value) ∙ sym c.in-Some.ensures in
    done-as c.take_away.result c.take_away.new.rows.items _ _ c.args.rows.now.items
    (removed-there (λ (row : Row). is_named_by c.args.statement.now c.args.actor row.account) c.args.rows.now.items c.in-Some.place p)
    c.take_away.ensures.done

pub returns-clause-kept : goal.returns-clause-kept
returns-clause-kept g c =
    let p : place_of_target c.args.rows.now.items c.args.statement.now c.args.actor ≡ Some c.in-Some.place =
    ap (λ (rows : List Row). place_of_target rows c.args.statement.now c.args.actor) (sym c.as_slice.ensures.value) ∙ sym c.in-Some.ensures in
    let found : target_of (accounts_of c.args.rows.now.items) c.args.statement.now c.args.actor ≡ Some c.index.result.now.account =
    found-there (is_named_by c.args.statement.now c.args.actor) c.args.rows.now.items c.in-Some.place c.index.result.now p c.index.ensures in
    subst (λ (t : Option Account). Keeps (remove_target t) (g.K.Keeper.told_rows c.args.keeper.now) (g.K.Keeper.told_rows c.take_away.new.keeper) c.take_away.result)
    (sym found) c.take_away.ensures.rows

pub unreachable-requires : goal.unreachable-requires
unreachable-requires g c =
    no-place c.args.rows.now.items c.args.statement.now c.args.actor c.requires
    (ap (λ (rows : List Row). place_of_target rows c.args.statement.now c.args.actor) (sym c.as_slice.ensures.value) ∙ sym c.in-None.ensures)
