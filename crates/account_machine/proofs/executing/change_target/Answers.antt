use Rattle.std.proofs.Common.{◌≡◌, ◌∙◌, ap, sym, subst, List, Option, Some, IfSome, slice_set}
use Rattle.account_rules.specs.declared.accounts.Account.{Account}
use Rattle.account_keeper.specs.Record.{FitsRecord}
use Rattle.account_history.specs.Targets.{is_named_by, target_of}
use Rattle.account_machine.specs.Executing.{clears_of, given_of, next_of, put_account, put_target, row_with}
use Rattle.account_machine.specs.Keeping.{Keeps}
use Rattle.account_machine.specs.Looks.{accounts_of}
use Rattle.account_machine.specs.Targets.{place_of_target}
use Rattle.account_machine.specs.declared.rows.Row.{Row}
use Rattle.account_machine.proofs.Replaced.{changed-there, done-as, found-there}
use Rattle.account_machine.proofs.Unrefused.{no-place}
use Rattle.account_machine.proofs.executing.change_target.Goals as goal

pub replace-requires-clause-fits : goal.replace-requires-clause-fits
replace-requires-clause-fits g c =
    let p : place_of_target c.args.rows.now.items c.args.statement.now c.args.actor ≡ Some c.in-Some.place =
    ap (λ (rows : List Row). place_of_target rows c.args.statement.now c.args.actor) (sym c.as_slice.ensures.value) ∙ sym c.in-Some.ensures in
    let found : target_of (accounts_of c.args.rows.now.items) c.args.statement.now c.args.actor ≡ Some c.index.result.now.account =
    found-there (is_named_by c.args.statement.now c.args.actor) c.args.rows.now.items c.in-Some.place c.index.result.now p c.index.ensures in
    let next : Account → Account = next_of c.args.statement.now (given_of c.args.numbers.now) c.args.salt.now c.args.now in
    let new : c.in_ok-row-in-Some.row ≡ row_with (clears_of c.args.statement.now) (next_of c.args.statement.now (given_of c.args.numbers.now) c.args.salt.now c.args.now) c.index.result.now =
    c.in_ok-row-in-Some.ensures in
    subst FitsRecord (sym (ap (λ (row : Row). row.account) new))
    (subst (λ (t : Option Account). IfSome t (λ a. FitsRecord (next a))) found c.requires.fits)

pub returns-clause-done : goal.returns-clause-done
returns-clause-done g c =
    let p : place_of_target c.args.rows.now.items c.args.statement.now c.args.actor ≡ Some c.in-Some.place =
    ap (λ (rows : List Row). place_of_target rows c.args.statement.now c.args.actor) (sym c.as_slice.ensures.value) ∙ sym c.in-Some.ensures in
    let change : Row → Row = row_with (clears_of c.args.statement.now) (next_of c.args.statement.now (given_of c.args.numbers.now) c.args.salt.now c.args.now) in
    let new : c.in_ok-row-in-Some.row ≡ row_with (clears_of c.args.statement.now) (next_of c.args.statement.now (given_of c.args.numbers.now) c.args.salt.now c.args.now) c.index.result.now =
    c.in_ok-row-in-Some.ensures in
    done-as c.replace.result c.replace.new.rows.items _ _ c.args.rows.now.items
    (ap (λ (row : Row). slice_set c.args.rows.now.items c.in-Some.place row) new
    ∙ changed-there (λ (row : Row). is_named_by c.args.statement.now c.args.actor row.account) change c.index.result.now c.args.rows.now.items c.in-Some.place p c.index.ensures)
    c.replace.ensures.done

pub returns-clause-kept : goal.returns-clause-kept
returns-clause-kept g c =
    let p : place_of_target c.args.rows.now.items c.args.statement.now c.args.actor ≡ Some c.in-Some.place =
    ap (λ (rows : List Row). place_of_target rows c.args.statement.now c.args.actor) (sym c.as_slice.ensures.value) ∙ sym c.in-Some.ensures in
    let found : target_of (accounts_of c.args.rows.now.items) c.args.statement.now c.args.actor ≡ Some c.index.result.now.account =
    found-there (is_named_by c.args.statement.now c.args.actor) c.args.rows.now.items c.in-Some.place c.index.result.now p c.index.ensures in
    let next : Account → Account = next_of c.args.statement.now (given_of c.args.numbers.now) c.args.salt.now c.args.now in
    let new : c.in_ok-row-in-Some.row ≡ row_with (clears_of c.args.statement.now) (next_of c.args.statement.now (given_of c.args.numbers.now) c.args.salt.now c.args.now) c.index.result.now =
    c.in_ok-row-in-Some.ensures in
    subst (λ (t : Option Account). Keeps (put_target next t) (g.K.Keeper.told_rows c.args.keeper.now) (g.K.Keeper.told_rows c.replace.new.keeper) c.replace.result)
    (sym found)
    (subst (λ (a : Account). Keeps (put_account a) (g.K.Keeper.told_rows c.args.keeper.now) (g.K.Keeper.told_rows c.replace.new.keeper) c.replace.result)
    (ap (λ (row : Row). row.account) new) c.replace.ensures.rows)

pub unreachable-requires : goal.unreachable-requires
unreachable-requires g c =
    no-place c.args.rows.now.items c.args.statement.now c.args.actor c.requires.found
    (ap (λ (rows : List Row). place_of_target rows c.args.statement.now c.args.actor) (sym c.as_slice.ensures.value) ∙ sym c.in-None.ensures)
