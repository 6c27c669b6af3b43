use Rattle.std.proofs.Common.{◌≡◌, ap, sym, subst, IfSome, IfOk, if◌then◌else◌}
use Rattle.account_keeper.specs.Record.{FitsRecord}
use Rattle.account_history.specs.Effects.{without}
use Rattle.account_history.specs.Targets.{is_named_by, target_of}
use Rattle.stmt_rules.specs.declared.statement.Statement.{Statement}
use Rattle.account_machine.specs.Executing.{NextFits, given_of, kept_after, next_of, put_target, remove_target, rows_after}
use Rattle.account_machine.specs.Keeping.{Keeps}
use Rattle.account_machine.specs.Looks.{accounts_of}
use Rattle.account_machine.specs.declared.rows.Row.{Row}
use Rattle.account_machine.proofs.Unrefused.{is_about_one, one-found}
use Rattle.account_machine.proofs.executing.execute.Goals as goal

pub change_target-requires-clause-fits : goal.change_target-requires-clause-fits
change_target-requires-clause-fits g c =
    let P : Statement → Type 0 = λ st.
    NextFits st (given_of c.args.numbers.now) c.args.actor c.args.salt.now c.args.now (accounts_of c.args.rows.now.items)
    → IfSome (target_of (accounts_of c.args.rows.now.items) st c.args.actor) (λ a. FitsRecord (next_of st (given_of c.args.numbers.now) c.args.salt.now c.args.now a)) in
    subst P (sym c.in-Alter.is) (λ h. h) c.requires.fits

pub returns-in-Alter-clause-kept : goal.returns-in-Alter-clause-kept
returns-in-Alter-clause-kept g c =
    let P : Statement → Type 0 = λ st.
    Keeps (put_target (next_of st (given_of c.args.numbers.now) c.args.salt.now c.args.now) (target_of (accounts_of c.args.rows.now.items) st c.args.actor)) (g.K.Keeper.told_rows c.args.keeper.now) (g.K.Keeper.told_rows c.change_target.new.keeper) c.change_target.result
    → Keeps (kept_after st (given_of c.args.numbers.now) c.args.actor c.args.salt.now c.args.now (accounts_of c.args.rows.now.items)) (g.K.Keeper.told_rows c.args.keeper.now) (g.K.Keeper.told_rows c.change_target.new.keeper) c.change_target.result in
    subst P (sym c.in-Alter.is) (λ h. h) c.change_target.ensures.kept

pub change_target-requires-in-Grant-clause-fits : goal.change_target-requires-in-Grant-clause-fits
change_target-requires-in-Grant-clause-fits g c =
    let P : Statement → Type 0 = λ st.
    NextFits st (given_of c.args.numbers.now) c.args.actor c.args.salt.now c.args.now (accounts_of c.args.rows.now.items)
    → IfSome (target_of (accounts_of c.args.rows.now.items) st c.args.actor) (λ a. FitsRecord (next_of st (given_of c.args.numbers.now) c.args.salt.now c.args.now a)) in
    subst P (sym c.in-Grant.is) (λ h. h) c.requires.fits

pub returns-in-Grant-clause-kept : goal.returns-in-Grant-clause-kept
returns-in-Grant-clause-kept g c =
    let P : Statement → Type 0 = λ st.
    Keeps (put_target (next_of st (given_of c.args.numbers.now) c.args.salt.now c.args.now) (target_of (accounts_of c.args.rows.now.items) st c.args.actor)) (g.K.Keeper.told_rows c.args.keeper.now) (g.K.Keeper.told_rows c.change_target-in-Grant.new.keeper) c.change_target-in-Grant.result
    → Keeps (kept_after st (given_of c.args.numbers.now) c.args.actor c.args.salt.now c.args.now (accounts_of c.args.rows.now.items)) (g.K.Keeper.told_rows c.args.keeper.now) (g.K.Keeper.told_rows c.change_target-in-Grant.new.keeper) c.change_target-in-Grant.result in
    subst P (sym c.in-Grant.is) (λ h. h) c.change_target-in-Grant.ensures.kept

pub change_target-requires-in-Revoke-clause-fits : goal.change_target-requires-in-Revoke-clause-fits
change_target-requires-in-Revoke-clause-fits g c =
    let P : Statement → Type 0 = λ st.
    NextFits st (given_of c.args.numbers.now) c.args.actor c.args.salt.now c.args.now (accounts_of c.args.rows.now.items)
    → IfSome (target_of (accounts_of c.args.rows.now.items) st c.args.actor) (λ a. FitsRecord (next_of st (given_of c.args.numbers.now) c.args.salt.now c.args.now a)) in
    subst P (sym c.in-Revoke.is) (λ h. h) c.requires.fits

pub returns-in-Revoke-clause-kept : goal.returns-in-Revoke-clause-kept
returns-in-Revoke-clause-kept g c =
    let P : Statement → Type 0 = λ st.
    Keeps (put_target (next_of st (given_of c.args.numbers.now) c.args.salt.now c.args.now) (target_of (accounts_of c.args.rows.now.items) st c.args.actor)) (g.K.Keeper.told_rows c.args.keeper.now) (g.K.Keeper.told_rows c.change_target-in-Revoke.new.keeper) c.change_target-in-Revoke.result
    → Keeps (kept_after st (given_of c.args.numbers.now) c.args.actor c.args.salt.now c.args.now (accounts_of c.args.rows.now.items)) (g.K.Keeper.told_rows c.args.keeper.now) (g.K.Keeper.told_rows c.change_target-in-Revoke.new.keeper) c.change_target-in-Revoke.result in
    subst P (sym c.in-Revoke.is) (λ h. h) c.change_target-in-Revoke.ensures.kept

pub returns-in-Drop-clause-done : goal.returns-in-Drop-clause-done
returns-in-Drop-clause-done g c =
    let P : Statement → Type 0 = λ st.
    IfOk c.drop_target.result (λ done. c.drop_target.new.rows.items ≡ (if done then without (λ (row : Row). is_named_by st c.args.actor row.account) c.args.rows.now.items else c.args.rows.now.items))
    → IfOk c.drop_target.result (λ done. c.drop_target.new.rows.items ≡ (if done then rows_after st (given_of c.args.numbers.now) c.args.actor c.args.salt.now c.args.now c.args.rows.now.items else c.args.rows.now.items)) in
    subst P (sym c.in-Drop.is) (λ h. h) c.drop_target.ensures.done

pub returns-in-Drop-clause-kept : goal.returns-in-Drop-clause-kept
returns-in-Drop-clause-kept g c =
    let P : Statement → Type 0 = λ st.
    Keeps (remove_target (target_of (accounts_of c.args.rows.now.items) st c.args.actor)) (g.K.Keeper.told_rows c.args.keeper.now) (g.K.Keeper.told_rows c.drop_target.new.keeper) c.drop_target.result
    → Keeps (kept_after st (given_of c.args.numbers.now) c.args.actor c.args.salt.now c.args.now (accounts_of c.args.rows.now.items)) (g.K.Keeper.told_rows c.args.keeper.now) (g.K.Keeper.told_rows c.drop_target.new.keeper) c.drop_target.result in
    subst P (sym c.in-Drop.is) (λ h. h) c.drop_target.ensures.kept

pub change_target-requires-clause-found : goal.change_target-requires-clause-found
change_target-requires-clause-found g c =
    one-found c.args.statement.now (target_of (accounts_of c.args.rows.now.items) c.args.statement.now c.args.actor) (ap is_about_one c.in-Alter.is) c.requires.placed

pub drop_target-requires : goal.drop_target-requires
drop_target-requires g c =
    one-found c.args.statement.now (target_of (accounts_of c.args.rows.now.items) c.args.statement.now c.args.actor) (ap is_about_one c.in-Drop.is) c.requires.placed

pub change_target-requires-in-Grant-clause-found : goal.change_target-requires-in-Grant-clause-found
change_target-requires-in-Grant-clause-found g c =
    one-found c.args.statement.now (target_of (accounts_of c.args.rows.now.items) c.args.statement.now c.args.actor) (ap is_about_one c.in-Grant.is) c.requires.placed

pub change_target-requires-in-Revoke-clause-found : goal.change_target-requires-in-Revoke-clause-found
change_target-requires-in-Revoke-clause-found g c =
    one-found c.args.statement.now (target_of (accounts_of c.args.rows.now.items) c.args.statement.now c.args.actor) (ap is_about_one c.in-Revoke.is) c.requires.placed
