use Rattle.std.proofs.Common.{◌≡◌, sym, subst, refl, List, ℕ}
use Rattle.account_rules.specs.declared.accounts.Account.{Account}
use Rattle.account_keeper.specs.Records.{IsRecord}
use Rattle.account_history.specs.Naming.{is_named}
use Rattle.account_machine.specs.Looks.{accounts_of}
use Rattle.account_machine.proofs.Recorded.{name-new, name-taken}
use Rattle.account_machine.proofs.loading.read_row.Goals as goal
use Rattle.std.specs.Prelude.{find, None}

pub returns-in-Some-clause-bad : goal.returns-in-Some-clause-bad
returns-in-Some-clause-bad c = (
  λ a is none.
      let same : c.in-Ok.account ≡ a = c.in-Ok.ensures.only a (subst (λ (bytes : List ℕ). IsRecord c.args.kept.now.key a bytes) (sym c.as_slice.ensures) is) in
      name-taken c.args.rows.now c.in-Ok.account.name c.in-Some.field-0 (sym c.in-Some.ensures)
      (subst (λ (b : Account). find (is_named b.name) (accounts_of c.args.rows.now) ≡ None) (sym same) none),
  refl,
)

pub returns-in-Some-clause-found : goal.returns-in-Some-clause-found
returns-in-Some-clause-found c = λ a is none. absurd ((returns-in-Some-clause-bad c).0 a is none)

pub returns-in-None-clause-new : goal.returns-in-None-clause-new
returns-in-None-clause-new c = name-new c.args.rows.now c.in-Ok.account.name (sym c.in-None.ensures)
