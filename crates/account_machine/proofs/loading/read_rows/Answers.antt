use Rattle.std.proofs.Common.{◌∙◌, ap, sym, subst, List, find, arith}
use Rattle.account_history.specs.Naming.{is_named}
use Rattle.account_machine.specs.Loading.{IsRowFault}
use Rattle.account_machine.specs.Looks.{accounts_of}
use Rattle.account_machine.specs.declared.rows.Row.{Row}
use Rattle.account_machine.proofs.Recorded.{all-found, all-good, first-bad, handed-bad, handed-first, handed-memory, read-more, refused-first, wanting}
use Rattle.account_machine.proofs.loading.read_rows.Goals as goal

pub returns-in_err-account-clause-bad : goal.returns-in_err-account-clause-bad
returns-in_err-account-clause-bad c =
    handed-bad c.from_residual.result c.args.kept.now _ c.from_residual.ensures.1
    (first-bad c.args.kept.now c.loop-row.row-index c.row-item.result c.loop-row.rows c.loop-row-test.true c.row-item.is c.loop-row.invariant _
    (subst (λ (rows : List Row). IsRowFault (accounts_of rows) c.row-item.result c.in_err-account.field-0.0) c.as_slice.ensures c.in_err-account.ensures.bad))

pub returns-in_err-account-clause-found : goal.returns-in_err-account-clause-found
returns-in_err-account-clause-found c = λ accounts good.
    handed-memory _ c.from_residual.result _ c.from_residual.ensures.1
    (wanting c.args.kept.now c.loop-row.row-index c.row-item.result c.loop-row.rows c.loop-row-test.true c.row-item.is c.loop-row.invariant _
    (λ a is none. c.in_err-account.ensures.found a is (ap (λ (rows : List Row). find (is_named a.name) (accounts_of rows)) c.as_slice.ensures ∙ none))
    accounts good)

pub loop-row-preserved : goal.loop-row-preserved
loop-row-preserved c =
    let slice = c.as_slice.ensures in
    read-more c.args.kept.now c.loop-row.row-index c.row-item.result c.loop-row.rows c.loop-row-test.true c.row-item.is c.loop-row.invariant
    c.in_ok-account.account (record { account = c.in_ok-account.account; tally = c.new.result }) c.push.new.self
    c.in_ok-account.ensures.record_of
    (ap (λ (rows : List Row). find (is_named c.in_ok-account.account.name) (accounts_of rows)) (sym slice) ∙ c.in_ok-account.ensures.new)
    c.in_ok-account.ensures.only
    (λ i. record { account = c.in_ok-account.account; tally = c.new.ensures.value i })
    c.in_ok-push.ensures.ok

pub returns-clause-found : goal.returns-clause-found
returns-clause-found c = λ accounts good.
    ap accounts_of c.into_vec.ensures ∙ all-found c.args.kept.now c.loop-row.row-index c.loop-row.rows c.loop-row-test.false c.loop-row.invariant accounts good

pub returns-in_err-account-clause-first : goal.returns-in_err-account-clause-first
returns-in_err-account-clause-first c = λ key first.
    handed-first c.from_residual.result key _ c.from_residual.ensures.1
    (refused-first c.args.kept.now c.loop-row.row-index c.loop-row.rows (let inside = c.loop-row-test.true in omega arith) c.loop-row.invariant key first
    c.row-item.result c.row-item.is c.in_err-account.field-0.0
    (subst (λ (rows : List Row). IsRowFault (accounts_of rows) c.row-item.result c.in_err-account.field-0.0) c.as_slice.ensures c.in_err-account.ensures.bad)
    (λ a is none. c.in_err-account.ensures.found a is (ap (λ (rows : List Row). find (is_named a.name) (accounts_of rows)) c.as_slice.ensures ∙ none)))

pub returns-clause-first : goal.returns-clause-first
returns-clause-first c = λ key first.
    all-good c.args.kept.now c.loop-row.row-index c.loop-row.rows (omega arith) c.loop-row.invariant key first c.loop-row-test.false
