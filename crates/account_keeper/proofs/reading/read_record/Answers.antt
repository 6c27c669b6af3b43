use Rattle.std.proofs.Common.{[], Ok, Err, IsTrue, sym, ap, ◌∙◌, subst, arith}
use Rattle.account_keeper.specs.Record.{FitsRecord, record_text}
use Rattle.account_keeper.specs.declared.reading.RecordFault.TheVariants as fault
use Rattle.account_keeper.proofs.Whole.{again_of, at_start, handed_on}
use Rattle.account_keeper.proofs.reading.read_record.Goals as goal

pub returns-in_err-account-clause-again : goal.returns-in_err-account-clause-again
returns-in_err-account-clause-again c =
    again_of c.args.key c.args.bytes.now c.from_residual.result
    (λ a is.
    handed_on c.from_residual.result _ a c.from_residual.ensures.1
    (c.in_err-account.ensures.finds a [] (is.fits, is.ids) (at_start c.new-reader.result c.args.bytes.now a c.new-reader.ensures is.text)))

pub returns-then-not-branch-clause-only : goal.returns-then-not-branch-clause-only
returns-then-not-branch-clause-only c = λ a is.
    let same = c.in_ok-account.ensures.finds a [] (is.fits, is.ids) (at_start c.new-reader.result c.args.bytes.now a c.new-reader.ensures is.text) in
    let right : IsTrue c.in_ok-is_record_of.field-0 =
    c.in_ok-is_record_of.ensures.ok.1 (subst FitsRecord (sym same.0) is.fits, ap record_text same.0 ∙ is.text) in
    absurd (grind (arith, right, c.if-not-branch.true))

pub returns-then-not-branch-clause-again : goal.returns-then-not-branch-clause-again
returns-then-not-branch-clause-again c =
    again_of c.args.key c.args.bytes.now (Err fault.Bad) (returns-then-not-branch-clause-only c)

pub returns-clause-only : goal.returns-clause-only
returns-clause-only c = λ a is.
    let same = c.in_ok-account.ensures.finds a [] (is.fits, is.ids) (at_start c.new-reader.result c.args.bytes.now a c.new-reader.ensures is.text) in
    same.0

pub returns-clause-again : goal.returns-clause-again
returns-clause-again c = again_of c.args.key c.args.bytes.now (Ok c.in_ok-account.account) (returns-clause-only c)
