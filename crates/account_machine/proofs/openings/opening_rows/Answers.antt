use Rattle.std.proofs.Common.{◌≡◌, ◌∙◌, ap, arith, false}
use Rattle.factor_chain.specs.declared.credentials.Stored.{Stored}
use Rattle.factor_chain.specs.declared.credentials.Method.TheVariants as method
use Rattle.account_machine.specs.Openings.{native_stored, plain_account}
use Rattle.account_machine.proofs.Starts.{rows-more}
use Rattle.account_machine.proofs.openings.opening_rows.Goals as goal

pub loop-opening-preserved : goal.loop-opening-preserved
loop-opening-preserved c =
    let account : c.in_ok-account.account ≡ plain_account c.loop-opening.id c.opening-item.result.user method.Native (native_stored c.opening-item.result.password) false =
    c.in_ok-account.ensures
    ∙ ap (λ user. plain_account c.loop-opening.id user method.Native c.stored-primary.result false) c.as_slice-in-loop-opening.ensures
    ∙ ap (λ (s : Stored). plain_account c.loop-opening.id c.opening-item.result.user method.Native s false) (c.stored-primary.ensures ∙ ap native_stored c.as_slice.ensures) in
    record {
      rows = rows-more c.args.extra.now c.loop-opening.opening-index c.opening-item.result c.loop-opening.rows.items c.push-in-loop-opening.new.self.items c.loop-opening.id
          (record { account = c.in_ok-account.account; tally = c.new-in-loop-opening.result })
          c.loop-opening-test.true c.opening-item.is c.loop-opening.invariant.rows c.loop-opening.invariant.id
          (λ i. record { account = account i; tally = c.new-in-loop-opening.ensures.value i })
          c.in_ok-push-2.ensures.items;
      id = omega arith;
    }
