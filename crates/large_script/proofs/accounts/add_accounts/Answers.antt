use Rattle.std.proofs.Common.{arith}
use Rattle.large_script.proofs.Growing.{account_added, no_accounts}
use Rattle.large_script.proofs.accounts.add_accounts.Goals as goal

pub accounts-init : goal.accounts-init
accounts-init c = record { within = omega arith; made = no_accounts c.args.events.now }

pub accounts-preserved : goal.accounts-preserved
accounts-preserved c = record {
  within = let below = c.accounts-test.true in omega (arith, below);
  made = account_added c.args.events.now c.accounts.events c.push.new.self c.accounts.account c.in_ok-text.text c.accounts.invariant.made
      (c.in_ok-text.ensures {u = tt}) c.in_ok-push.ensures.ok;
}
