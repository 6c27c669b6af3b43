use Rattle.std.proofs.Common.{◌≡◌, ◌≤◌, ◌-◌, ◌++◌}
use Rattle.large_script.specs.Generating.{account_events}
use Rattle.large_script.proofs.accounts.add_accounts.Given as goal

abbrev pub invariant-accounts : goal.invariant-accounts
invariant-accounts l = record {
  within : l.account ≤ 8;
  made : l.events ≡ l.fn.events ++ account_events l.account;
}

abbrev pub decreases-accounts : goal.decreases-accounts
decreases-accounts l = 8 - l.account
