use Rattle.account_machine.proofs.Restarted.{restarts-keep}
use Rattle.account_machine.proofs.Told.{rows-are-records}
use Rattle.account_machine.proofs.laws.restarts_keep_accounts.Goals as goal

pub returns-clause-rows : goal.returns-clause-rows
returns-clause-rows c = rows-are-records

pub returns-clause-loaded : goal.returns-clause-loaded
returns-clause-loaded c = restarts-keep
